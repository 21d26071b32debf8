-- What is promised of what is printed for a sheet. No contract can say which bytes standard output takes, nor that it takes them: what is handed on to it can be said, and how much. Definitions only.
use Rattle.std.specs.Prelude.{◌≡◌, ℕ, suc, ◌≤◌, List, length, take, drop, Result, Ok, Err}
use Rattle.sheet.specs.Sheet.{most_bytes}
use Rattle.sheet.specs.Kinds.{printed_as}
use Rattle.sheet.specs.declared.text.Kind.{Kind}
use Rattle.printing.specs.declared.output.Done.{Done}
use Rattle.printing.specs.declared.PrintError.{PrintError}
use Rattle.printing.specs.declared.PrintError.TheVariants.{NotRead, NotWritten}

-- a text is what comes next of all that is printed for a sheet, after so many bytes
abbrev pub Next : Kind → List ℕ → ℕ → List ℕ → Type 0
Next k s done t = (done ≤ length (printed_as k s)) × (t ≡ take (length t) (drop done (printed_as k s)))

-- so many bytes are done then, or the answer that a write failed
unfoldable pub HandedOn : {E : Type 0} → ℕ → Result Done E → Type 0
HandedOn n (Ok d) = d.count ≡ n
HandedOn n (Err error) = Unit {0}

-- so many bytes, or the answer that a write failed
unfoldable pub Counted : ℕ → Result ℕ PrintError → Type 0
Counted n (Ok m) = m ≡ n
Counted n (Err (NotRead error)) = ⊥
Counted n (Err (NotWritten error)) = Unit {0}

-- all that is printed for some sheet, of which one byte more than the longest is read at most
unfoldable pub OfSomeSheet : Kind → Result ℕ PrintError → Type 0
OfSomeSheet k (Ok n) = (s : List ℕ) × (length s ≤ suc most_bytes) × (n ≡ length (printed_as k s))
OfSomeSheet k (Err error) = Unit {0}
