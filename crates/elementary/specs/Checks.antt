-- The checks of a call, in order: each a test, and the number that refuses where it fails. Each statement is proved once, in proofs/. Definitions only.
use Rattle.std.specs.Prelude.{◌≡◌, ℕ, Bool, true, false, ◌↔◌, List, [], ◌∷◌, ◌++◌, Result, Ok, Err}
use Rattle.elementary.specs.declared.Refusal.{Refusal}

pub data Verdict : Type 0 where
  passes : Verdict
  refused : ℕ → Verdict

-- of one check
unfoldable pub verdict : Bool × ℕ → Verdict
verdict (true, n) = passes
verdict (false, n) = refused n

-- of two verdicts the first that refuses
unfoldable pub first_of : Verdict → Verdict → Verdict
first_of passes v = v
first_of (refused n) v = refused n

-- the number of the first check that fails
unfoldable pub first_failing : List (Bool × ℕ) → Verdict
first_failing [] = passes
first_failing (c ∷ l) = first_of (verdict c) (first_failing l)

-- as the code says it
abbrev pub by : ℕ → Refusal
by n = record { 0 = n }

unfoldable pub check_of : Verdict → Result Unit Refusal
check_of passes = Ok tt
check_of (refused n) = Err (by n)

-- ==== statements
-- a check with this number fails, and all before it pass
pub data Refuses : List (Bool × ℕ) → ℕ → Type 0 where
  here : {b : Bool} {n : ℕ} {l : List (Bool × ℕ)} → b ≡ false → Refuses ((b, n) ∷ l) n
  later : {b : Bool} {m n : ℕ} {l : List (Bool × ℕ)} → b ≡ true → Refuses l n → Refuses ((b, m) ∷ l) n

abbrev pub FirstFailing : Type 0
FirstFailing = (l : List (Bool × ℕ)) (n : ℕ) → (first_failing l ≡ refused n) ↔ Refuses l n

-- each check passes
pub data Passes : List (Bool × ℕ) → Type 0 where
  none : Passes []
  each : {b : Bool} {n : ℕ} {l : List (Bool × ℕ)} → b ≡ true → Passes l → Passes ((b, n) ∷ l)

abbrev pub NoneFailing : Type 0
NoneFailing = (l : List (Bool × ℕ)) → (first_failing l ≡ passes) ↔ Passes l

-- checks after checks
abbrev pub FailingJoined : Type 0
FailingJoined = (l r : List (Bool × ℕ)) → first_failing (l ++ r) ≡ first_of (first_failing l) (first_failing r)
