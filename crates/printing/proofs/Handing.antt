-- What is handed on, fill by fill, is what is printed for the sheet. Assumes nothing.
use Rattle.std.specs.Prelude.{Result, Ok, Err}
use mathlib.Core.Path.{◌≡◌, refl, sym, ap, ◌∙◌, subst}
use Prim.Native.Nat.{ℕ, suc, ◌+◌, ◌-◌, ◌*◌, ◌≤◌}
use native.Mathlib.Nat.{mul-le-mul_left, min-le_right}
use native.Mathlib.Omega.{arith}
use mathlib.Core.List.{List, ◌++◌}
use lib.ListN.{length, take, drop, length-append, length-take, length-drop}
use lib.Seq.{take_at, drop_at, drop-drop}
use Rattle.ladders.specs.Ladder.{most_ladder}
use Rattle.sheet.specs.Sheet.{most_bytes}
use Rattle.sheet.specs.Kinds.{printed_as}
use Rattle.sheet.specs.Fill.{filled_as, left_as}
use Rattle.sheet.specs.Promises.{Followed}
use Rattle.sheet.specs.declared.text.Kind.{Kind}
use Rattle.sheet.proofs.Texts.{room_most}
use Rattle.sheet.proofs.Whole.{steps_make_the_whole, printed_bounded}
use Rattle.sheet.proofs.Fills.{fill_first, nothing_left}
use Rattle.printing.specs.Printing.{Next, HandedOn, Counted, OfSomeSheet}
use Rattle.printing.specs.declared.output.Done.{Done}
use Rattle.printing.specs.declared.PrintError.{PrintError}

-- ---- a text that comes next: with it no more is done than the longest print has
pub next_most : (k : Kind) (s : List ℕ) (done : ℕ) (t : List ℕ) → Next k s done t → done + length t ≤ most_bytes * most_ladder
next_most k s done t h =
    let all = printed_as k s in
    let some = ap length h.1 ∙ length-take (length t) (drop done all) in
    omega (arith, h.0, some, min-le_right (length t) (length (drop done all)), length-drop done all, printed_bounded k s, mul-le-mul_left most_bytes (room_most k))

-- how many are done, from what was answered
pub handed_on : {E : Type 0} (m : ℕ) (d : Done) (r : Result Done E) → r ≡ Ok d → HandedOn m r → d.count ≡ m
unfolding HandedOn
handed_on m d (Ok x) e h = let z : x ≡ d = cc in ap (λ (y : Done). y.count) (sym z) ∙ h
handed_on m d (Err error) e h = let z : ◌≡◌ {A = ℕ} 0 1 = cc in absurd (omega arith)

-- ---- so many bytes are handed on, and what is left of all follows from a place on
pub record Handing (k : Kind) (s : List ℕ) (at done : ℕ) : Type 0 where
  pub within : done ≤ length (printed_as k s)
  pub left : Followed k s at (drop done (printed_as k s))

pub handing_none : (k : Kind) (s : List ℕ) → Handing k s 0 0
handing_none k s = record { within = omega arith; left = steps_make_the_whole k s }

module _ (k : Kind) (s : List ℕ) (at done : ℕ) (h : Handing k s at done) where
  abbrev all : List ℕ
  all = printed_as k s

  -- the texts of a fill come next
  pub handing_next : (b text : List ℕ) (n next : ℕ) → filled_as k s at b ≡ Ok (n, next) → text ≡ take n (left_as k s at b) → Next k s done text × Handing k s next (done + length text)
  handing_next b text n next e t =
      let f = fill_first k s at b n next (drop done all) e h.left in
      let u = f.0 in
      let v : drop done all ≡ text ++ u = f.1 ∙ ap (λ (x : List ℕ). x ++ u) (sym t) in
      let r : drop (done + length text) all ≡ u = sym (drop-drop (length text) done all) ∙ ap (drop (length text)) v ∙ drop_at text u (length text) refl in
      let m : length all - done ≡ length text + length u = sym (length-drop done all) ∙ ap length v ∙ length-append text u in (
        (h.within, sym (ap (take (length text)) v ∙ take_at text u (length text) refl)),
        record { within = omega (arith, h.within); left = subst (Followed k s next) (sym r) f.2 },
      )

  -- from the end of the sheet on, all is handed on
  pub handing_all : length s ≤ at → done ≡ length all
  handing_all g =
      let z = ap length (nothing_left k s at (drop done all) g h.left) in
      omega (arith, h.within, length-drop done all, z)

-- ---- a sheet that was read: the first bytes of a buffer
pub read_most : (n : ℕ) (s l : List ℕ) → s ≡ take n l → length s ≤ length l
read_most n s l e = omega (arith, ap length e ∙ length-take n l, min-le_right n (length l))

pub of_sheet : (k : Kind) (s : List ℕ) (r : Result ℕ PrintError) → length s ≤ suc most_bytes → Counted (length (printed_as k s)) r → OfSomeSheet k r
unfolding Counted OfSomeSheet
of_sheet k s (Ok n) h e = (s, h, e)
of_sheet k s (Err error) h e = tt
