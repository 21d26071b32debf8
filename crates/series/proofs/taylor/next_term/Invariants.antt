use mathlib.Core.Path.{◌≡◌}
use Prim.Native.Nat.{ℕ}
use mathlib.Core.Bool.{Bool}
use mathlib.Core.List.{List}
use lib.ListN.{length}
use lib.Ieee.{Float}
use Rattle.elementary.specs.Float.{◌⊕◌, ◌⊗◌}
use Rattle.operator.specs.Vectors.{at, before}
use Rattle.series.specs.Series.{operator_over}
use Rattle.series.specs.Slices.{slice_row}
use Rattle.operator.proofs.Loops.{filled, later}
use Rattle.series.proofs.taylor.next_term.Given as goal

abbrev pub row : Bool → Bool → List Float → List Float → Float → List Float → List Float → ℕ → Float
row half plain x diag eta left right = slice_row half plain (operator_over (length x) diag left right) eta x

-- an entry of the term
abbrev pub entry : Bool → Bool → List Float → List Float → Float → List Float → List Float → Float → ℕ → Float
entry half plain x diag eta left right inv k = row half plain x diag eta left right k ⊗ inv

abbrev pub invariant-loop-i : goal.invariant-loop-i
invariant-loop-i l =
    (l.lower ≡ before l.initial.x l.i)
    × (l.x ≡ filled (later (entry l.rows.half l.rows.plain l.initial.x l.rows.diag.now l.rows.eta_dt l.rows.left.now l.rows.right.now l.inv) l.initial.x) l.initial.x l.i) × (l.v ≡ filled (later (λ k. at l.initial.v k ⊕ entry l.rows.half l.rows.plain l.initial.x l.rows.diag.now l.rows.eta_dt l.rows.left.now l.rows.right.now l.inv k) l.initial.v) l.initial.v l.i)
