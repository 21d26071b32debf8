use mathlib.Core.Path.{◌≡◌}
use Prim.Native.Nat.{ℕ}
use mathlib.Core.Bool.{Bool, false}
use mathlib.Core.List.{List}
use lib.ListN.{length}
use lib.Ieee.{Float}
use Rattle.elementary.specs.Float.{◌⊕◌}
use Rattle.operator.specs.Vectors.{at, before}
use Rattle.series.specs.Series.{operator_over}
use Rattle.series.specs.Slices.{slice_row}
use Rattle.operator.proofs.Loops.{filled}
use Rattle.series.proofs.taylor.first_term.Given as goal

abbrev pub row : Bool → List Float → List Float → Float → List Float → List Float → ℕ → Float
row half v diag eta left right = slice_row half false (operator_over (length v) diag left right) eta v

abbrev pub invariant-loop-i : goal.invariant-loop-i
invariant-loop-i l = (l.lower ≡ before l.initial.v l.i)
    × (l.out ≡ filled (row l.rows.half l.initial.v l.rows.diag.now l.rows.eta_dt l.rows.left.now l.rows.right.now) l.initial.out l.i) × (l.v ≡ filled (λ k. at l.initial.v k ⊕ row l.rows.half l.initial.v l.rows.diag.now l.rows.eta_dt l.rows.left.now l.rows.right.now k) l.initial.v l.i)
