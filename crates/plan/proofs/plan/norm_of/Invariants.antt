-- The loop's invariant: `norm` is the largest of the first i row sums, from 0.0. Assumes nothing.
use Rattle.std.proofs.Common.{◌≡◌, ℕ, List}
use lib.Ieee.{Float}
use Rattle.elementary.specs.Float.{◌⊕◌, ◌⊗◌, 0ᶠ}
use Rattle.operator.specs.Vectors.{tab, at, fold, larger, abs}
use Rattle.plan.proofs.plan.norm_of.Given as goal

abbrev pub row_sum : List Float → Float → List Float → List Float → ℕ → Float
row_sum d eta left right i = abs (at d i) ⊕ eta ⊗ (at left i ⊕ at right i)

abbrev pub invariant-loop-i : goal.invariant-loop-i
invariant-loop-i l = l.norm ≡ fold larger 0ᶠ (tab l.i (row_sum l.diag_s l.eta l.left l.right))
