use mathlib.Core.Path.{◌≡◌}
use Prim.Native.Nat.{suc, ◌-◌, ◌≤◌}
use lib.ListN.{length}
use Rattle.operator.specs.Vectors.{every}
use Rattle.operator.specs.Slices.{one_at}
use Rattle.operator.proofs.factors.all_ones.Given as goal

abbrev pub invariant-loop-i : goal.invariant-loop-i
invariant-loop-i l = (length l.right ≡ length l.left) × (l.i - 1 ≤ length l.left - 2) × (l.all ≡ every (l.i - 1) (λ k. one_at l.left l.right (suc k)))
