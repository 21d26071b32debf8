-- The operations in the definition's order. Assumes nothing.
use Rattle.std.proofs.Common.{refl}
use Rattle.plan.specs.Count.{row_sum}
use Rattle.plan.proofs.count.row_sum.Goals as goal

pub returns : goal.returns
unfolding row_sum
returns c = rw c.from-q.ensures refl
