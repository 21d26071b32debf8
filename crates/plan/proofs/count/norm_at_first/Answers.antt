-- The two sums of `TwoRows`. Assumes nothing.
use Rattle.plan.proofs.count.norm_at_first.Goals as goal

pub returns : goal.returns
returns c = rw (c.larger_of.ensures, c.row_sum-next.ensures, c.row_sum-end.ensures)
