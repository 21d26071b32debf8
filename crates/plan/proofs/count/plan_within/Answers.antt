-- No time, no drift, or all rows. Assumes nothing.
use Rattle.plan.specs.Count.{plan_ahead, plan_when}
use Rattle.plan.proofs.count.plan_within.Goals as goal

pub returns-then-input-2 : goal.returns-then-input-2
unfolding plan_ahead plan_when
returns-then-input-2 c = rw (c.if-input.true, c.plan_of_two.ensures)

pub returns-then-input : goal.returns-then-input
unfolding plan_ahead plan_when
returns-then-input c = rw (c.if-input.true, c.plan_of_all.ensures)

pub returns : goal.returns
unfolding plan_ahead plan_when
returns c = rw c.if-input.false
