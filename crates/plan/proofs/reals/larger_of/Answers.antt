-- The larger by the test. Assumes nothing.
use Rattle.operator.specs.Vectors.{larger}
use Rattle.plan.proofs.reals.larger_of.Goals as goal

pub returns-then-x-y : goal.returns-then-x-y
unfolding larger
returns-then-x-y c = rw c.if-x-y.true

pub returns-else-x-y : goal.returns-else-x-y
unfolding larger
returns-else-x-y c = rw c.if-x-y.false
