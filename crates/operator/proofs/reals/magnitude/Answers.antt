-- The magnitude by the sign. Assumes nothing.
use Rattle.operator.specs.Vectors.{abs}
use Rattle.operator.proofs.reals.magnitude.Goals as goal

pub returns-then-x : goal.returns-then-x
unfolding abs
returns-then-x c = rw c.if-x.true

pub returns-else-x : goal.returns-else-x
unfolding abs
returns-else-x c = rw c.if-x.false
