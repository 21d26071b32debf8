-- Past the centre stands what stands before it, past the end nothing. Assumes nothing.
use mathlib.Core.Path.{refl}
use Rattle.operator.proofs.factors.past_last.Goals as goal

pub returns-then-half : goal.returns-then-half
returns-then-half c = rw c.if-half.true refl

pub returns-else-half : goal.returns-else-half
returns-else-half c = rw c.if-half.false refl
