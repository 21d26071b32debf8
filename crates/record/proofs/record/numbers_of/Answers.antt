use Rattle.record.specs.Record.{as_held}
use Rattle.record.proofs.record.numbers_of.Goals as goal

pub returns-then-flat : goal.returns-then-flat
unfolding as_held
returns-then-flat c = rw c.if-flat.true

pub returns-else-flat : goal.returns-else-flat
unfolding as_held
returns-else-flat c = rw c.if-flat.false
