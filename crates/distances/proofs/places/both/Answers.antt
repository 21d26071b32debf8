use Rattle.distances.specs.Distances.{sides}
use Rattle.distances.proofs.places.both.Goals as goal

pub returns-then-is_fine : goal.returns-then-is_fine
unfolding sides
returns-then-is_fine c = rw (← c.is_fine.ensures, ← c.is_fine-2.ensures, c.if-is_fine.true)

pub returns : goal.returns
unfolding sides
returns c = rw (← c.is_fine.ensures, ← c.is_fine-2.ensures, c.if-is_fine.false)
