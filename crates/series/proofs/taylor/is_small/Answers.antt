-- A term against its sum. Assumes nothing.
use Rattle.series.specs.Series.{small}
use Rattle.series.proofs.taylor.is_small.Goals as goal

pub returns : goal.returns
unfolding small
returns c = rw (c.magnitude.ensures, c.magnitude-2.ensures)
