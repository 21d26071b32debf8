-- A slice of two entries. Assumes nothing.
use Rattle.series.proofs.Pairs.{two_entries}
use Rattle.series.proofs.pair.pair_of.Goals as goal

pub returns : goal.returns
returns c = two_entries _ c.requires
