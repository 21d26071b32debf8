-- Two rows, written out. Assumes nothing.
use Rattle.operator.specs.Vectors.{from, before}
use Rattle.series.specs.Slices.{beside_of, beside_at, slice_row}
use Rattle.series.proofs.pair.applied.Goals as goal

pub returns : goal.returns
unfolding from before slice_row beside_at beside_of
returns c =
    rw (c.times-upper.ensures, c.times-either.ensures)
