use mir.Facts.{to_z-of_z}
use Rattle.distances.specs.Reading.{answer_from}
use Rattle.distances.proofs.from_vector.answer_from.Goals as goal

pub returns : goal.returns
unfolding answer_from
returns c = rw (c.answer_in.ensures, to_z-of_z c.ranges.q)
