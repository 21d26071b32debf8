use mir.Facts.{to_z-of_z}
use Rattle.distances.specs.Reading.{read_by}
use Rattle.distances.proofs.from_bits.answer_in_bits.Goals as goal

pub returns : goal.returns
unfolding read_by
returns c = rw (c.with_steps.ensures, c.distances_in.ensures, to_z-of_z c.ranges.q)
