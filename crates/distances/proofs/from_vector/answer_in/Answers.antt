use mir.Facts.{to_z-of_z}
use Rattle.std.proofs.lemmas.List.{map-id}
use Rattle.distances.specs.Reading.{read_by}
use Rattle.distances.proofs.from_vector.answer_in.Goals as goal

pub returns-in-Done : goal.returns-in-Done
unfolding read_by
returns-in-Done c =
    rw (c.in-Done.is, c.with_steps.ensures, c.distances_in.ensures, to_z-of_z c.ranges.q, map-id c.args.w.now, map-id c.args.log_offset.now)

pub returns-in-OverCap : goal.returns-in-OverCap
unfolding read_by
returns-in-OverCap c = rw c.in-OverCap.is

pub returns-in-Refused : goal.returns-in-Refused
unfolding read_by
returns-in-Refused c = rw c.in-Refused.is
