use Rattle.distances.specs.FloatEntry.{with_vector}
use Rattle.distances.proofs.entry.with_vector.Goals as goal

pub returns-in-Ok : goal.returns-in-Ok
unfolding with_vector
returns-in-Ok c = rw c.in-Ok.is

pub returns-in-Err : goal.returns-in-Err
unfolding with_vector
returns-in-Err c = rw (c.in-Err.is, c.refused_entry.ensures)
