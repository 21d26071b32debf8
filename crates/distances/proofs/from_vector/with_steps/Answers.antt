use Rattle.distances.specs.Reading.{sides_with}
use Rattle.distances.proofs.from_vector.with_steps.Goals as goal

pub returns-in-Ok : goal.returns-in-Ok
unfolding sides_with
returns-in-Ok c = rw c.in-Ok.is

pub returns-in-Err : goal.returns-in-Err
unfolding sides_with
returns-in-Err c = rw c.in-Err.is
