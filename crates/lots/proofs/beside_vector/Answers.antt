use Rattle.lots.specs.Reckoning.{beside}
use Rattle.lots.proofs.beside_vector.Goals as goal

pub returns-in-Done : goal.returns-in-Done
unfolding beside
returns-in-Done c = rw c.in-Done.is

pub returns-in-OverCap : goal.returns-in-OverCap
unfolding beside
returns-in-OverCap c = rw c.in-OverCap.is

pub returns-in-Refused : goal.returns-in-Refused
unfolding beside
returns-in-Refused c = rw c.in-Refused.is
