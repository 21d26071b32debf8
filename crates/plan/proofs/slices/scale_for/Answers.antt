-- Each arm is one of `diagonal_for`. Assumes nothing.
use Rattle.std.proofs.Common.{refl}
use Rattle.plan.specs.Slices.{diagonal_for}
use Rattle.plan.proofs.slices.scale_for.Goals as goal

pub returns-in-Steps : goal.returns-in-Steps
unfolding diagonal_for
returns-in-Steps c = rw c.in-Steps.is c.scale_diagonal.ensures

pub returns-in-OverCap : goal.returns-in-OverCap
unfolding diagonal_for
returns-in-OverCap c = rw c.in-OverCap.is refl

pub returns-in-Refused : goal.returns-in-Refused
unfolding diagonal_for
returns-in-Refused c = rw c.in-Refused.is refl
