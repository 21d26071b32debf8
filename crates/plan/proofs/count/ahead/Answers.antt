-- Each arm is one of `ahead_of`. Assumes nothing.
use Rattle.std.proofs.Common.{sym, ap}
use Rattle.plan.specs.Inner.{ahead_of}
use Rattle.plan.proofs.count.ahead.Goals as goal

pub returns-in-Steps : goal.returns-in-Steps
unfolding ahead_of
returns-in-Steps c = ap ahead_of (sym c.in-Steps.is)

pub returns-in-OverCap : goal.returns-in-OverCap
unfolding ahead_of
returns-in-OverCap c = ap ahead_of (sym c.in-OverCap.is)

pub returns-in-Refused : goal.returns-in-Refused
unfolding ahead_of
returns-in-Refused c = ap ahead_of (sym c.in-Refused.is)
