use Rattle.elementary.specs.Checks.{verdict, check_of}
use Rattle.model.specs.Checks.{one_check}
use Rattle.model.proofs.checks.one_check.Goals as goal

pub returns-then-passes : goal.returns-then-passes
unfolding one_check verdict check_of
returns-then-passes c = rw c.if-passes.true

pub returns : goal.returns
unfolding one_check verdict check_of
returns c = rw c.if-passes.false
