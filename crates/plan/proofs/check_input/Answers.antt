-- The checks in the definition's order. Assumes nothing.
use Rattle.elementary.specs.Checks.{verdict, first_of, first_failing, check_of}
use Rattle.plan.proofs.check_input.Goals as goal

pub returns-then-input : goal.returns-then-input
unfolding first_failing first_of verdict check_of
returns-then-input c = rw (← c.floats_fit.ensures, c.if-floats_fit.true, c.if-input.true)

pub returns-then-floats_fit : goal.returns-then-floats_fit
unfolding first_failing first_of verdict check_of
returns-then-floats_fit c = rw (← c.floats_fit.ensures, c.if-floats_fit.true, c.if-input.false)

pub returns : goal.returns
unfolding first_failing first_of verdict check_of
returns c = rw (← c.floats_fit.ensures, c.if-floats_fit.false)
