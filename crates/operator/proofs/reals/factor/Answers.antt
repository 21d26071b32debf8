-- EXP of a zero is 1. Assumes nothing.
use mathlib.Core.Path.{sym, ap}
use Rattle.elementary.specs.Elementary.{or_nan}
use Rattle.elementary.proofs.ExpZero.{exp_at_zero}
use Rattle.operator.proofs.reals.factor.Goals as goal

pub returns-then-d : goal.returns-then-d
unfolding or_nan
returns-then-d c = sym (ap or_nan (exp_at_zero _ c.if-d.true))
