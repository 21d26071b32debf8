use Rattle.plan.specs.Input.{rates_ok}
use Rattle.plan.proofs.floats_fit.Goals as goal

pub returns : goal.returns
unfolding rates_ok
returns c = rw (c.is_positive_finite.ensures, c.is_finite.ensures, c.is_positive_finite-2.ensures, c.is_finite-2.ensures)
