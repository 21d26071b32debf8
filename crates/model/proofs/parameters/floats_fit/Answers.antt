use Rattle.model.specs.Model.{model_ok}
use Rattle.model.proofs.parameters.floats_fit.Goals as goal

pub returns : goal.returns
unfolding model_ok
returns c =
    rw (c.is_positive_finite.ensures, c.is_positive_finite-2.ensures, c.is_positive_finite-3.ensures, c.is_positive_finite-4.ensures, c.is_positive_finite-5.ensures, c.is_positive_finite-6.ensures, c.is_positive_finite-7.ensures, c.is_finite.ensures)
