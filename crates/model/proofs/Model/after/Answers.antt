use mir.Facts.{to_z-of_z}
use Rattle.elementary.specs.Checks.{first_of}
use Rattle.model.specs.Checks.{verdict_of}
use Rattle.model.specs.Model.{model_if, model_after}
use Rattle.model.proofs.Model.after.Goals as goal
use Rattle.elementary.proofs.Results.{handed_on}

pub returns : goal.returns
returns c =
    rw (c.of_holding.ensures, c.in_ok-check.was, to_z-of_z c.ranges.inventory, to_z-of_z c.ranges.volatility)

pub returns-in_err-check : goal.returns-in_err-check
unfolding model_after model_if first_of verdict_of
returns-in_err-check c = rw (handed_on c.from_residual.result c.in_err-check.field-0.0 c.from_residual.ensures.1, c.in_err-check.was)
