use mir.Facts.{to_z-of_z}
use Rattle.model.specs.Model.{model_limits, closed_market_checks, closed_model, check_closed_form}
use Rattle.model.proofs.Passed.{after_checks, second}
use Rattle.model.proofs.Model.closed_form.Goals as goal

pub returns : goal.returns
unfolding closed_model check_closed_form
returns c =
    let a = c.args in
    rw (c.after.ensures, c.check_closed_form-check.ensures, to_z-of_z c.ranges.mid_price, to_z-of_z c.ranges.inventory, to_z-of_z c.ranges.volatility)
    (after_checks (closed_market_checks (model_limits a.mid_price a.inventory a.config a.volatility) a.mid_price a.config a.volatility) a.inventory a.config a.volatility second)
