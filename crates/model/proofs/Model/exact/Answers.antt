use mir.Facts.{to_z-of_z}
use mathlib.Core.Bool.{◌&&◌}
use Rattle.amounts.specs.Amounts.{time_ok}
use Rattle.model.specs.Model.{model_limits, market_checks, exact_model, check_exact}
use Rattle.model.proofs.Passed.{after_checks, second}
use Rattle.model.proofs.Model.exact.Goals as goal

pub returns : goal.returns
unfolding exact_model check_exact
returns c =
    let a = c.args in
    rw (c.after.ensures, c.check_exact-check.ensures, to_z-of_z c.ranges.mid_price, to_z-of_z c.ranges.inventory, to_z-of_z c.ranges.volatility)
    (after_checks (market_checks (time_ok a.current_time && model_limits a.mid_price a.inventory a.config a.volatility) a.mid_price a.config a.volatility) a.inventory a.config a.volatility second)
