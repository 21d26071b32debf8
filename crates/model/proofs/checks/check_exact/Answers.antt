use mathlib.Core.Bool.{◌&&◌}
use mathlib.Core.List.{◌∷◌, []}
use mir.Facts.{to_z-of_z}
use Rattle.amounts.specs.Amounts.{time_ok}
use Rattle.model.specs.Refusals.{market}
use Rattle.model.specs.Configuration.{number_checks}
use Rattle.model.specs.Model.{market_ok, model_limits, check_exact}
use Rattle.model.proofs.Joined.{one_told, joined_told}
use Rattle.model.proofs.checks.check_exact.Goals as goal

pub returns : goal.returns
unfolding check_exact
returns c =
    let a = c.args in
    rw (c.first_refusal.ensures, c.check_prices.ensures, c.check_numbers.ensures, c.limits_fit.ensures, c.time_fits.ensures, to_z-of_z c.ranges.mid_price, to_z-of_z c.ranges.inventory, to_z-of_z c.ranges.volatility, one_told (market_ok a.mid_price a.volatility) market)
    (joined_told (number_checks (time_ok a.current_time && model_limits a.mid_price a.inventory a.config a.volatility) a.config) ((market_ok a.mid_price a.volatility, market) ∷ []))
