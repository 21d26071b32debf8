use mir.Facts.{to_z-of_z}
use Rattle.model.specs.Model.{market_ok}
use Rattle.model.proofs.checks.check_prices.Goals as goal

pub returns : goal.returns
unfolding market_ok
returns c =
    rw (c.one_check.ensures, c.is_positive-2.ensures, c.is_positive.ensures, to_z-of_z c.ranges.mid_price, to_z-of_z c.ranges.volatility)
