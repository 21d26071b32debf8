use mir.Facts.{to_z-of_z}
use Rattle.model.specs.Model.{check_call}
use Rattle.model.proofs.checks.check_call.Goals as goal

pub returns : goal.returns
unfolding check_call
returns c = let r = c.ranges in rw (c.check_exact.ensures, to_z-of_z r.mid_price, to_z-of_z r.volatility)
