use mir.Facts.{to_z-of_z}
use Rattle.amounts.specs.Amounts.{time_ok}
use Rattle.model.specs.Model.{exact_model, new_model}
use Rattle.model.proofs.Model.new.Goals as goal

pub returns : goal.returns
unfolding new_model exact_model time_ok
returns c = let r = c.ranges in rw (c.exact.ensures, to_z-of_z r.mid_price, to_z-of_z r.inventory, to_z-of_z r.volatility)
