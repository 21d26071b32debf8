use mir.Facts.{to_z-of_z}
use Rattle.model.specs.Model.{model_limits}
use Rattle.model.proofs.parameters.limits_fit.Goals as goal

pub returns : goal.returns
unfolding model_limits
returns c =
    let r = c.ranges in
    rw (c.amount_fits.ensures, c.amount_fits-2.ensures, c.amount_fits-3.ensures, c.within_limits.ensures, to_z-of_z r.mid, to_z-of_z r.inventory, to_z-of_z r.volatility)
