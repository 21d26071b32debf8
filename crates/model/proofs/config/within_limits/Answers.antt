use Rattle.model.specs.Configuration.{config_limits}
use Rattle.amounts.proofs.Limits.{kept}
use Rattle.model.proofs.config.within_limits.Goals as goal

pub returns : goal.returns
unfolding config_limits
returns c =
    let a = c.args.c in
    let t = c.struct_told-6-1.given in
    rw (c.amount_fits.ensures, c.amount_fits-2.ensures, c.amount_fits-3.ensures, c.amount_fits-4.ensures, c.amount_fits-5.ensures, c.amount_fits-6.ensures, c.time_fits.ensures, kept a.risk_aversion t.0.1, kept a.order_intensity_k t.1.0.1, kept a.intensity_scale_a t.1.1.0.1, kept a.lot_size t.1.1.1.1.0.1, kept a.min_spread t.1.1.1.1.1.1.0.1, kept a.drift t.1.1.1.1.1.1.1.0.1)
