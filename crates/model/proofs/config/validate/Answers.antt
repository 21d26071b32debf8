use Rattle.model.specs.Configuration.{config_ok}
use Rattle.amounts.proofs.Limits.{kept}
use Rattle.model.proofs.config.validate.Goals as goal

pub returns : goal.returns
unfolding config_ok
returns c =
    let a = c.args.c in
    let t = c.struct_told-5-1.given in
    rw (c.is_positive.ensures, c.is_positive-2.ensures, c.is_positive-3.ensures, c.is_positive-4.ensures, kept a.risk_aversion t.0.1, kept a.order_intensity_k t.1.0.1, kept a.intensity_scale_a t.1.1.0.1, kept a.lot_size t.1.1.1.1.0.1, kept a.min_spread t.1.1.1.1.1.1.0.1)
