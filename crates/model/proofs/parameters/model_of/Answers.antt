use mir.Facts.{to_z-of_z}
use Rattle.model.specs.Model.{model_of}
use Rattle.amounts.proofs.Limits.{kept, year_is}
use Rattle.model.proofs.parameters.model_of.Goals as goal

pub returns : goal.returns
unfolding model_of
returns c =
    let a = c.args.config in
    let t = c.struct_told-5-1.given in
    rw (c.from_floats.ensures, c.to_f64-sigma.ensures, c.to_f64.ensures, c.to_f64-2.ensures, c.to_f64-3.ensures, c.to_f64-4.ensures, c.to_f64-5.ensures, to_z-of_z c.ranges.volatility, kept a.order_intensity_k t.1.0.1, kept a.risk_aversion t.0.1, kept a.lot_size t.1.1.1.1.0.1, kept a.intensity_scale_a t.1.1.0.1, kept a.drift t.1.1.1.1.1.1.1.0.1, year_is)
