-- `record::save::none_below` meets its contract: the machine holds each amount as it is. Assumes nothing.
use Rattle.amounts.proofs.Limits.{kept}
use Rattle.record.specs.Save.{none_below}
use Rattle.record.proofs.save.none_below.Goals as goal

pub returns : goal.returns
unfolding none_below
returns c =
    let g = c.struct_told-7-1.given in
    let r = c.args.r in
    rw (kept r.mid_price g.0.1, kept r.volatility g.1.1.0.1, kept r.risk_aversion g.1.1.1.0.1, kept r.order_intensity_k g.1.1.1.1.0.1, kept r.intensity_scale_a g.1.1.1.1.1.0.1, kept r.lot_size g.1.1.1.1.1.1.1.0.1, kept r.min_spread g.1.1.1.1.1.1.1.1.1.1.0.1)
