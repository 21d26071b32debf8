-- `record::record::config_of` meets its contract: the machine holds each amount as it is. Assumes nothing.
use Rattle.amounts.proofs.Limits.{kept}
use Rattle.record.specs.Record.{config_of}
use Rattle.record.proofs.record.config_of.Goals as goal

pub returns : goal.returns
unfolding config_of
returns c =
    let g = c.struct_told-1.given in
    let r = c.args.r in
    rw (kept r.risk_aversion g.1.1.1.0.1, kept r.order_intensity_k g.1.1.1.1.0.1, kept r.intensity_scale_a g.1.1.1.1.1.0.1, kept r.lot_size g.1.1.1.1.1.1.1.0.1, kept r.min_spread g.1.1.1.1.1.1.1.1.1.1.0.1)
