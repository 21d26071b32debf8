-- `record::save::can_save` meets its contract: the limits are the layer's below, and 32 bits hold no bound beyond the largest. Assumes nothing.
use native.Mathlib.Omega.{arith}
use mathlib.Core.Bool.{and-true}
use borrow.Author.Tests.{le-leb}
use Rattle.amounts.specs.Amounts.{time_ok}
use Rattle.amounts.proofs.Limits.{kept}
use Rattle.record.specs.Record.{most_bound, record_ok}
use Rattle.record.specs.Save.{save_ok}
use Rattle.record.proofs.save.can_save.Goals as goal

pub returns : goal.returns
unfolding save_ok record_ok time_ok
returns c =
    let r = c.args.r in
    let g = c.struct_told-3-1.given in
    rw (c.limits_fit.ensures, c.config_of.ensures, c.none_below.ensures, kept r.mid_price g.0.1, kept r.inventory g.1.0.1, kept r.volatility g.1.1.0.1, le-leb r.max_inventory_lots most_bound (omega (arith, c.struct_known-1.given.1.1.1.1.1.1.0)), and-true)
