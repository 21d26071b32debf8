-- `record::save::numbers_of` meets its contract: each number is the size of an amount, or as it is. Assumes nothing.
use lib.Dec.{le→leb}
use lib.IntN.{nat_abs}
use Rattle.amounts.specs.Amounts.{amount_limit, amount_ok}
use Rattle.record.specs.Save.{numbers_of}
use Rattle.record.proofs.Limits.{same_bits, Bounds}
use Rattle.record.proofs.Saving.{limits_kept, holding_kept}
use Rattle.record.proofs.save.numbers_of.Goals as goal

pub stored_of-requires : goal.stored_of-requires
unfolding amount_ok
stored_of-requires c =
    let k = holding_kept c.args.r c.requires in
    rw (same_bits c.args.r.inventory k) (le→leb (nat_abs c.args.r.inventory) amount_limit k)

pub returns : goal.returns
unfolding numbers_of
returns c =
    let k : Bounds (numbers_of c.args.r) = limits_kept c.args.r c.requires in
    let r = c.args.r in
    rw (c.unsigned_abs.ensures.value, c.stored_of.ensures, c.unsigned_abs-2.ensures.value, c.unsigned_abs-3.ensures.value, c.unsigned_abs-4.ensures.value, c.unsigned_abs-5.ensures.value, c.from.ensures, c.unsigned_abs-6.ensures.value, c.unsigned_abs-7.ensures.value)
    (rw (same_bits r.mid_price k.mid, same_bits r.inventory (holding_kept r c.requires), same_bits r.volatility k.volatility, same_bits r.risk_aversion k.risk, same_bits r.order_intensity_k k.k, same_bits r.intensity_scale_a k.scale, same_bits r.lot_size k.lot, same_bits r.min_spread k.spread))
