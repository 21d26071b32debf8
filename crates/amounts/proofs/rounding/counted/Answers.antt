use Rattle.std.proofs.Common.{T, sym, subst, lt_trans, lit<}
use lib.Ieee.{binary64, fits}
use Rattle.elementary.proofs.Parts.{positive_no_nan}
use Rattle.amounts.proofs.Counting.{field_most, shift_lt, unit_some, unit_small, by_words}
use Rattle.amounts.proofs.rounding.counted.Goals as goal

-- the format holds x
held : (c : goal.Start) → T (fits binary64 c.args.x)
held c = subst T (sym c.well_formed.0.1) tt

pub float_to_bits-bits : goal.float_to_bits-bits
float_to_bits-bits c = positive_no_nan c.args.x c.requires.above_zero

pub overflow_sub-field : goal.overflow_sub-field
overflow_sub-field c =
    field_most c.args.x (held c.before) c.requires.above_zero c.requires.in_range

pub overflow_shl-field : goal.overflow_shl-field
overflow_shl-field c =
    lt_trans (shift_lt c.args.x (held c.before) c.requires.above_zero c.requires.in_range) (lit< tt)

pub divided-requires : goal.divided-requires
divided-requires c =
    let e = c.times_billion.ensures in
    record { words_fit = (e.1, e.2); unit_fits = (unit_some c.args.x (held c.before) c.requires.above_zero c.requires.in_range, unit_small c.args.x (held c.before) c.requires.above_zero c.requires.in_range) }

pub returns : goal.returns
returns c =
    let p = c.times_billion in
    by_words c.args.x (held c.before.before) c.requires.above_zero c.requires.in_range c.args.cut c.divided.result p.result.high p.result.low p.ensures.0 c.divided.ensures
