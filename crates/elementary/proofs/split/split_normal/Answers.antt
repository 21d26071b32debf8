use Rattle.std.proofs.Common.{T, sym, subst, lt_of_le_of_lt, lit<}
use lib.Ieee.{binary64, fits}
use Rattle.elementary.proofs.Parts.{normal_parts, positive_no_nan}
use Rattle.elementary.proofs.split.split_normal.Goals as goal

-- the format holds x
held : (c : goal.Start) → T (fits binary64 c.args.x)
held c = subst T (sym c.well_formed.0.1) tt

pub float_to_bits-bits : goal.float_to_bits-bits
float_to_bits-bits c = positive_no_nan c.args.x c.requires.above_zero

pub overflow_add-result-2 : goal.overflow_add-result-2
overflow_add-result-2 c = record { fits = lt_of_le_of_lt (normal_parts c.args.x (held c) c.requires.above_zero c.requires.normal).most (lit< tt) }

pub returns : goal.returns
returns c = normal_parts c.args.x (held c) c.requires.above_zero c.requires.normal
