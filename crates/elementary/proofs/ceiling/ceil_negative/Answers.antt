use Rattle.std.proofs.Common.{ap, ◌∙◌}
use lib.Ieee.{neg}
use Rattle.elementary.proofs.WholeUp.{small_cast, Negative, negative, negative_small, negative_cut}
use Rattle.elementary.proofs.ceiling.ceil_negative.Goals as goal

is_negative : (c : goal.Start) → Negative c.args.x
is_negative c = negative c.args.x c.requires.below_zero c.requires.small

pub truncating_f64_to_u64-n-requires : goal.truncating_f64_to_u64-n-requires
truncating_f64_to_u64-n-requires c =
    let p = small_cast (negative_small (is_negative c)) in
    record { lower_bound = p.0; upper_bound = p.1 }

pub returns : goal.returns
returns c =
    ap neg c.nearest_u64_to_f64.ensures ∙ negative_cut (is_negative c.before.before) c.truncating_f64_to_u64-n.ensures
