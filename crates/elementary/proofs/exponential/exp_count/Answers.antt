use Rattle.elementary.proofs.Exps.{turns_range, count_up}
use Rattle.elementary.proofs.exponential.exp_count.Goals as goal

pub truncating_f64_to_u64-requires : goal.truncating_f64_to_u64-requires
truncating_f64_to_u64-requires c =
    let p = turns_range c.args.x c.requires.not_below_zero c.requires.at_most_709 in
    record { lower_bound = p.0; upper_bound = p.1 }

pub returns : goal.returns
returns c = rw c.truncating_f64_to_u64.ensures (count_up c.args.x c.requires.not_below_zero c.requires.at_most_709)
