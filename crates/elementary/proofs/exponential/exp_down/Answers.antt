use Rattle.std.proofs.Common.{◌≡◌, ◌≤◌, pos, neg_ℤ, le_trans, arith, lit≤}
use Rattle.elementary.specs.Elementary.{exp_n, exp_by}
use Rattle.elementary.proofs.Exps.{neg_range, count_down, whole_neg, minus_sub}
use Rattle.elementary.proofs.exponential.exp_down.Goals as goal

pub exp_count-n-requires : goal.exp_count-n-requires
exp_count-n-requires c =
    let p = neg_range c.args.x c.requires.below_zero c.requires.at_least_minus_708 in
    record { not_below_zero = p.0; at_most_709 = p.1 }

pub power-requires : goal.power-requires
power-requires c =
    let counted : (neg_ℤ (pos c.exp_count-n.result) ≡ exp_n c.args.x) × (c.exp_count-n.result ≤ 1022) = count_down c.args.x c.requires.below_zero c.requires.at_least_minus_708 c.exp_count-n.result c.exp_count-n.ensures.0 in
    let b = counted.1 in
    (omega arith, omega arith)

pub returns : goal.returns
unfolding exp_by
returns c =
    let counted : (neg_ℤ (pos c.exp_count-n.result) ≡ exp_n c.args.x) × (c.exp_count-n.result ≤ 1022) = count_down c.args.x c.requires.below_zero c.requires.at_least_minus_708 c.exp_count-n.result c.exp_count-n.ensures.0 in
    let n = c.exp_count-n.result in
    let (e, b) = counted in
    cc (minus_sub 1023 n (le_trans b (lit≤ tt)), whole_neg n (le_trans b (lit≤ tt)), e)
