use Rattle.std.proofs.Common.{T, sym, ◌∙◌, subst, arith}
use lib.Ieee.{binary64, fits}
use Rattle.elementary.proofs.WholeUp.{Small, small, small_cast, small_cut, small_next, small_whole}
use Rattle.elementary.proofs.ceiling.ceil_small.Goals as goal

-- the format holds x
held : (c : goal.Start) → T (fits binary64 c.args.x)
held c = subst T (sym c.well_formed.0.1) tt

is-small : (c : goal.Start) → Small c.args.x
is-small c = small c.args.x c.requires.not_below_zero c.requires.small

pub truncating_f64_to_u64-n-requires : goal.truncating_f64_to_u64-n-requires
truncating_f64_to_u64-n-requires c =
    let p = small_cast (is-small c) in
    record { lower_bound = p.0; upper_bound = p.1 }

pub overflow_add-n : goal.overflow_add-n
overflow_add-n c =
    omega (arith, small_cut (is-small c.before.before.before), c.truncating_f64_to_u64-n.ensures)

pub returns-then-nearest_u64_to_f64-x : goal.returns-then-nearest_u64_to_f64-x
returns-then-nearest_u64_to_f64-x c =
    c.nearest_u64_to_f64-then-nearest_u64_to_f64-x.ensures
    ∙ small_next (is-small c.before.before.before.before) c.truncating_f64_to_u64-n.ensures (rw c.nearest_u64_to_f64.ensures at c.if-nearest_u64_to_f64-x.true)

pub returns : goal.returns
returns c =
    small_whole (held c.before.before.before) (is-small c.before.before.before) c.truncating_f64_to_u64-n.ensures (rw c.nearest_u64_to_f64.ensures at c.if-nearest_u64_to_f64-x.false)
