use lib.Ieee.{div, neg, of_int, of_bits}
use Rattle.elementary.specs.Elementary.{exp_of}
use Rattle.elementary.proofs.Exps.{not_above}
use Rattle.elementary.proofs.exponential.exp_finite.Goals as goal

pub returns-then-x : goal.returns-then-x
unfolding exp_of div of_int of_bits
returns-then-x c = rw c.if-x.true

pub returns-then-x-2 : goal.returns-then-x-2
unfolding exp_of neg of_int of_bits
returns-then-x-2 c = rw (c.if-x.false, c.if-x-2.true)

pub exp_down-requires : goal.exp_down-requires
unfolding neg of_int of_bits
exp_down-requires c = record { below_zero = c.if-x-3.true; at_least_minus_708 = c.if-x-2.false }

pub exp_up-requires : goal.exp_up-requires
unfolding of_int of_bits
exp_up-requires c = record { not_below_zero = c.if-x-3.false; at_most_709 = not_above c.args.x c.requires c.if-x.false }

pub returns-then-x-3 : goal.returns-then-x-3
unfolding exp_of neg of_int of_bits
returns-then-x-3 c = rw (c.if-x.false, c.if-x-2.false) c.exp_down.ensures

pub returns-else-x-3 : goal.returns-else-x-3
unfolding exp_of neg of_int of_bits
returns-else-x-3 c = rw (c.if-x.false, c.if-x-2.false) c.exp_up.ensures
