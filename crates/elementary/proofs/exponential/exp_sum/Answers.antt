use Rattle.std.proofs.Common.{refl}
use lib.Ieee.{of_int, of_bits}
use Rattle.elementary.specs.Elementary.{exp_sum, horner, factorials}
use Rattle.elementary.proofs.exponential.exp_sum.Goals as goal

pub returns : goal.returns
unfolding exp_sum horner factorials of_int of_bits
returns c = refl
