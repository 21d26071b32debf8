use Rattle.std.proofs.Common.{refl}
use lib.Ieee.{of_bits}
use Rattle.elementary.specs.Elementary.{exp_rest}
use Rattle.elementary.proofs.exponential.exp_rest.Goals as goal

pub returns : goal.returns
unfolding exp_rest of_bits
returns c = refl
