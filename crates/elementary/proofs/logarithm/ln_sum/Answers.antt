use Rattle.std.proofs.Common.{refl}
use lib.Ieee.{of_int, of_bits}
use Rattle.elementary.specs.Elementary.{ln_sum, horner, odds}
use Rattle.elementary.proofs.logarithm.ln_sum.Goals as goal

pub returns : goal.returns
unfolding ln_sum horner odds of_int of_bits
returns c = refl
