use Rattle.std.proofs.Common.{to_z-of_z}
use Rattle.amounts.specs.Amounts.{to_float}
use Rattle.amounts.proofs.Limits.{billion_is}
use Rattle.amounts.proofs.to_f64.Goals as goal

pub returns : goal.returns
unfolding to_float
returns c = rw (c.nearest_i64_to_f64.ensures, to_z-of_z c.ranges.x, billion_is)
