use Rattle.std.proofs.Common.{rules}
use Rattle.amounts.specs.Amounts.{time_ok}
use Rattle.amounts.proofs.time_fits.Goals as goal

pub returns : goal.returns
unfolding time_ok
returns c = search rules
