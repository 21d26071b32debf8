use Rattle.std.proofs.Common.{rules}
use Rattle.amounts.specs.Amounts.{amount_ok}
use Rattle.amounts.proofs.amount_fits.Goals as goal

pub returns : goal.returns
unfolding amount_ok
returns c = search rules
