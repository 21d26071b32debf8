use Rattle.std.proofs.Common.{rules}
use Rattle.amounts.specs.Amounts.{above0}
use Rattle.amounts.proofs.is_positive.Goals as goal

pub returns : goal.returns
unfolding above0
returns c = search rules
