use Rattle.prices.specs.Prices.{each}
use borrow.Author.Rules.{rules}
use Rattle.prices.proofs.judging.side_positive.Goals as goal

pub returns : goal.returns
unfolding each
returns c = search rules
