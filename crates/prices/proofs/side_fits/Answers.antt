use Rattle.prices.specs.Prices.{each}
use borrow.Author.Rules.{rules}
use Rattle.prices.proofs.side_fits.Goals as goal

pub returns : goal.returns
unfolding each
returns c = search rules
