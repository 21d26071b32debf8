use Rattle.prices.specs.Prices.{in_order}
use borrow.Author.Rules.{rules}
use Rattle.prices.proofs.judging.below.Goals as goal

pub returns-in-Some-Some : goal.returns-in-Some-Some
unfolding in_order
returns-in-Some-Some c = rw (c.in-Some-Some.is-0, c.in-Some-Some.is-1) (search rules)

pub returns-in_default : goal.returns-in_default
unfolding in_order
returns-in_default c = rw (c.in_default.is-0, c.in_default.is-1)

pub returns-in_default-2 : goal.returns-in_default-2
unfolding in_order
returns-in_default-2 c = rw c.in_default.is-0
