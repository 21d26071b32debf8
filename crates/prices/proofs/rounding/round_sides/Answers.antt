use mathlib.Core.Path.{◌≡◌, sym, ◌∙◌}
use Rattle.distances.specs.Distances.{fine}
use Rattle.prices.specs.Prices.{rounded_if, rounded}
use Rattle.prices.proofs.rounding.round_sides.Goals as goal

pub round_finite-requires : goal.round_finite-requires
round_finite-requires c =
    let bid_is : fine c.args.bid ≡ c.is_fine.result = sym c.is_fine.ensures in
    let ask_is : fine c.args.ask ≡ c.is_fine-then-is_fine.result = sym c.is_fine-then-is_fine.ensures in
    (bid_is ∙ c.if-is_fine.true, ask_is ∙ c.if-is_fine-2.true)

pub returns-then-is_fine-2 : goal.returns-then-is_fine-2
unfolding rounded
returns-then-is_fine-2 c =
    let bid_is : fine c.args.bid ≡ c.is_fine.result = sym c.is_fine.ensures in
    let ask_is : fine c.args.ask ≡ c.is_fine-then-is_fine.result = sym c.is_fine-then-is_fine.ensures in
    rw (bid_is, c.if-is_fine.true, ask_is, c.if-is_fine-2.true) c.round_finite.ensures

pub returns-else-is_fine-2 : goal.returns-else-is_fine-2
unfolding rounded rounded_if
returns-else-is_fine-2 c =
    let bid_is : fine c.args.bid ≡ c.is_fine.result = sym c.is_fine.ensures in
    let ask_is : fine c.args.ask ≡ c.is_fine-then-is_fine.result = sym c.is_fine-then-is_fine.ensures in
    rw (bid_is, c.if-is_fine.true, ask_is, c.if-is_fine-2.false)

pub returns-else-is_fine : goal.returns-else-is_fine
unfolding rounded rounded_if
returns-else-is_fine c =
    let bid_is : fine c.args.bid ≡ c.is_fine.result = sym c.is_fine.ensures in
    rw (bid_is, c.if-is_fine.false)
