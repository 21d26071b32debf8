use Rattle.std.proofs.Common.{◌≡◌, sym, ◌∙◌}
use Rattle.prices.specs.Prices.{quotes_by, build_quotes}
use Rattle.prices.proofs.Facing.{rounded_within}
use Rattle.quote.proofs.quotes.build_quotes.Goals as goal
use Rattle.elementary.proofs.Results.{handed_on}

pub priced-requires : goal.priced-requires
priced-requires c =
    let w = rounded_within c.args.bid c.args.ask _ _ (sym c.round_sides.ensures ∙ c.in_ok-b.was) in
    (w.0, w.1)

pub returns : goal.returns
unfolding quotes_by build_quotes
returns c =
    let quotes-are : let s = c.args in build_quotes s.around.mid s.around.least s.bid s.ask ≡ quotes_by s.around.mid s.around.least c.round_sides.result = rw c.round_sides.ensures in
    rw (quotes-are, c.in_ok-b.was, c.priced.ensures)

pub returns-in_err-b : goal.returns-in_err-b
unfolding quotes_by build_quotes
returns-in_err-b c =
    let quotes-are : let s = c.args in build_quotes s.around.mid s.around.least s.bid s.ask ≡ quotes_by s.around.mid s.around.least c.round_sides.result = rw c.round_sides.ensures in
    handed_on c.from_residual.result c.in_err-b.field-0.0 c.from_residual.ensures.1 ∙ rw (quotes-are, c.in_err-b.was)
