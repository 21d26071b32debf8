use Rattle.std.proofs.Common.{◌∙◌}
use Rattle.elementary.proofs.Results.{handed_on}
use Rattle.quote.specs.Quotes.{closed_by}
use Rattle.quote.proofs.quotes.closed_of.Goals as goal

pub returns : goal.returns
unfolding closed_by
returns c = rw (c.in_ok-bid.was, c.build_quotes.ensures)

pub returns-in_err-bid : goal.returns-in_err-bid
unfolding closed_by
returns-in_err-bid c =
    handed_on c.from_residual.result c.in_err-bid.field-0.0 c.from_residual.ensures.1 ∙ rw c.in_err-bid.was
