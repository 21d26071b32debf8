use Rattle.quote.specs.ClosedForm.{form_bid}
use Rattle.quote.proofs.closed_form.bid_of.Goals as goal

pub returns-then-allowed : goal.returns-then-allowed
unfolding form_bid
returns-then-allowed c = rw c.if-allowed.true

pub returns : goal.returns
unfolding form_bid
returns c = rw c.if-allowed.false
