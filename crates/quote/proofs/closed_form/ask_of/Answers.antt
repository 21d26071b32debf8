use Rattle.quote.specs.ClosedForm.{form_ask}
use Rattle.quote.proofs.closed_form.ask_of.Goals as goal

pub returns-then-allowed : goal.returns-then-allowed
unfolding form_ask
returns-then-allowed c = rw c.if-allowed.true

pub returns : goal.returns
unfolding form_ask
returns c = rw c.if-allowed.false
