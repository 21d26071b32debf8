use Rattle.quote.specs.Quotes.{with_steps}
use Rattle.quote.proofs.quotes.with_steps.Goals as goal

pub returns-in-Ok : goal.returns-in-Ok
unfolding with_steps
returns-in-Ok c = rw c.in-Ok.is

pub returns-in-Err : goal.returns-in-Err
unfolding with_steps
returns-in-Err c = rw c.in-Err.is
