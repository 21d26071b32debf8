use Rattle.quote.specs.Quotes.{exact_by}
use Rattle.quote.proofs.quotes.from_answer.Goals as goal

pub returns-in-Distances : goal.returns-in-Distances
unfolding exact_by
returns-in-Distances c =
    rw (c.in-Distances.is, c.with_steps.ensures, c.build_quotes.ensures)

pub returns-in-OverCap : goal.returns-in-OverCap
unfolding exact_by
returns-in-OverCap c = rw c.in-OverCap.is

pub returns-in-Refused : goal.returns-in-Refused
unfolding exact_by
returns-in-Refused c = rw c.in-Refused.is
