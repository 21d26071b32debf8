use Rattle.std.proofs.Common.{to_z-of_z}
use Rattle.quote.proofs.quotes.exact_of.Goals as goal

pub returns : goal.returns
returns c =
    rw (c.from_answer.ensures, c.float_entry-r.ensures, c.run_input.ensures, to_z-of_z c.ranges.q)
