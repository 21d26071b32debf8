use mir.Facts.{to_z-of_z}
use Rattle.lots.specs.Reckoning.{quotes_from}
use Rattle.quote.specs.Quotes.{quotes_by_answer}
use Rattle.lots.proofs.quotes_from.Goals as goal

pub returns : goal.returns
unfolding quotes_from quotes_by_answer
returns c =
    let r = c.ranges in
    rw (c.quotes_by.ensures, c.answer_from.ensures, to_z-of_z r.mid_price, to_z-of_z r.min_spread, to_z-of_z r.q)
