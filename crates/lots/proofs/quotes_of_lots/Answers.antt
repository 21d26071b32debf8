use mir.Facts.{to_z-of_z}
use Rattle.lots.proofs.quotes_of_lots.Goals as goal

pub returns : goal.returns
returns c =
    rw (c.quotes_in.ensures, to_z-of_z c.ranges.mid_price, to_z-of_z c.ranges.q)
