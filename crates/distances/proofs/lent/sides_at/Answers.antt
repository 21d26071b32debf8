use Rattle.distances.specs.Distances.{exact_at}
use Rattle.distances.proofs.lent.sides_at.Goals as goal

pub returns : goal.returns
unfolding exact_at
returns g c = rw (c.both.ensures, c.bid_at.ensures, c.ask_at.ensures)
