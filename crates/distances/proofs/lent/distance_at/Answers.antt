use Rattle.distances.specs.Distances.{distance}
use Rattle.distances.proofs.lent.distance_at.Goals as goal

pub returns : goal.returns
unfolding distance
returns g c =
    rw (c.distance_between.ensures, c.float_at.ensures, c.float_at-2.ensures, c.float_at-3.ensures, c.float_at-4.ensures)
