use Rattle.std.proofs.Common.{suc, add-one, arith, lt-ltb, le-ltb}
use Rattle.distances.specs.Distances.{bid_at}
use Rattle.distances.proofs.lent.bid_at.Goals as goal

pub returns-then-up-v : goal.returns-then-up-v
unfolding bid_at
returns-then-up-v g c =
    let a = c.args in
    rw (lt-ltb (suc a.i) a.v.n (omega arith), c.distance_at.ensures, add-one)

pub returns : goal.returns
unfolding bid_at
returns g c =
    let a = c.args in
    rw (le-ltb (suc a.i) a.v.n (omega arith))
