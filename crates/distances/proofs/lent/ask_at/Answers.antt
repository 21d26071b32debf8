use Rattle.std.proofs.Common.{map, arith}
use Rattle.distances.specs.Distances.{lent}
use Rattle.distances.proofs.Asks.{ask_is, no_ask}
use Rattle.distances.proofs.lent.ask_at.Goals as goal

pub returns-then-i-gt0 : goal.returns-then-i-gt0
returns-then-i-gt0 g c =
    let a = c.args in
    rw (ask_is (lent a.v.n (map g.T.Number.float a.v.w.now) (map g.T.Number.float a.v.log_offset.now)) a.scale.k a.scale.base a.i c.if-i-gt0.true, c.distance_at.ensures)

pub returns : goal.returns
returns g c =
    let a = c.args in
    rw (no_ask (lent a.v.n (map g.T.Number.float a.v.w.now) (map g.T.Number.float a.v.log_offset.now)) a.scale.k a.scale.base a.i (omega arith))
