-- The step over the slices' entries. Assumes nothing.
use Rattle.series.proofs.Pairs.{both_set}
use Rattle.series.proofs.pair.taylor_pair.Goals as goal

pub returns : goal.returns
returns c =
    let r = c.sum_series-s.result in
    let v = both_set c.args.v.now r.sum.end r.sum.centre c.requires.0 in
    let t = both_set c.args.term.now r.term.end r.term.centre c.requires.2 in
    rw (v, t) (rw (c.pair_of-4.ensures, c.pair_of-3.ensures, c.pair_of-2.ensures, c.pair_of.ensures) at c.sum_series-s.ensures)
