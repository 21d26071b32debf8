use Rattle.std.proofs.Common.{map, sym, ap, ◌∙◌}
use lib.ListN.{length-map, get_or-eq_default}
use lib.Ieee.{nan, of_bits, div}
use Rattle.distances.proofs.Readable.{at_map}
use Rattle.distances.proofs.lent.float_at.Goals as goal

pub returns-then-i-s : goal.returns-then-i-s
returns-then-i-s g c =
    let a = c.args in
    c.float.ensures ∙ ap g.T.Number.float c.index-s-i.is ∙ sym (at_map g.T.Number.float a.s.now a.i c.index-s-i.result c.if-i-s.true)

pub returns : goal.returns
unfolding of_bits div
returns g c =
    let a = c.args in
    sym (get_or-eq_default (map g.T.Number.float a.s.now) nan (rw length-map c.if-i-s.false))
