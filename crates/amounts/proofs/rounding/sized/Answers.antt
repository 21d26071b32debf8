use Rattle.std.proofs.Common.{T, pos, sym, subst, zero-le, lt_of_le_of_lt, lit<, lit≤, w64}
use lib.Ieee.{binary64, fits}
use mir.ValLaws.{to_z_pos}
use Rattle.amounts.specs.Inner.{size_by}
use Rattle.amounts.proofs.Counting.{least_cut, least_up, most, is_count, is_beyond}
use Rattle.amounts.proofs.rounding.sized.Goals as goal

pub returns-then-cut : goal.returns-then-cut
returns-then-cut c =
    let held : T (fits binary64 c.args.x) = subst T (sym c.well_formed.0.1) tt in
    rw (c.if-cut.true, least_cut c.args.x held c.requires c.if-x.true) (sym (is_count (pos 0) zero-le))

pub returns-then-x : goal.returns-then-x
returns-then-x c =
    let held : T (fits binary64 c.args.x) = subst T (sym c.well_formed.0.1) tt in
    rw (c.if-cut.false, least_up c.args.x held c.requires c.if-x.true) (sym (is_count (pos 1) (lit≤ tt)))

pub returns-then-n : goal.returns-then-n
returns-then-n c =
    let n = c.counted-n in
    rw (to_z_pos w64 n.result (lt_of_le_of_lt c.if-n.true (lit< tt)), ← n.ensures) (sym (is_count (pos n.result) c.if-n.true))

pub returns-else-n : goal.returns-else-n
returns-else-n c =
    let n = c.counted-n in
    rw (← n.ensures) (sym (is_beyond (pos n.result) c.if-n.false))

pub returns-else-x-2 : goal.returns-else-x-2
returns-else-x-2 c =
    let held : T (fits binary64 c.args.x) = subst T (sym c.well_formed.0.1) tt in
    sym (is_beyond (pos (size_by c.args.cut c.args.x)) (most c.args.cut c.args.x held c.requires c.if-x-2.false))
