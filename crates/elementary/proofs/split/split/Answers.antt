use Rattle.std.proofs.Common.{T, sym, subst, le_trans, le_of_eq, lit≤}
use lib.Ieee.{binary64, fits}
use Rattle.elementary.proofs.Parts.{scaled_positive, scaled_enough, scaled_parts, normal}
use Rattle.elementary.proofs.split.split.Goals as goal

pub split_normal-s-requires : goal.split_normal-s-requires
split_normal-s-requires c =
    let held : T (fits binary64 c.args.x) = subst T (sym c.well_formed.0.1) tt in
    let x = c.args.x in
    record { above_zero = scaled_positive x held c.requires c.if-x.true; normal = le_trans (lit≤ tt) (scaled_enough x held c.requires c.if-x.true) }

pub overflow_sub-result : goal.overflow_sub-result
overflow_sub-result c =
    let held : T (fits binary64 c.args.x) = subst T (sym c.well_formed.0.1) tt in
    le_trans (scaled_enough c.args.x held c.requires c.if-x.true) (le_of_eq (sym c.split_normal-s.ensures.sized))

pub returns-then-x : goal.returns-then-x
returns-then-x c =
    let held : T (fits binary64 c.args.x) = subst T (sym c.well_formed.0.1) tt in
    scaled_parts c.args.x held c.requires c.if-x.true _ _ c.split_normal-s.ensures

pub split_normal-requires : goal.split_normal-requires
split_normal-requires c =
    let held : T (fits binary64 c.args.x) = subst T (sym c.well_formed.0.1) tt in
    record { above_zero = c.requires; normal = normal c.args.x held c.requires c.if-x.false }
