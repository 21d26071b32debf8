use Rattle.std.proofs.Common.{T, sym, subst}
use lib.Ieee.{binary64, fits}
use Rattle.elementary.proofs.WholeUp.{large, large_neg}
use Rattle.elementary.proofs.ceiling.ceil_finite.Goals as goal

pub returns-then-x : goal.returns-then-x
returns-then-x c =
    let held : T (fits binary64 c.args.x) = subst T (sym c.well_formed.0.1) tt in
    large_neg c.args.x c.requires held c.if-x-2.false

pub returns : goal.returns
returns c =
    let held : T (fits binary64 c.args.x) = subst T (sym c.well_formed.0.1) tt in
    large c.args.x c.requires held c.if-x-3.false
