use mathlib.Core.Path.{◌≡◌}
use mathlib.Core.Bool.{false}
use Prim.Native.Nat.{◌-◌}
use lib.ListN.{length}
use Rattle.series.specs.Series.{operator_over}
use Rattle.series.specs.Slices.{sum_of, more_terms, series_over}
use Rattle.series.proofs.taylor.taylor_rows.Given as goal

abbrev pub invariant-loop-order : goal.invariant-loop-order
invariant-loop-order l =
    let p = operator_over (length l.fn.v) l.rows.diag.now l.rows.left.now l.rows.right.now in
    more_terms (101 - l.order) false l.rows.half l.rows.plain p l.rows.eta_dt l.order (sum_of l.term l.v false) ≡ series_over l.rows.half l.rows.plain p l.rows.eta_dt l.fn.v
