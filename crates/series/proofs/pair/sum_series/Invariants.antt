use mathlib.Core.Path.{◌≡◌}
use mathlib.Core.Bool.{true, false}
use Prim.Native.Nat.{◌-◌}
use Rattle.series.specs.Slices.{more_terms, series_over}
use Rattle.series.specs.Pairs.{pair_of, operator_of, partial_of}
use Rattle.series.proofs.pair.sum_series.Given as goal

abbrev pub invariant-loop-order : goal.invariant-loop-order
invariant-loop-order l =
    more_terms (101 - l.order) l.s.settled true false (operator_of l.op) l.op.eta_dt l.order (partial_of l.s) ≡ series_over true false (operator_of l.op) l.op.eta_dt (pair_of l.fn.v)
