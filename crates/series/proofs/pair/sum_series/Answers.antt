-- What is left of the series from the last term and the sum is the whole of it. Assumes nothing.
use mathlib.Core.Path.{sym, ap, ◌∙◌}
use mathlib.Core.Bool.{true, false}
use Prim.Native.Nat.{◌-◌}
use native.Mathlib.Omega.{arith}
use Rattle.series.specs.Slices.{SliceSum, more_terms, series_over}
use Rattle.series.specs.Pairs.{operator_of, partial_of}
use Rattle.series.proofs.Slices.{one_more, at_end, ended}
use Rattle.series.proofs.pair.sum_series.Goals as goal

pub loop-order-init : goal.loop-order-init
unfolding series_over
loop-order-init c = let op = c.args.op in ap (λ (s : SliceSum). more_terms 99 s.settled true false (operator_of op) op.eta_dt 2 s) c.first_pair-s.ensures

pub loop-order-preserved : goal.loop-order-preserved
loop-order-preserved c =
    let l = c.loop-order in
    let op = c.args.op in
    one_more true false (operator_of op) op.eta_dt l.order l.s.settled (partial_of l.s) _ _ (omega arith) c.if-s.false c.next_pair-s.ensures l.invariant

pub returns-then-s : goal.returns-then-s
returns-then-s c =
    let l = c.loop-order in
    let op = c.args.op in
    sym (at_end true false (operator_of op) op.eta_dt (101 - l.order) l.order l.s.settled (partial_of l.s) c.if-s.true) ∙ l.invariant

pub returns : goal.returns
returns c =
    let l = c.loop-order in
    let op = c.args.op in
    sym (ended true false (operator_of op) op.eta_dt l.order l.s.settled (partial_of l.s) (omega arith)) ∙ l.invariant
