-- What is left of the series from the last term and the sum is the whole of it. Assumes nothing.
use mathlib.Core.Path.{◌≡◌, refl, sym, ap, ◌∙◌}
use mathlib.Core.Bool.{true, false}
use Prim.Native.Nat.{◌+◌, ◌-◌}
use native.Mathlib.Omega.{arith}
use lib.ListN.{length}
use Rattle.series.specs.Series.{operator_over}
use Rattle.series.specs.Slices.{SliceSum, sum_of, more_terms, series_over}
use Rattle.series.proofs.Slices.{one_more, at_end, ended}
use Rattle.series.proofs.taylor.taylor_rows.Goals as goal

pub returns-then-first_term : goal.returns-then-first_term
unfolding series_over
returns-then-first_term c =
    let a = c.args in
    let p = operator_over (length a.v.now) a.rows.diag.now a.rows.left.now a.rows.right.now in
    let s = sum_of c.first_term.new.out c.first_term.new.v true in
    sym (at_end a.rows.half a.rows.plain p a.rows.eta_dt 99 2 true s refl) ∙ (rw c.if-first_term.true at (ap (λ (s : SliceSum). more_terms 99 s.settled a.rows.half a.rows.plain p a.rows.eta_dt 2 s) c.first_term.ensures))

pub loop-order-init : goal.loop-order-init
unfolding series_over
loop-order-init c =
    let a = c.args in
    let p = operator_over (length a.v.now) a.rows.diag.now a.rows.left.now a.rows.right.now in
    rw c.if-first_term.false at (ap (λ (s : SliceSum). more_terms 99 s.settled a.rows.half a.rows.plain p a.rows.eta_dt 2 s) c.first_term.ensures)

pub returns-then-next_term : goal.returns-then-next_term
returns-then-next_term c =
    let a = c.args in
    let l = c.loop-order in
    let p = operator_over (length a.v.now) a.rows.diag.now a.rows.left.now a.rows.right.now in
    let n : length l.term ≡ length a.v.now = omega arith in
    let s = sum_of c.next_term.new.x c.next_term.new.v true in
    let more = one_more a.rows.half a.rows.plain p a.rows.eta_dt l.order false (sum_of l.term l.v false) _ _ (omega arith) refl (rw n at c.next_term.ensures) l.invariant in
    sym (at_end a.rows.half a.rows.plain p a.rows.eta_dt (101 - (l.order + 1)) (l.order + 1) true s refl) ∙ (rw c.if-next_term.true at more)

pub loop-order-preserved : goal.loop-order-preserved
loop-order-preserved c =
    let a = c.args in
    let l = c.loop-order in
    let p = operator_over (length a.v.now) a.rows.diag.now a.rows.left.now a.rows.right.now in
    let n : length l.term ≡ length a.v.now = omega arith in
    let more = one_more a.rows.half a.rows.plain p a.rows.eta_dt l.order false (sum_of l.term l.v false) _ _ (omega arith) refl (rw n at c.next_term.ensures) l.invariant in
    rw c.if-next_term.false at more

pub returns : goal.returns
returns c =
    let a = c.args in
    let l = c.loop-order in
    let p = operator_over (length a.v.now) a.rows.diag.now a.rows.left.now a.rows.right.now in
    sym (ended a.rows.half a.rows.plain p a.rows.eta_dt l.order false (sum_of l.term l.v false) (omega arith)) ∙ l.invariant
