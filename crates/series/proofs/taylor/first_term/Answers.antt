-- The rows so far are those of the vector as it was, and so is the entry before the next.  Assumes nothing.
use mathlib.Core.Path.{◌≡◌, refl, ap, ◌∙◌}
use Prim.Native.Nat.{◌+◌, ◌-◌}
use native.Mathlib.Nat.{le_refl}
use native.Mathlib.Omega.{arith}
use mathlib.Core.Bool.{false}
use mathlib.Core.List.{List}
use lib.Dec.{ltb}
use lib.ListN.{length, length-set}
use lib.Ieee.{Float}
use Rattle.operator.specs.Vectors.{at}
use Rattle.operator.proofs.Loops.{filled_zero, stored, stored_last, at_filled, before_first, before_later}
use Rattle.series.proofs.Slices.{never_plain, row_through, row_last, converged_at, first_made}
use Rattle.series.proofs.taylor.first_term.Invariants.{row}
use Rattle.series.proofs.taylor.first_term.Goals as goal

pub loop-i-init : goal.loop-i-init
loop-i-init c = (before_first _ 0 refl, filled_zero _ _, filled_zero _ _)

pub loop-i-preserved : goal.loop-i-preserved
loop-i-preserved c =
    let a = c.args in
    let v = a.v.now in
    let k = c.loop-i.i in
    let i = c.loop-i.invariant in
    let here : at c.loop-i.v k ≡ at v k = ap (λ (m : List Float). at m k) i.2 ∙ at_filled _ v k k (le_refl k) in
    let above : at c.loop-i.v (k + 1) ≡ at v (k + 1) = ap (λ (m : List Float). at m (k + 1)) i.2 ∙ at_filled _ v k (k + 1) (omega arith) in
    let t : c.row_at-t.result ≡ row a.rows.half v a.rows.diag.now a.rows.eta_dt a.rows.left.now a.rows.right.now k =
    row_through a.rows.half false _ a.rows.eta_dt v k _ _ _ (omega arith) i.0 refl (never_plain (ltb 0 k)) (rw (here, above) at c.row_at-t.ensures) in
    let up : k ≡ k + 1 - 1 = omega arith in (
      here ∙ ap (at v) up ∙ before_later v (k + 1) (omega arith),
      stored _ _ _ k _ (omega arith) i.1 t,
      stored _ _ _ k _ (omega arith) i.2 (rw (here, t)),
    )

pub returns : goal.returns
returns c =
    let a = c.args in
    let v = a.v.now in
    let k = c.loop-i.i in
    let n = length a.out.now - 1 in
    let i = c.loop-i.invariant in
    let end : k ≡ n = omega arith in
    let here : at c.loop-i.v n ≡ at v n = ap (λ (m : List Float). at m n) i.2 ∙ at_filled _ v k n (omega arith) in
    let t : c.last_row-t.result ≡ row a.rows.half v a.rows.diag.now a.rows.eta_dt a.rows.left.now a.rows.right.now n =
    row_last a.rows.half false _ a.rows.eta_dt v n _ _ (omega arith) (rw end at i.0) (rw here at c.last_row-t.ensures) in
    first_made a.rows.half false _ a.rows.eta_dt v _ _ _ (stored_last _ _ _ k n (length v) _ (omega arith) (omega arith) (omega arith) i.1 t) (stored_last _ v _ k n (length v) _ (omega arith) (omega arith) refl i.2 (rw (here, t)))
    (c.has_converged.ensures ∙ converged_at _ _ _ _ (simp length-set (omega arith)))
