use mathlib.Core.Path.{◌≡◌, sym, ap, ◌∙◌}
use native.Mathlib.Nat.{le_refl}
use native.Mathlib.Omega.{arith}
use mathlib.Core.Bool.{false, not}
use mathlib.Core.List.{List}
use lib.ListN.{length}
use lib.Ieee.{Float, inf}
use Rattle.elementary.specs.Float.{◌⊘◌}
use Rattle.operator.specs.Vectors.{at, fold, smaller}
use Rattle.vector.specs.Run.{rebalances}
use Rattle.operator.proofs.Loops.{filled_zero, stored, filled_all, at_filled, every_zero, every_suc, every_at}
use Rattle.vector.proofs.RunLaws.{calm_is}
use Rattle.vector.proofs.run.divide.Invariants.{quotient}
use Rattle.vector.proofs.run.divide.Goals as goal

pub loop-i-init : goal.loop-i-init
loop-i-init c = (filled_zero _ _, every_zero _)

pub loop-i-preserved : goal.loop-i-preserved
loop-i-preserved c =
    let i = c.loop-i.i in
    let inv = c.loop-i.invariant in
    let x = c.args in
    let f = quotient x.w.now x.max in
    let old : at c.loop-i.w i ⊘ x.max ≡ f i = rw inv.0 (ap (λ (y : Float). y ⊘ x.max) (at_filled f x.w.now i i (le_refl i))) in
    (stored f x.w.now _ i _ (omega arith) inv.0 old, rw (inv.1, c.must_rebalance.ensures, old) (every_suc i _))

pub returns : goal.returns
returns c =
    let i = c.loop-i.i in
    let x = c.args in
    let e : i ≡ length x.w.now = omega arith in
    let all = filled_all _ _ _ i _ e e c.loop-i.invariant.0 in
    record { w_after = all; value = c.loop-i.invariant.1 ∙ every_at _ _ _ e ∙ calm_is _ (quotient x.w.now x.max) x.steps ∙ ap (λ (l : List Float). not (rebalances (fold smaller (inf false) l) x.steps)) (sym all) }
