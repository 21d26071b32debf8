use mathlib.Core.Path.{◌≡◌, refl, sym, ap, ◌∙◌}
use native.Mathlib.Nat.{le_refl}
use native.Mathlib.Omega.{arith}
use mathlib.Core.List.{List}
use lib.ListN.{length}
use lib.Ieee.{Float}
use Rattle.operator.specs.Vectors.{at}
use Rattle.operator.proofs.Loops.{filled_zero, stored, filled_all, at_filled, every_zero, every_suc, every_at, fill_tab}
use Rattle.vector.proofs.run.rebalance.Goals as goal

pub loop-i-init : goal.loop-i-init
loop-i-init c = (filled_zero _ _, filled_zero _ _, every_zero _)

pub loop-i-preserved : goal.loop-i-preserved
loop-i-preserved c =
    let i = c.loop-i.i in
    let inv = c.loop-i.invariant in
    let x = c.args in
    let w-old : at c.loop-i.w i ≡ at x.w.now i = ap (λ (l : List Float). at l i) inv.0 ∙ at_filled _ _ i i (le_refl i) in
    let o-old : at c.loop-i.o i ≡ at x.o.now i = ap (λ (l : List Float). at l i) inv.1 ∙ at_filled _ _ i i (le_refl i) in (
      stored _ _ _ i _ (omega arith) inv.0 refl,
      stored _ _ _ i _ (omega arith) inv.1 (rw (c.or_nan.ensures, c.ln.ensures, w-old, o-old)),
      rw (inv.2, c.is_positive_finite-all.ensures, w-old) (every_suc i _),
    )

pub returns : goal.returns
returns c =
    let i = c.loop-i.i in
    let inv = c.loop-i.invariant in
    let e : i ≡ length c.args.w.now = omega arith in
    record { w_after = filled_all _ _ _ i _ e e inv.0 ∙ sym (fill_tab _ _); o_after = filled_all _ _ _ i _ (omega arith) e inv.1; value = inv.2 ∙ every_at _ _ _ e }
