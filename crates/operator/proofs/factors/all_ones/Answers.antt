-- The rows so far have factors of 1.0. Assumes nothing.
use mathlib.Core.Path.{refl, ◌∙◌}
use native.Mathlib.Omega.{arith}
use borrow.Author.Tests.{eq-eqb, ne_eqb}
use Rattle.operator.specs.Slices.{ones_between}
use Rattle.operator.proofs.Loops.{every_zero, every_at}
use Rattle.operator.proofs.Slices.{ones_more}
use Rattle.operator.proofs.factors.all_ones.Goals as goal

pub returns-then-right-left : goal.returns-then-right-left
unfolding ones_between
returns-then-right-left c = rw (ne_eqb _ _ c.if-right-left.true) refl

pub loop-i-init : goal.loop-i-init
loop-i-init c = (c.if-right-left.false, omega arith, every_zero _)

pub loop-i-preserved : goal.loop-i-preserved
loop-i-preserved c =
    let l = c.loop-i in
    let a = c.args in
    (l.invariant.0, omega arith, ones_more a.left.now a.right.now l.i _ (omega arith) l.invariant.2)

pub returns : goal.returns
unfolding ones_between
returns c = let i = c.loop-i.invariant in rw (eq-eqb _ _ i.0) (i.2 ∙ every_at _ _ _ (omega arith))
