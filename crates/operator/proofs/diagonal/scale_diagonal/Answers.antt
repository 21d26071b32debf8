-- The entries so far are scaled. Assumes nothing.
use mathlib.Core.Path.{refl}
use native.Mathlib.Omega.{arith}
use borrow.Author.Tests.{eq-eqb, ne_eqb}
use Rattle.operator.specs.Slices.{scaled_over}
use Rattle.operator.proofs.Loops.{filled_zero, stored, filled_all}
use Rattle.operator.proofs.diagonal.scale_diagonal.Goals as goal

pub returns-then-diag-diag_s : goal.returns-then-diag-diag_s
unfolding scaled_over
returns-then-diag-diag_s c = rw (ne_eqb _ _ c.if-diag-diag_s.true) refl

pub loop-i-init : goal.loop-i-init
loop-i-init c = (c.if-diag-diag_s.false, filled_zero _ _)

pub loop-i-preserved : goal.loop-i-preserved
loop-i-preserved c = let i = c.loop-i.invariant in (i.0, stored _ _ _ _ _ (omega arith) i.1 refl)

pub returns : goal.returns
unfolding scaled_over
returns c = let i = c.loop-i.invariant in rw (eq-eqb _ _ i.0) (filled_all _ _ _ c.loop-i.i _ (omega arith) (omega arith) i.1)
