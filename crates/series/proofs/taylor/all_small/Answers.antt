-- The flag is the test of the entries so far. Assumes nothing.
use mathlib.Core.Path.{◌∙◌}
use native.Mathlib.Omega.{arith}
use Rattle.series.specs.Series.{converged}
use Rattle.operator.proofs.Loops.{every_zero, every_suc, every_at}
use Rattle.series.proofs.taylor.all_small.Goals as goal

pub loop-i-init : goal.loop-i-init
loop-i-init c = every_zero _

pub loop-i-preserved : goal.loop-i-preserved
loop-i-preserved c = rw (c.loop-i.invariant, c.is_small-all.ensures) (every_suc c.loop-i.i _)

pub returns : goal.returns
unfolding converged
returns c = c.loop-i.invariant ∙ every_at _ _ _ (omega arith)
