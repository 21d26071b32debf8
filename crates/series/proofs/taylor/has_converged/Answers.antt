-- Where the first entry is not small, not every one is. Assumes nothing.
use mathlib.Core.Path.{sym, ◌∙◌}
use native.Mathlib.Omega.{arith}
use Rattle.series.specs.Series.{converged}
use Rattle.operator.proofs.Loops.{every_first}
use Rattle.series.proofs.taylor.has_converged.Goals as goal

pub returns : goal.returns
unfolding converged
returns c = every_first _ _ (omega arith) (sym c.is_small.ensures ∙ c.if-is_small.false)
