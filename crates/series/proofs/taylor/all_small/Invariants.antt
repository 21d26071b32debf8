use mathlib.Core.Path.{◌≡◌}
use Rattle.operator.specs.Vectors.{at, every}
use Rattle.series.specs.Series.{small}
use Rattle.series.proofs.taylor.all_small.Given as goal

abbrev pub invariant-loop-i : goal.invariant-loop-i
invariant-loop-i l = l.all ≡ every l.i (λ k. small (at l.v k) (at l.t k))
