-- The loop's invariant: the first i weights are divided, and `calm` says that none of them calls for rebalancing. Assumes nothing.
use mathlib.Core.Path.{◌≡◌}
use Prim.Native.Nat.{ℕ}
use mathlib.Core.Bool.{not}
use mathlib.Core.List.{List}
use lib.Ieee.{Float}
use Rattle.elementary.specs.Float.{◌⊘◌}
use Rattle.operator.specs.Vectors.{at, every}
use Rattle.vector.specs.Run.{rebalances}
use Rattle.operator.proofs.Loops.{filled}
use Rattle.vector.proofs.run.divide.Given as goal

abbrev pub quotient : List Float → Float → ℕ → Float
quotient w max i = at w i ⊘ max

abbrev pub invariant-loop-i : goal.invariant-loop-i
invariant-loop-i l =
    (l.w ≡ filled (quotient l.initial.w l.max) l.initial.w l.i) × (l.calm ≡ every l.i (λ k. not (rebalances (quotient l.initial.w l.max k) l.steps)))
