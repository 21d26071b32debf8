-- The loop's invariant: the larger of both is the largest of the first 2 × k weights, from 0.0, and both flags say whether these are above zero. Assumes nothing.
use mathlib.Core.Path.{◌≡◌}
use Prim.Native.Nat.{◌*◌}
use mathlib.Core.Bool.{◌&&◌}
use lib.ListN.{take}
use lib.Ieee.{binary64, lt}
use Rattle.elementary.specs.Float.{0ᶠ}
use Rattle.operator.specs.Vectors.{at, every, fold, larger}
use Rattle.series.proofs.Extremes.{Gathered}
use Rattle.vector.proofs.run.largest.Given as goal

abbrev pub invariant-loop-k : goal.invariant-loop-k
invariant-loop-k l =
    Gathered binary64 l.even × Gathered binary64 l.odd × (larger l.even l.odd ≡ fold larger 0ᶠ (take (2 * l.k) l.w)) × ((l.first && l.second) ≡ every (2 * l.k) (λ j. lt 0ᶠ (at l.w j)))
