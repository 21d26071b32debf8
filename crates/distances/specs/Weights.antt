-- Which distances are not finite, by the two weights that each reads, as named statements. Each is proved once, in proofs/. Definitions only.
use Rattle.std.specs.Prelude.{◌≡◌, ◌↔◌, ℕ, true, false, Float}
use Rattle.elementary.specs.Float.{finite, positive}
use Rattle.operator.specs.Vectors.{at}
use Rattle.distances.specs.Distances.{distance}
use Rattle.vector.specs.declared.ValueVector.{ValueVector}

-- a distance that reads a weight not finite and positive is not finite
abbrev pub WeightsRead : Type 0
WeightsRead = (v : ValueVector) (k base : Float) (i j : ℕ)
    → (positive (at v.w i) ≡ false → finite (distance v k base i j) ≡ false) × (positive (at v.w j) ≡ false → finite (distance v k base i j) ≡ false)

-- why a distance is not finite: its own weight, else its neighbour's; else the distance itself
pub data DistanceFails (v : ValueVector) (k base : Float) (i j : ℕ) : Type 0 where
  own_weight : positive (at v.w i) ≡ false → DistanceFails v k base i j
  next_weight : positive (at v.w i) ≡ true → positive (at v.w j) ≡ false → DistanceFails v k base i j
  itself : positive (at v.w i) ≡ true → positive (at v.w j) ≡ true → finite (distance v k base i j) ≡ false → DistanceFails v k base i j

abbrev pub DistancesFail : Type 0
DistancesFail = (v : ValueVector) (k base : Float) (i j : ℕ) → (finite (distance v k base i j) ≡ false) ↔ DistanceFails v k base i j
