-- The ask's side, by its place. Assumes nothing.
use Rattle.std.specs.Prelude.{Some, None}
use mathlib.Core.Path.{◌≡◌, refl}
use Prim.Native.Nat.{ℕ, zero, suc, ◌-◌, ◌<◌}
use native.Mathlib.Omega.{arith}
use lib.Ieee.{Float}
use Rattle.vector.specs.declared.ValueVector.{ValueVector}
use Rattle.distances.specs.Distances.{distance, ask_at}

-- above the lowest place, the ask's distance leads one place down
pub ask_is : (v : ValueVector) (k base : Float) (i : ℕ) → 0 < i → ask_at v k base i ≡ Some (distance v k base i (i - 1))
unfolding ask_at
ask_is v k base zero h = absurd (omega arith)
ask_is v k base (suc i) h = let e : suc i - 1 ≡ i = omega arith in rw e

pub no_ask : (v : ValueVector) (k base : Float) (i : ℕ) → i ≡ 0 → ask_at v k base i ≡ None
unfolding ask_at
no_ask v k base zero h = refl
no_ask v k base (suc i) h = absurd (omega arith)
