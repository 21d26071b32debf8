use mathlib.Core.Path.{◌≡◌, refl, sym}
use Prim.Native.Nat.{ℕ, ◌+◌, ◌*◌, ◌/◌, ◌%◌}
use native.Mathlib.Omega.{arith}
use mathlib.Core.Bool.{Bool, true, false}
use lib.Dec.{eqb}
use borrow.Author.Tests.{eq-eqb, ne_eqb, eqb-true, eqb-false}
use Rattle.distances.specs.Distances.{length_ok}
use Rattle.distances.proofs.places.length_fits.Goals as goal

-- a number is odd where it is one more than twice its half
odd_is : (n : ℕ) → eqb (n % 2) 1 ≡ eqb n (2 * (n / 2) + 1)
odd_is n = go (eqb (n % 2) 1) (eqb-true (n % 2) 1) (eqb-false (n % 2) 1)
  where
    go : (t : Bool) → (t ≡ true → n % 2 ≡ 1) → (t ≡ false → n % 2 ≡ 1 → ⊥) → t ≡ eqb n (2 * (n / 2) + 1)
    go true h k = sym (eq-eqb n (2 * (n / 2) + 1) (omega (arith, h refl)))
    go false h k = sym (ne_eqb n (2 * (n / 2) + 1) (λ e. k refl (omega arith)))

pub returns : goal.returns
unfolding length_ok
returns c = rw odd_is
