-- The range of a vector's length, and the place of a holding of q lots under a bound. Assumes nothing.
use mathlib.Core.Path.{◌≡◌, refl, sym, subst}
use Prim.Native.Nat.{ℕ, suc, ◌*◌, ◌/◌, ◌≤◌}
use native.Mathlib.Omega.{arith}
use mathlib.Core.Bool.{true}
use lib.IntN.{ℤ, pos, negsuc, nat_abs, ◌+ℤ◌}
use lib.Dec.{T, leb, eqb}
use mir.Facts.{and_yes, leb_yes, eqb_yes}
use borrow.Author.Tests.{le-ltb}
use Rattle.plan.specs.Plan.{bound_ok}
use Rattle.operator.specs.Operator.{rows}
use Rattle.distances.specs.Distances.{place, length_ok}

-- ---- the length of a vector
pub length_range : (n : ℕ) → length_ok n ≡ true → (n / 2 ≤ 200) × (n ≡ rows (n / 2))
unfolding length_ok
length_range n e =
    let t = and_yes (bound_ok (n / 2)) (eqb n (rows (n / 2))) (subst T (sym e) tt) in
    (leb_yes (and_yes (leb 1 (n / 2)) (leb (n / 2) 200) t.0).1, eqb_yes t.1)

-- ---- the place of a holding within its bound
pub at_place : (q : ℤ) (b : ℕ) → nat_abs q ≤ b → q +ℤ pos b ≡ pos (place b q)
unfolding place
at_place (pos n) b h = refl
at_place (negsuc n) b h = rw (le-ltb b (suc n))

pub place_most : (q : ℤ) (b : ℕ) → nat_abs q ≤ b → place b q ≤ 2 * b
unfolding place
place_most (pos n) b h = omega arith
place_most (negsuc n) b h = rw (le-ltb b (suc n)) (omega arith)
