-- A row's lots, long or short: without a drift the diagonal turns on them alone. Assumes nothing.
use Rattle.std.proofs.Common.{◌≡◌, ℕ, suc, ◌+◌, ◌-◌, Bool, true, false, cond, leb, ℤ, pos, negsuc, nat_abs, refl, arith, leb-false, leb-true}
use lib.Ieee.{Float, binary64, minus}
use Rattle.elementary.specs.Float.{◌⊕◌, ◌⊗◌, whole, 2ᶠ}
use Rattle.elementary.proofs.Signs.{mul_neg_right, mul_neg_neg, of_int_neg}
use Rattle.plan.specs.Drift.{driftless_diagonal}

pub lots : ℕ → ℕ → ℕ
lots b i = nat_abs (minus i b)

pub lots_of : (b i : ℕ) → lots b i ≡ nat_abs (minus i b)
unfolding lots
lots_of b i = refl

pub lots_are : (b i : ℕ) → lots b i ≡ i - b + (b - i)
unfolding lots
lots_are b i = go (leb b i) refl
  where
    go : (t : Bool) → leb b i ≡ t → nat_abs (cond t (pos (i - b)) (negsuc (b - suc i))) ≡ i - b + (b - i)
    go true h = omega (arith, leb-true b i h)
    go false h = omega (arith, leb-false b i h)

square_of : (x : Float) (z : ℤ) → x ⊗ whole z ⊗ whole z ≡ x ⊗ whole (pos (nat_abs z)) ⊗ whole (pos (nat_abs z))
square_of x (pos n) = refl
square_of x (negsuc n) = rw (of_int_neg binary64 n, mul_neg_right binary64 x (whole (pos (suc n))), mul_neg_neg binary64 (x ⊗ whole (pos (suc n))) (whole (pos (suc n))))

pub square_is : (b : ℕ) (x : Float) (i : ℕ) → x ⊗ whole (minus i b) ⊗ whole (minus i b) ≡ x ⊗ whole (pos (lots b i)) ⊗ whole (pos (lots b i))
unfolding lots
square_is b x i = square_of x (minus i b)

pub diagonal_is : (b : ℕ) (alpha eta : Float) (i : ℕ) → driftless_diagonal b alpha eta i ≡ alpha ⊗ whole (pos (lots b i)) ⊗ whole (pos (lots b i)) ⊕ 2ᶠ ⊗ eta
unfolding driftless_diagonal
diagonal_is b alpha eta i = rw (square_is b alpha i)
