-- The size of an amount, a sum and a difference, and the sizes that an i64 holds. Assumes nothing.
use Rattle.std.proofs.Common.{ℕ, suc, ◌+◌, ◌-◌, ◌^◌, ◌<◌, ◌≤◌, Bool, true, false, cond, T, ltb, ℤ, pos, negsuc, ◌+ℤ◌, ◌-ℤ◌, neg_ℤ, nat_abs, arith, w64, SFits}
use mir.Facts.{leb_yes}
use Rattle.amounts.specs.Amounts.{amount_limit, amount_ok}
use Rattle.amounts.proofs.Signed.{nat_abs_neg}

-- a - (b + 1), whichever way the test goes
size_gap : (a b : ℕ) (t : Bool) → nat_abs (cond t (negsuc (suc b - suc a)) (pos (a - suc b))) ≤ a + suc b
size_gap a b true = omega arith
size_gap a b false = omega arith

pub size_add : (a b : ℤ) → nat_abs (a +ℤ b) ≤ nat_abs a + nat_abs b
size_add (pos a) (pos b) = omega arith
size_add (pos a) (negsuc b) = size_gap a b (ltb a (suc b))
size_add (negsuc a) (pos b) = omega (arith, size_gap b a (ltb b (suc a)))
size_add (negsuc a) (negsuc b) = omega arith

pub size_sub : (a b : ℤ) → nat_abs (a -ℤ b) ≤ nat_abs a + nat_abs b
size_sub a b = omega (arith, size_add a (neg_ℤ b), nat_abs_neg b)

pub size_fits : (z : ℤ) → nat_abs z < 2 ^ 63 → SFits w64 z
size_fits (pos n) h = record { sfits = h }
size_fits (negsuc n) h = record { sfits = omega arith }

pub amount_size : (z : ℤ) → T (amount_ok z) → nat_abs z ≤ amount_limit
unfolding amount_ok
amount_size z t = leb_yes t
