-- What a change of sign does to magnitude, quotient, remainder and order of integers, and to whole numbers as floats. Assumes nothing.
use Rattle.std.proofs.Common.{◌≡◌, ℕ, zero, suc, ◌*◌, ◌/◌, ◌%◌, ◌<◌, ℤ, pos, negsuc, ◌+ℤ◌, ◌-ℤ◌, ◌*ℤ◌, neg_ℤ, nat_abs, sym, refl, ap, ◌∙◌, mul-zero, arith, le-ltb, lt-ltb}
use native.Mathlib.Nat.{zero-div}
use lib.IntN.{+ℤ_comm, +ℤ_assoc, +ℤ_invl, +ℤ_idl, neg_ℤ-neg_ℤ}
use lib.Signed.{lt_z, quot_z, rem_z}
use lib.Dec.{leb-suc-suc}
use lib.Ieee.{Format, neg, of_int}
use Rattle.elementary.proofs.Signs.{neg_neg, of_int_neg}

pub nat_abs_neg : (z : ℤ) → nat_abs (neg_ℤ z) ≡ nat_abs z
nat_abs_neg (pos zero) = refl
nat_abs_neg (pos (suc n)) = refl
nat_abs_neg (negsuc n) = refl

pub quot_neg : (z d : ℤ) → quot_z (neg_ℤ z) d ≡ neg_ℤ (quot_z z d)
quot_neg (pos zero) (pos d) = rw (zero-div d)
quot_neg (pos zero) (negsuc d) = rw (zero-div (suc d))
quot_neg (pos (suc n)) (pos d) = refl
quot_neg (pos (suc n)) (negsuc d) = sym (neg_ℤ-neg_ℤ (pos (suc n / suc d)))
quot_neg (negsuc n) (pos d) = sym (neg_ℤ-neg_ℤ (pos (suc n / d)))
quot_neg (negsuc n) (negsuc d) = refl

pub rem_neg : (z d : ℤ) → nat_abs (rem_z (neg_ℤ z) d) ≡ nat_abs (rem_z z d)
rem_neg (pos zero) d = refl
rem_neg (pos (suc n)) d = nat_abs_neg (pos (suc n % nat_abs d))
rem_neg (negsuc n) d = sym (nat_abs_neg (pos (suc n % nat_abs d)))

pub times_neg : (n : ℕ) (z : ℤ) → pos n *ℤ neg_ℤ z ≡ neg_ℤ (pos n *ℤ z)
times_neg n (pos zero) = rw (mul-zero n)
times_neg n (pos (suc m)) = refl
times_neg n (negsuc m) = sym (neg_ℤ-neg_ℤ (pos (n * suc m)))

-- zero is another matter: its opposite as a float is -0
pub whole_neg : (f : Format) (z : ℤ) → 0 < nat_abs z → of_int f (neg_ℤ z) ≡ neg (of_int f z)
whole_neg f (pos zero) h = absurd (omega arith)
whole_neg f (pos (suc n)) h = of_int_neg f n
whole_neg f (negsuc n) h = sym (ap neg (of_int_neg f n) ∙ neg_neg (of_int f (pos (suc n))))

pub lt_z_neg : (a b : ℤ) → lt_z (neg_ℤ b) (neg_ℤ a) ≡ lt_z a b
lt_z_neg (pos zero) (pos zero) = refl
lt_z_neg (pos zero) (pos (suc m)) = sym (lt-ltb 0 (suc m) (omega arith))
lt_z_neg (pos (suc n)) (pos zero) = sym (le-ltb (suc n) 0 (omega arith))
lt_z_neg (pos (suc n)) (pos (suc m)) = sym (leb-suc-suc (suc n) m)
lt_z_neg (pos zero) (negsuc m) = le-ltb (suc m) 0 (omega arith)
lt_z_neg (pos (suc n)) (negsuc m) = refl
lt_z_neg (negsuc n) (pos zero) = lt-ltb 0 (suc n) (omega arith)
lt_z_neg (negsuc n) (pos (suc m)) = refl
lt_z_neg (negsuc n) (negsuc m) = leb-suc-suc (suc m) n

-- as far below m as above it
pub around : (m x : ℤ) → (m -ℤ x) +ℤ (m +ℤ x) ≡ m +ℤ m
around m x = +ℤ_assoc m (neg_ℤ x) (m +ℤ x) ∙ rw (+ℤ_comm m x, ← +ℤ_assoc (neg_ℤ x) x m, +ℤ_invl x, +ℤ_idl m)
