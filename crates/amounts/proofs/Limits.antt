-- Amounts as the machine holds them, and quotients by them. Assumes nothing.
use Rattle.std.proofs.Common.{◌≡◌, ℕ, zero, suc, ◌/◌, ◌^◌, ◌<◌, ◌≤◌, T, eqb, ℤ, pos, negsuc, neg_ℤ, nat_abs, refl, lt_of_le_of_lt, div-le_self, arith, ltb→lt, to_z-of_z, w64, SFits, to_z, of_z, ne_eqb}
use lib.Signed.{mag, quot_z}
use lib.Ieee.{binary64, of_bits, of_int}
use Rattle.elementary.specs.Float.{whole}
use Rattle.amounts.specs.Amounts.{above0}

-- ---- bits
-- a field's bits are read back as its number
pub kept : (z : ℤ) → mag z < 2 ^ 63 → to_z w64 (of_z w64 z) ≡ z
kept z h = to_z-of_z {w = w64} (record { sfits = h })

-- the bits of a number above zero
some_bits : (z : ℤ) → T (above0 z) → 0 < of_z w64 z
unfolding above0
some_bits (pos n) h = ltb→lt 0 n h
some_bits (negsuc n) h = absurd h

-- of all numbers, zero alone has the bits 0
pub zero_bits : (z : ℤ) → mag z < 2 ^ 63 → eqb (of_z w64 z) 0 ≡ eqb (nat_abs z) 0
zero_bits (pos n) h = refl
zero_bits (negsuc n) h = rw (ne_eqb (of_z w64 (negsuc n)) 0 (λ e. omega arith), ne_eqb (suc n) 0 (λ e. omega arith))

-- ---- the code's whole numbers
pub billion_is : of_bits binary64 4741671816366391296 ≡ whole (pos 1_000_000_000)
unfolding of_bits of_int
billion_is = refl

pub thousand_is : of_bits binary64 4652007308841189376 ≡ whole (pos 1000)
unfolding of_bits of_int
thousand_is = refl

pub year_is : of_bits binary64 4719230590769954816 ≡ whole (pos 31_536_000)
unfolding of_bits of_int
year_is = refl

-- ---- a quotient by a number above zero is no larger
mag_negated : (r n : ℕ) → r ≤ suc n → mag (neg_ℤ (pos r)) ≤ n
mag_negated zero n h = omega arith
mag_negated (suc r) n h = omega arith

mag_quot : (h d : ℤ) → T (above0 d) → mag (quot_z h d) ≤ mag h
unfolding above0
mag_quot (pos n) (pos d) k = div-le_self n d
mag_quot (negsuc n) (pos d) k = mag_negated (suc n / d) n (div-le_self (suc n) d)
mag_quot h (negsuc d) k = absurd k

pub quot_fits : (h d : ℤ) → SFits w64 h → T (above0 d) → SFits w64 (quot_z h d)
quot_fits h d f k = record { sfits = lt_of_le_of_lt (mag_quot h d k) f.sfits }

-- so that the code may divide by it
pub divides : (h d : ℤ) → SFits w64 h → mag d < 2 ^ 63 → T (above0 d) → (0 < of_z w64 d) × SFits w64 (quot_z (to_z w64 (of_z w64 h)) (to_z w64 (of_z w64 d)))
divides h d f g k = (some_bits d k, rw (to_z-of_z f, kept d g) (quot_fits h d f k))
