-- The logarithm of 2, and products with its high part. Assumes nothing.
use Rattle.std.proofs.Common.{ℕ, suc, ◌-◌, ◌*◌, ◌^◌, ◌<◌, ◌≤◌, Bool, true, false, cond, leb, pos, negsuc, nat_abs, sym, refl, ap, ◌∙◌, subst, le_trans, lt_of_lt_of_le, zero-lt-suc, mul_assoc, arith, pow_pos, pow_mono, pow-add, shl_lt}
use lib.Ieee.{Float, binary64, minus, unlike, size, lt, round, add, sub, mul, div, of_int, of_bits}
use lib.Ieee.Digits.{size-le}
use lib.Ieee.Exact.{HasValue, round_exact}
use lib.Ieee.Positive.{num, den}
use Rattle.elementary.specs.Float.{◌⊗◌, finite, positive, count}
use Rattle.elementary.specs.Reply.{given}
use Rattle.elementary.specs.Elementary.{horner, HI, mantissa, exponent, odds, ln_sum, ln_series, ln_join, ln_parts, ln_halved, ln_of, LN}
use Rattle.elementary.specs.LnTwo.{LnOfTwo, HighExact}
use Rattle.elementary.proofs.Exact.{mul_over, whole_value}
use Rattle.elementary.proofs.Count.{size_pos, count_top}
use Rattle.elementary.proofs.Parts.{count_pos}

pub ln_of_two : LnOfTwo
unfolding LN given positive finite lt ln_of ln_halved mantissa exponent count ln_parts ln_join ln_series ln_sum horner odds of_bits of_int round add sub mul div
ln_of_two = refl

-- HI is 2977044471 / 2 ^ 32: its 32 digits and the 21 of n are no more than a float's 53
digits : (n : ℕ) → n ≤ 2 ^ 21 → n * 2977044471 < 2 ^ 53
digits n h = omega arith

times_high : (x : Float) (s : Bool) (n : ℕ) → n ≤ 2 ^ 21 → HasValue x s n 1 → HasValue (x ⊗ HI) (unlike s false) (n * num HI) (den HI)
unfolding of_bits
times_high x s n h v =
    let q = n * 2977044471 in
    let t = unlike s false in
    subst (λ (y : Float). HasValue y t q (2 ^ 32)) (sym (mul_over binary64 x HI s n 1 false 2977044471 (2 ^ 32) (zero-lt-suc 0) (pow_pos 32) v (refl, refl)))
    (round_exact binary64 t q (2 ^ 32) q 1042 (pow_pos 32) (digits n h)
    (lt_of_lt_of_le (shl_lt 53 1042 (digits n h)) (pow_mono {i = 1095} {j = 2098} (omega arith)))
    (ap (λ (y : ℕ). q * y) (pow-add 2 1042 32) ∙ sym (mul_assoc q (2 ^ 1042) (2 ^ 32))))

-- z - 1075 for a z of 1 to 2098
within : (z : ℕ) → 0 < z → z ≤ 2098 → nat_abs (minus z 1075) ≤ 1074
within z h k = go (leb 1075 z)
  where
    go : (p : Bool) → nat_abs (cond p (pos (z - 1075)) (negsuc (1075 - suc z))) ≤ 1074
    go true = omega arith
    go false = omega arith

pub high_exact : HighExact
unfolding exponent
high_exact = record {
  above = λ n h. times_high (of_int binary64 (pos n)) false n h (whole_value binary64 (pos n) (le_trans h (pow_mono {i = 21} {j = 53} (omega arith))));
  below = λ n h. times_high (of_int binary64 (negsuc n)) true (suc n) h (whole_value binary64 (negsuc n) (le_trans h (pow_mono {i = 21} {j = 53} (omega arith))));
  met = λ x t p. let n = count binary64 x in within (size n) (size_pos n (count_pos x t p)) (size-le n 2098 (count_top binary64 x t));
}
