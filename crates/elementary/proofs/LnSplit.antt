-- LN's mantissa and exponent put together are its argument. Assumes nothing.
use Rattle.std.proofs.Common.{◌≡◌, ℕ, ◌-◌, ◌*◌, ◌^◌, ◌<◌, true, false, T, refl, ap, true≢false, zero-lt-suc, lt_of_mul-lt-mul_right, mul-lt-mul_of_pos_right, mul-pos, arith, lt→ltb, pow_pos}
use native.Mathlib.Nat.{eq_of_mul-eq-mul_right}
use lib.Ieee.{Float, nan, inf, fin, binary64, up, down, minus, size, lt, of_bits}
use lib.Ieee.Digits.{size-lt, minus_val}
use lib.Ieee.Fits.{round-fits, down_pos}
use lib.Ieee.Exact.{HasValue}
use lib.Ieee.Order.{le_of_values}
use lib.Ieee.Positive.{num, den, value→cross}
use Rattle.elementary.specs.Float.{count, 1ᶠ, 2ᶠ}
use Rattle.elementary.specs.Elementary.{mantissa, exponent}
use Rattle.elementary.specs.LnSplit.{SplitIsRight}
use Rattle.elementary.proofs.Count.{size_pos, size_lead, twice_pred}
use Rattle.elementary.proofs.Parts.{own_count, count_pos, mantissa_value}

below_two : (y : Float) (a c : ℕ) → 0 < c → HasValue y false a c → a < 2 * c → T (lt y 2ᶠ)
unfolding lt of_bits
below_two nan a c C v h = absurd v
below_two (inf s) a c C v h = absurd v
below_two (fin true m e) a c C v h = absurd (true≢false v.0)
below_two (fin false m e) a c C v h =
    lt→ltb (m * up e * 1) (1 * 2 * down e)
    (lt_of_mul-lt-mul_right c (lt_is (m * up e) c a (down e) v.1 (mul-lt-mul_of_pos_right h (down_pos e))))
  where
    lt_is : (x c a d : ℕ) → x * c ≡ a * d → a * d < 2 * c * d → x * 1 * c < 1 * 2 * d * c
    lt_is x c a d e l = omega arith

one_value : HasValue 1ᶠ false 1 1
unfolding of_bits
one_value = (refl, refl)

-- with x = n / p, f = n / w and 2 ^ e = w / p: x = f × 2 ^ e
together : (nx dx nf df ue de n p w : ℕ) → 0 < p → 0 < w → nx * p ≡ n * dx → nf * w ≡ n * df → ue * p ≡ w * de → nx * (df * de) ≡ nf * ue * dx
together nx dx nf df ue de n p w P W a b c =
    eq_of_mul-eq-mul_right (p * w) (mul-pos P W) (nx * (df * de)) (nf * ue * dx)
    (omega (arith, ap (λ (y : ℕ). y * (df * de * w)) a, ap (λ (y : ℕ). y * (ue * dx * p)) b, ap (λ (y : ℕ). y * (n * dx * df)) c))

halved : (u p w d q : ℕ) → q ≡ 2 * w → 1 * u * (2 * p) ≡ 1 * q * d → u * p ≡ w * d
halved u p w d q e h = omega (arith, ap (λ (y : ℕ). y * d) e)

pub split_is_right : SplitIsRight
unfolding exponent mantissa
split_is_right x t p =
    let n = count binary64 x in
    let z = size n in
    let w = 2 ^ (z - 1) in
    let z-pos : 0 < z = size_pos n (count_pos x t p) in
    let v : HasValue (mantissa x) false n w = mantissa_value x t p in
    let two : 2 ^ z ≡ 2 * w = twice_pred z z-pos in
    let e = minus z 1075 in
    record {
      held = round-fits binary64 false n w;
      least = le_of_values 1ᶠ (mantissa x) 1 1 n w (zero-lt-suc 0) (pow_pos (z - 1)) one_value v (omega (arith, size_lead n (count_pos x t p)));
      most = below_two (mantissa x) n w (pow_pos (z - 1)) v (omega (arith, size-lt n));
      product =
          together (num x) (den x) (num (mantissa x)) (den (mantissa x)) (up e) (down e) n (2 ^ 1074) w (pow_pos 1074) (pow_pos (z - 1)) (value→cross x n (2 ^ 1074) (own_count x t p)) (value→cross (mantissa x) n w v)
          (halved (up e) (2 ^ 1074) w (down e) (2 ^ z) two (minus_val 1 z 1075));
    }
