-- A positive float's parts, as its bits have them: the 53 leading digits of its count and how many digits that has. Assumes nothing.
use Rattle.std.proofs.Common.{◌≡◌, ℕ, ◌+◌, ◌-◌, ◌*◌, ◌/◌, ◌%◌, ◌^◌, ◌<◌, ◌≤◌, true, false, not, T, ltb, ℤ, negsuc, sym, ap, ◌∙◌, subst, le_trans, le_of_eq, lt_of_lt_of_le, lt_of_le_of_lt, le_of_lt, mul-le-mul_right, zero-lt-suc, mul_assoc, mul_comm, mul-lt-mul_of_pos_right, mul-pos, mul-one, mul_right_comm, mul-div_cancel, sub-le, le-add_left, add-sub_cancel, arith, lit<, lit≤, pow_pos, pow-add, ltb-false, ltb-true}
use lib.Ieee.{Float, nan, inf, fin, binary64, size, lt, mul, round, units, fits, is_nan, to_bits, of_bits, up, down}
use lib.Ieee.Digits.{size-le, size_reaches}
use lib.Ieee.Fits.{down_pos}
use lib.Ieee.Exact.{HasValue, round_exact, units_val}
use lib.Ieee.Positive.{value_pos, positive_of_value}
use Rattle.elementary.specs.Float.{count, finite, positive, hex, ◌⊗◌}
use Rattle.elementary.specs.Inner.{leading, SplitOf}
use Rattle.elementary.proofs.Count.{size_pos, size_gt, leading_low, leading_high, leading_cut, leading_shift, size_shift, count_value, count_of_lem, count_exact, twice_pred, count_top, lt_count, positive_is}
use Rattle.elementary.specs.Elementary.{mantissa}
use Rattle.elementary.proofs.Exact.{rescale, round_value}
use Rattle.elementary.proofs.Bits.{to_bits_units, bits_of, units_fits}

-- ---- the two fields of a pattern with the leading digit added in
fields : (k l : ℕ) → 2 ^ 52 ≤ l → l < 2 ^ 53 → ((k * 2 ^ 52 + l) % 2 ^ 52 + 2 ^ 52 ≡ l) × ((k * 2 ^ 52 + l) / 2 ^ 52 + 52 ≡ k + 53)
fields k l a b = omega arith

restore : (z : ℕ) → 53 ≤ z → z - 53 + 53 ≡ z
restore z h = omega arith

some : (z : ℕ) → 53 ≤ z → 0 < z
some z h = omega arith

pub normal_parts : (x : Float) → T (fits binary64 x) → T (positive x) → 53 ≤ size (count binary64 x) → SplitOf (count binary64 x) (to_bits binary64 x % 2 ^ 52 + 2 ^ 52) (to_bits binary64 x / 2 ^ 52 + 52)
unfolding positive finite lt of_bits
normal_parts nan t p h = absurd p
normal_parts (inf s) t p h = absurd p
normal_parts (fin true m e) t p h = absurd p
normal_parts (fin false m e) t p h =
    let n = count binary64 (fin false m e) in
    let k = size n - 53 in
    let n_pos : 0 < n = size_reaches n 0 (some (size n) h) in
    let bits : to_bits binary64 (fin false m e) ≡ k * 2 ^ 52 + leading n = to_bits_units binary64 (fin false m e) n (count_value binary64 false m e t) ∙ ap (λ (x : ℕ). k * 2 ^ 52 + x) (leading_cut n h) in
    let two = fields k (leading n) (leading_low n n_pos) (leading_high n) in
    let digits : to_bits binary64 (fin false m e) % 2 ^ 52 + 2 ^ 52 ≡ leading n = ap (λ (b : ℕ). b % 2 ^ 52 + 2 ^ 52) bits ∙ two.0 in
    let sized : to_bits binary64 (fin false m e) / 2 ^ 52 + 52 ≡ size n = ap (λ (b : ℕ). b / 2 ^ 52 + 52) bits ∙ two.1 ∙ restore (size n) h in
    record {
      leads = digits;
      sized = sized;
      low = subst (λ (y : ℕ). 2 ^ 52 ≤ y) (sym digits) (leading_low n n_pos);
      high = subst (λ (y : ℕ). y < 2 ^ 53) (sym digits) (leading_high n);
      some = subst (λ (y : ℕ). 1 ≤ y) (sym sized) (some (size n) h);
      most = subst (λ (y : ℕ). y ≤ 2098) (sym sized) (size-le n 2098 (count_top binary64 (fin false m e) t));
    }

-- ---- below the smallest normal number, 2 ^ -1022, which is 2 ^ 52 units
pub below_least : (x : Float) → T (fits binary64 x) → T (positive x) → lt x (hex 0x10000000000000) ≡ ltb (count binary64 x) (2 ^ 52)
unfolding positive finite lt of_bits fits count
below_least nan t p = absurd p
below_least (inf s) t p = absurd p
below_least (fin true m e) t p = absurd p
below_least (fin false m e) t p = lt_count binary64 m e 1 (negsuc 1021) t tt

-- ---- such a number times 2 ^ 54 is exact
raised : (n : ℕ) → n < 2 ^ 52 → n * 2 ^ 54 < 2 ^ 1074
raised n h = lt_of_lt_of_le (mul-lt-mul_of_pos_right h (pow_pos 54)) (lit≤ tt)

times : (m u n d : ℕ) → m * u * 2 ^ 1074 ≡ n * d → m * u * (1 * 2 ^ 54) * 2 ^ 1074 ≡ n * 2 ^ 54 * (d * 1)
times m u n d h = mul_right_comm (m * u) (2 ^ 54) (2 ^ 1074) ∙ ap (λ (x : ℕ). x * 2 ^ 54) h ∙ mul_right_comm n d (2 ^ 54) ∙ ap (λ (x : ℕ). n * 2 ^ 54 * x) (sym (mul-one d))

scaled_value : (m : ℕ) (e : ℤ) → T (fits binary64 (fin false m e)) → count binary64 (fin false m e) < 2 ^ 52 → HasValue (fin false m e ⊗ hex 0x4350000000000000) false (count binary64 (fin false m e) * 2 ^ 54) (2 ^ 1074)
unfolding mul of_bits
scaled_value m e t h =
    let n = count binary64 (fin false m e) in
    let same = times m (up e) n (down e) (count_value binary64 false m e t).1 in
    rescale (round binary64 false (m * up e * (1 * 2 ^ 54)) (down e * 1)) false (m * up e * (1 * 2 ^ 54)) (down e * 1) (n * 2 ^ 54) (2 ^ 1074) (mul-pos (down_pos e) (zero-lt-suc 0)) same
    (round_exact binary64 false (m * up e * (1 * 2 ^ 54)) (down e * 1) n 54 (mul-pos (down_pos e) (zero-lt-suc 0)) (lt_of_lt_of_le h (lit≤ tt)) (lt_of_lt_of_le (raised n h) (lit≤ tt)) same)

-- ---- a positive float is its count of units, and that is above zero
pub own_count : (x : Float) → T (fits binary64 x) → T (positive x) → HasValue x false (count binary64 x) (2 ^ 1074)
unfolding positive finite lt of_bits
own_count nan t p = absurd p
own_count (inf s) t p = absurd p
own_count (fin true m e) t p = absurd p
own_count (fin false m e) t p = count_value binary64 false m e t

pub count_pos : (x : Float) → T (fits binary64 x) → T (positive x) → 0 < count binary64 x
count_pos x t p = value_pos x (count binary64 x) (2 ^ 1074) (subst T (positive_is x) p) (pow_pos 1074) (own_count x t p)

-- ---- a subnormal number's parts, by way of the number times 2 ^ 54
scaled : (x : Float) → T (fits binary64 x) → T (positive x) → count binary64 x < 2 ^ 52 → HasValue (x ⊗ hex 0x4350000000000000) false (count binary64 x * 2 ^ 54) (2 ^ 1074)
unfolding positive finite lt of_bits
scaled nan t p h = absurd p
scaled (inf s) t p h = absurd p
scaled (fin true m e) t p h = absurd p
scaled (fin false m e) t p h = scaled_value m e t h

pub subnormal : (x : Float) → T (fits binary64 x) → T (positive x) → lt x (hex 0x10000000000000) ≡ true → count binary64 x < 2 ^ 52
subnormal x t p h = ltb-true (count binary64 x) (2 ^ 52) (sym (below_least x t p) ∙ h)

module _ (x : Float) (t : T (fits binary64 x)) (p : T (positive x)) (h : lt x (hex 0x10000000000000) ≡ true) where
  pub scaled_positive : T (positive (x ⊗ hex 0x4350000000000000))
  scaled_positive =
      let n = count binary64 x in
      subst T (sym (positive_is (x ⊗ hex 0x4350000000000000)))
      (positive_of_value (x ⊗ hex 0x4350000000000000) (n * 2 ^ 54) (2 ^ 1074) (scaled x t p (subnormal x t p h)) (mul-pos (count_pos x t p) (pow_pos 54)))

  pub scaled_count : count binary64 (x ⊗ hex 0x4350000000000000) ≡ count binary64 x * 2 ^ 54
  scaled_count =
      let n = count binary64 x in
      count_of_lem binary64 (x ⊗ hex 0x4350000000000000) false (n * 2 ^ 54) (2 ^ 1074) (pow_pos 1074) (scaled x t p (subnormal x t p h)) ∙ mul-div_cancel (n * 2 ^ 54) (pow_pos 1074)

  scaled_size : size (count binary64 (x ⊗ hex 0x4350000000000000)) ≡ size (count binary64 x) + 54
  scaled_size = ap size scaled_count ∙ size_shift (count binary64 x) 54 (count_pos x t p)

  pub scaled_enough : 54 ≤ size (count binary64 (x ⊗ hex 0x4350000000000000))
  scaled_enough = le_trans (le-add_left 54 (size (count binary64 x))) (le_of_eq (sym scaled_size))

  pub scaled_parts : (d z : ℕ) → SplitOf (count binary64 (x ⊗ hex 0x4350000000000000)) d z → SplitOf (count binary64 x) d (z - 54)
  scaled_parts d z s =
      let n = count binary64 x in
      let is : z - 54 ≡ size n = ap (λ (y : ℕ). y - 54) (s.sized ∙ scaled_size) ∙ add-sub_cancel (size n) 54 in
      record {
        leads = s.leads ∙ ap (λ (y : ℕ). leading y) scaled_count ∙ leading_shift n 54 (count_pos x t p);
        sized = is;
        low = s.low;
        high = s.high;
        some = subst (λ (y : ℕ). 1 ≤ y) (sym is) (size_pos n (count_pos x t p));
        most = le_trans (sub-le z 54) s.most;
      }

-- any other has 53 digits at least
pub normal : (x : Float) → T (fits binary64 x) → T (positive x) → lt x (hex 0x10000000000000) ≡ false → 53 ≤ size (count binary64 x)
normal x t p h = size_gt (count binary64 x) 52 (ltb-false (count binary64 x) (2 ^ 52) (sym (below_least x t p) ∙ h))

-- ---- a positive number is no NaN, so its bits can be read
pub positive_no_nan : (x : Float) → T (positive x) → T (not (is_nan x))
unfolding positive finite is_nan
positive_no_nan nan p = absurd p
positive_no_nan (inf s) p = tt
positive_no_nan (fin s m e) p = tt

-- ---- the parts of LN's argument
rearrange : (l n w : ℕ) → l * (2 * w) ≡ n * 2 ^ 53 → l * 2 ^ 1022 * w ≡ n * 2 ^ 1074
rearrange l n w h =
    mul_right_comm l (2 ^ 1022) w
    ∙ ap (λ (x : ℕ). l * w * x) (pow-add 2 1 1021)
    ∙ sym (mul_assoc (l * w) 2 (2 ^ 1021))
    ∙ ap (λ (x : ℕ). x * 2 ^ 1021) (mul_assoc l w 2 ∙ ap (λ (x : ℕ). l * x) (mul_comm w 2) ∙ h)
    ∙ mul_assoc n (2 ^ 53) (2 ^ 1021)
    ∙ ap (λ (x : ℕ). n * x) (sym (pow-add 2 53 1021))

-- the leading digits at the exponent of 1 are n / 2 ^ (z - 1)
module _ (x : Float) (t : T (fits binary64 x)) (p : T (positive x)) where
  lead_small : leading (count binary64 x) * 2 ^ 1022 < 2 ^ 2098
  lead_small = lt_of_le_of_lt (mul-le-mul_right (2 ^ 1022) (le_of_lt (leading_high (count binary64 x)))) (lit< tt)

  lead_value : HasValue (units binary64 false (leading (count binary64 x)) 1022) false (count binary64 x) (2 ^ (size (count binary64 x) - 1))
  lead_value =
      let n = count binary64 x in
      let l = leading n in
      let w = 2 ^ (size n - 1) in
      rescale (units binary64 false l 1022) false (l * 2 ^ 1022) (2 ^ 1074) n w (pow_pos 1074)
      (rearrange l n w (ap (λ (y : ℕ). l * y) (sym (twice_pred (size n) (size_pos n (count_pos x t p)))) ∙ count_exact x t))
      (units_val binary64 false l 1022 lead_small)

  -- so they are f
  lead_is : units binary64 false (leading (count binary64 x)) 1022 ≡ mantissa x
  unfolding mantissa
  lead_is =
      let n = count binary64 x in
      sym (round_value binary64 (units binary64 false (leading n) 1022) false n (2 ^ (size n - 1)) (pow_pos (size n - 1)) (units_fits binary64 false (leading n) 1022 (le_of_lt (leading_high n)) lead_small) lead_value)

  pub mantissa_value : HasValue (mantissa x) false (count binary64 x) (2 ^ (size (count binary64 x) - 1))
  mantissa_value = subst (λ (y : Float). HasValue y false (count binary64 x) (2 ^ (size (count binary64 x) - 1))) lead_is lead_value

  pub mantissa_bits : of_bits binary64 (1022 * 2 ^ 52 + leading (count binary64 x)) ≡ mantissa x
  mantissa_bits = let n = count binary64 x in bits_of binary64 (leading n) 1022 (leading_low n (count_pos x t p)) (le_of_lt (leading_high n)) lead_small ∙ lead_is
