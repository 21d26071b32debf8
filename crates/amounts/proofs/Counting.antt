-- A float's count of billionths: of a positive one by its digits and its exponent's field, of a negative one by its opposite. Assumes nothing.
use Rattle.std.specs.Prelude.{Result, Ok, Err}
use Rattle.std.proofs.Common.{◌≡◌, ℕ, zero, suc, ◌+◌, ◌-◌, ◌*◌, ◌/◌, ◌%◌, ◌^◌, ◌<◌, ◌≤◌, Bool, true, false, T, ltb, ℤ, pos, negsuc, ◌-ℤ◌, neg_ℤ, nat_abs, sym, refl, ap, ◌∙◌, subst, le_trans, le_of_eq, lt_of_lt_of_le, lt_of_le_of_lt, mul-le-mul_right, mul_assoc, mul-lt-mul_of_pos_right, mul-pos, le-div_iff_mul-le, mul_right_comm, le_of_mul-le-mul_right, arith, lit<, lit≤, leb→le, pow_pos, pow-add, shl_exact, w64, SFits, ltb-false, ltb-true, le-leb}
use native.Mathlib.Nat.{eq_of_mul-eq-mul_right}
use borrow.Author.Tests.{lt-leb}
use lib.IntN.{+ℤ_idl}
use lib.Pow.{pow-lt}
use lib.Ieee.{Float, nan, inf, fin, binary64, up, down, size, neg, lt, of_bits, to_bits, fits}
use lib.Ieee.Digits.{size-le}
use lib.Ieee.Fits.{down_pos}
use Rattle.elementary.specs.Float.{count, finite, positive, hex}
use Rattle.elementary.specs.Inner.{SplitOf}
use Rattle.elementary.specs.WholeUp.{next}
use Rattle.elementary.proofs.WholeUp.{next_holds, next_only, next_same}
use Rattle.elementary.proofs.Count.{size_gt, count_value, count_exact, lt_count, positive_is}
use Rattle.elementary.proofs.Parts.{normal_parts, count_pos}
use Rattle.amounts.specs.Refusals.{beyond}
use Rattle.amounts.specs.Amounts.{billion, amount_limit, amount_ok}
use Rattle.amounts.specs.Rounding.{billionths, count_if}
use Rattle.amounts.specs.Inner.{size_by, count_of}
use Rattle.amounts.proofs.Signed.{nat_abs_neg}
use Rattle.elementary.specs.declared.Refusal.{Refusal}
use Rattle.elementary.specs.Checks.{by}

-- ---- equal fractions have the same billionths
same : (t : Bool) (a b c d : ℕ) → 0 < b → 0 < d → a * d ≡ c * b → next t (a * billion) b ≡ next t (c * billion) d
same t a b c d B D h = next_same t (a * billion) b (c * billion) d B D (mul_right_comm a billion d ∙ ap (λ (z : ℕ). z * billion) h ∙ mul_right_comm c b billion)

-- ---- a positive float is so many units of 2 ^ -1074
by_units : (t : Bool) (x : Float) → T (fits binary64 x) → T (positive x) → size_by t x ≡ next t (count binary64 x * billion) (2 ^ 1074)
unfolding positive finite lt of_bits size_by
by_units t nan f p = absurd p
by_units t (inf s) f p = absurd p
by_units t (fin true m e) f p = absurd p
by_units t (fin false m e) f p = same t (m * up e) (down e) (count binary64 (fin false m e)) (2 ^ 1074) (down_pos e) (pow_pos 1074) (count_value binary64 false m e f).1

-- 2 ^ -30 is 2 ^ 1044 units, and 2 ^ 30 is 2 ^ 1104
below_least : (x : Float) → T (fits binary64 x) → T (positive x) → lt x (hex 0x3E10000000000000) ≡ ltb (count binary64 x) (2 ^ 1044)
unfolding positive finite lt of_bits fits count
below_least nan t p = absurd p
below_least (inf s) t p = absurd p
below_least (fin true m e) t p = absurd p
below_least (fin false m e) t p = lt_count binary64 m e 1 (negsuc 29) t tt

below_most : (x : Float) → T (fits binary64 x) → T (positive x) → lt x (hex 0x41D0000000000000) ≡ ltb (count binary64 x) (2 ^ 1104)
unfolding positive finite lt of_bits fits count
below_most nan t p = absurd p
below_most (inf s) t p = absurd p
below_most (fin true m e) t p = absurd p
below_most (fin false m e) t p = lt_count binary64 m e 1 (pos 30) t tt

-- ---- below 2 ^ -30 there is less than a billionth: none when cut, one when rounded up
few : (n : ℕ) → n < 2 ^ 1044 → n * billion < 2 ^ 1074
few n h =
    let fewer : n * billion ≤ n * 2 ^ 30 = omega arith in
    lt_of_le_of_lt fewer (lt_of_lt_of_le (mul-lt-mul_of_pos_right h (pow_pos 30)) (le_of_eq (sym (pow-add 2 1044 30))))

next_none : (a d : ℕ) → a < d → next true a d ≡ 0
next_none a d h = next_only true a d 0 (omega arith) (omega arith, omega arith)

next_one : (a d : ℕ) → 0 < a → a < d → next false a d ≡ 1
next_one a d p h = next_only false a d 1 (omega arith) (omega arith, omega arith)

module _ (x : Float) (f : T (fits binary64 x)) (p : T (positive x)) (h : lt x (hex 0x3E10000000000000) ≡ true) where
  less : count binary64 x * billion < 2 ^ 1074
  less = few (count binary64 x) (ltb-true (count binary64 x) (2 ^ 1044) (sym (below_least x f p) ∙ h))

  pub least_cut : size_by true x ≡ 0
  least_cut = by_units true x f p ∙ next_none (count binary64 x * billion) (2 ^ 1074) less

  pub least_up : size_by false x ≡ 1
  least_up = by_units false x f p ∙ next_one (count binary64 x * billion) (2 ^ 1074) (mul-pos (count_pos x f p) (lit< tt)) less

-- ---- from 2 ^ 30 on they are beyond the limit
next_ge : (t : Bool) (k a d : ℕ) → 0 < d → k * d ≤ a → k ≤ next t a d
next_ge true k a d D h = (le-div_iff_mul-le D).1 h
next_ge false k a d D h = le_of_mul-le-mul_right (le_trans h (next_holds false a d D).0) D

many : (n : ℕ) → 2 ^ 1104 ≤ n → 2 ^ 30 * billion * 2 ^ 1074 ≤ n * billion
many n h = le_trans (le_of_eq (mul_right_comm (2 ^ 30) billion (2 ^ 1074) ∙ ap (λ (z : ℕ). z * billion) (sym (pow-add 2 30 1074)))) (mul-le-mul_right billion h)

pub most : (t : Bool) (x : Float) → T (fits binary64 x) → T (positive x) → lt x (hex 0x41D0000000000000) ≡ false → amount_limit < size_by t x
most t x f p h =
    let n = count binary64 x in
    let big : 2 ^ 30 * billion ≤ next t (n * billion) (2 ^ 1074) = next_ge t (2 ^ 30 * billion) (n * billion) (2 ^ 1074) (pow_pos 1074) (many n (ltb-false n (2 ^ 1104) (sym (below_most x f p) ∙ h))) in
    rw (by_units t x f p) (lt_of_lt_of_le (lit< tt) big)

-- ---- between them
-- digits d and an exponent's field f with d * 2 ^ (f - 1) = n, the units
placed : (d n f : ℕ) → f ≤ 1052 → d * 2 ^ (f + 52) ≡ n * 2 ^ 53 → d * 2 ^ 1074 ≡ n * (2 ^ (1052 - f) * 2 ^ 23)
placed d n f h e =
    let k = 2 ^ (1052 - f) in
    let whole : 1104 ≡ f + 52 + (1052 - f) = omega arith in
    eq_of_mul-eq-mul_right (2 ^ 30) (pow_pos 30) (d * 2 ^ 1074) (n * (k * 2 ^ 23))
    (mul_assoc d (2 ^ 1074) (2 ^ 30)
    ∙ ap (λ (z : ℕ). d * z) (sym (pow-add 2 1074 30) ∙ ap (λ (z : ℕ). 2 ^ z) whole ∙ pow-add 2 (f + 52) (1052 - f))
    ∙ sym (mul_assoc d (2 ^ (f + 52)) k)
    ∙ ap (λ (z : ℕ). z * k) e
    ∙ spread n k)
  where
    spread : (n k : ℕ) → n * 2 ^ 53 * k ≡ n * (k * 2 ^ 23) * 2 ^ 30
    spread n k = omega arith

module _ (x : Float) (t : T (fits binary64 x)) (p : T (positive x)) (range : (lt x (hex 0x3E10000000000000) ≡ false) × (lt x (hex 0x41D0000000000000) ≡ true)) where
  size_low : 1044 < size (count binary64 x)
  size_low = size_gt (count binary64 x) 1044 (ltb-false (count binary64 x) (2 ^ 1044) (sym (below_least x t p) ∙ range.0))

  size_high : size (count binary64 x) ≤ 1104
  size_high = size-le (count binary64 x) 1104 (ltb-true (count binary64 x) (2 ^ 1104) (sym (below_most x t p) ∙ range.1))

  parts : SplitOf (count binary64 x) (to_bits binary64 x % 2 ^ 52 + 2 ^ 52) (to_bits binary64 x / 2 ^ 52 + 52)
  parts = normal_parts x t p (omega (arith, size_low))

  pub field_most : to_bits binary64 x / 2 ^ 52 ≤ 1052
  field_most = omega (arith, parts.sized, size_high)

  pub shift_lt : 1052 - to_bits binary64 x / 2 ^ 52 < 60
  shift_lt = omega (arith, parts.sized, size_low)

  unit_is : 1 * 2 ^ (1052 - to_bits binary64 x / 2 ^ 52) % 2 ^ 64 ≡ 2 ^ (1052 - to_bits binary64 x / 2 ^ 52)
  unit_is = shl_exact 1 (1052 - to_bits binary64 x / 2 ^ 52) 64 (lit< tt) (omega (arith, shift_lt)) ∙ omega arith

  by_digits : (c : Bool) → next c ((to_bits binary64 x % 2 ^ 52 + 2 ^ 52) * billion) (2 ^ (1052 - to_bits binary64 x / 2 ^ 52) * 2 ^ 23) ≡ size_by c x
  by_digits c =
      let n = count binary64 x in
      let f = to_bits binary64 x / 2 ^ 52 in
      let d = to_bits binary64 x % 2 ^ 52 + 2 ^ 52 in
      let exact : d * 2 ^ (f + 52) ≡ n * 2 ^ 53 = rw (parts.leads, parts.sized) (count_exact x t) in
      same c d (2 ^ (1052 - f) * 2 ^ 23) n (2 ^ 1074) (mul-pos (pow_pos (1052 - f)) (pow_pos 23)) (pow_pos 1074) (placed d n f field_most exact) ∙ sym (by_units c x t p)

  -- what is handed to the division, and what comes back
  pub unit_some : 0 < 1 * 2 ^ (1052 - to_bits binary64 x / 2 ^ 52) % 2 ^ 64
  unit_some = rw unit_is (pow_pos (1052 - to_bits binary64 x / 2 ^ 52))

  pub unit_small : 1 * 2 ^ (1052 - to_bits binary64 x / 2 ^ 52) % 2 ^ 64 < 2 ^ 60
  unit_small = rw unit_is (pow-lt shift_lt)

  pub by_words : (c : Bool) (r h l : ℕ) → h * 2 ^ 23 + l ≡ (to_bits binary64 x % 2 ^ 52 + 2 ^ 52) * billion
      → r ≡ next c (h * 2 ^ 23 + l) (1 * 2 ^ (1052 - to_bits binary64 x / 2 ^ 52) % 2 ^ 64 * 2 ^ 23) → r ≡ size_by c x
  by_words c r h l e g = g ∙ (λ i. next c (e i) (unit_is i * 2 ^ 23)) ∙ by_digits c

-- ---- signs
pub above : (x : Float) → T (positive x) → billionths x ≡ pos (size_by false x)
unfolding positive finite lt of_bits billionths size_by
above nan p = absurd p
above (inf s) p = absurd p
above (fin true m e) p = absurd p
above (fin false m e) p = refl

pub below : (x : Float) → T (positive (neg x)) → billionths x ≡ neg_ℤ (pos (size_by true (neg x)))
unfolding positive finite lt of_bits neg billionths size_by
below nan p = absurd p
below (inf s) p = absurd p
below (fin true m e) p = refl
below (fin false m e) p = absurd p

-- where neither x nor its opposite is positive
pub neither : (x : Float) → positive x ≡ false → positive (neg x) ≡ false → billionths x ≡ pos 0
unfolding neg billionths
neither nan h k = refl
neither (inf s) h k = refl
neither (fin false zero e) h k = ap pos (next_only false (0 * up e * billion) (down e) 0 (down_pos e) (omega arith, omega (arith, down_pos e)))
neither (fin true zero e) h k = ap (λ (n : ℕ). neg_ℤ (pos n)) (next_none (0 * up e * billion) (down e) (omega (arith, down_pos e)))
neither (fin false (suc m) e) h k = absurd (omega (arith, ltb-false 0 (suc m) (sym (positive_is (fin false (suc m) e)) ∙ h)))
neither (fin true (suc m) e) h k = absurd (omega (arith, ltb-false 0 (suc m) (sym (positive_is (fin false (suc m) e)) ∙ k)))

-- ---- the answers
pub is_count : (z : ℤ) → nat_abs z ≤ amount_limit → count_of z ≡ Ok z
unfolding count_of count_if amount_ok
is_count z l = rw (le-leb (nat_abs z) amount_limit l)

pub is_beyond : (z : ℤ) → amount_limit < nat_abs z → count_of z ≡ Err (by beyond)
unfolding count_of count_if amount_ok
is_beyond z l = rw (lt-leb (nat_abs z) amount_limit l)

abbrev pub opposite : Result ℤ Refusal → Result ℤ Refusal
opposite (Ok z) = Ok (neg_ℤ z)
opposite (Err r) = Err r

pub is_opposite : (z : ℤ) → opposite (count_of z) ≡ count_of (neg_ℤ z)
unfolding count_of count_if amount_ok
is_opposite z = rw (nat_abs_neg z) (go (amount_ok z))
  where
    go : (b : Bool) → opposite (count_if true b z) ≡ count_if true b (neg_ℤ z)
    go true = refl
    go false = refl

-- a count is within the limit, so that an i64 holds its opposite
abbrev Within : Result ℤ Refusal → Type 0
Within (Ok z) = nat_abs z ≤ amount_limit
Within (Err r) = 0 ≤ amount_limit

pub count_within : (z n : ℤ) → Ok n ≡ count_of z → nat_abs n ≤ amount_limit
unfolding count_of count_if amount_ok
count_within z n h = subst Within (sym h) (go (amount_ok z) (leb→le (nat_abs z) amount_limit))
  where
    go : (b : Bool) → (T b → nat_abs z ≤ amount_limit) → Within (count_if true b z)
    go true l = l tt
    go false l = lit≤ tt

-- a number within the limit fits 64 bits, and so does its opposite
pub held : (z : ℤ) → nat_abs z ≤ amount_limit → SFits w64 z
held (pos n) h = record { sfits = omega arith }
held (negsuc n) h = record { sfits = omega arith }

pub minus_held : (z : ℤ) → nat_abs z ≤ amount_limit → SFits w64 (pos 0 -ℤ z)
minus_held z h = rw (+ℤ_idl (neg_ℤ z)) (go z h)
  where
    go : (z : ℤ) → nat_abs z ≤ amount_limit → SFits w64 (neg_ℤ z)
    go (pos zero) h = record { sfits = lit< tt }
    go (pos (suc n)) h = record { sfits = omega arith }
    go (negsuc n) h = record { sfits = omega arith }
