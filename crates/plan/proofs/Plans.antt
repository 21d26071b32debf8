-- The steps of a plan that keeps its budget: at least 1.0 and at most the budget, so the cast to a whole number loses none of their size. Assumes nothing.
use Rattle.std.proofs.Common.{◌≡◌, ℕ, ◌+◌, ◌*◌, ◌^◌, ◌<◌, ◌≤◌, Bool, true, false, cond, T, List, length, pos, sym, refl, ◌∙◌, le_trans, lt_trans, le_of_eq, lt_of_le_of_lt, le_of_lt, zero-lt-suc, arith, lit<, lit≤, le→leb, lt-ltb}
use lib.Pow.{pow-lt}
use lib.Ieee.{Float, nan, inf, fin, binary64, up, down, lt, le, of_bits, in_float, to_unsigned}
use lib.Ieee.Fits.{down_pos}
use lib.Ieee.Back.{unsigned_back}
use lib.Ieee.Order.{le_of_values}
use Rattle.elementary.specs.Float.{◌⊘◌, whole, 1ᶠ, 2ᶠ}
use Rattle.elementary.specs.Elementary.{CEIL, or_nan}
use Rattle.elementary.proofs.Signs.{nonneg}
use Rattle.elementary.proofs.Order.{not_lt→le, le_lt_trans, of_int_nonneg, to_unsigned_mono}
use Rattle.elementary.proofs.Exact.{whole_value}
use Rattle.operator.specs.Vectors.{larger}
use Rattle.operator.proofs.Slices.{sized_both}
use Rattle.plan.specs.Plan.{fixed_over, needed, plan_of, plan_with}
use Rattle.plan.specs.declared.plan.Planned.{Planned}

-- the larger of x and 1.0, unless it is a NaN
larger_one : (x z : Float) → T (le (larger x 1ᶠ) z) → T (nonneg (larger x 1ᶠ)) × T (le 1ᶠ (larger x 1ᶠ))
unfolding larger lt le of_bits
larger_one nan z h = absurd h
larger_one (inf true) z h = (tt, tt)
larger_one (inf false) z h = (tt, tt)
larger_one (fin true m e) z h = rw (lt-ltb 0 (m * up e * 1 + 1 * 1 * down e) (omega (arith, down_pos e))) (tt, tt)
larger_one (fin false m e) z h = go (lt (fin false m e) 1ᶠ) (not_lt→le (fin false m e) 1ᶠ tt tt)
  where
    go : (b : Bool) → (b ≡ false → T (le 1ᶠ (fin false m e))) → T (nonneg (cond b 1ᶠ (fin false m e))) × T (le 1ᶠ (cond b 1ᶠ (fin false m e)))
    go true k = (tt, tt)
    go false k = (tt, k refl)

-- a value whose whole part is small is cut to the same number at a smaller width
narrow : (v w : ℕ) (x : Float) → v < w → to_unsigned w x < 2 ^ v → to_unsigned v x ≡ to_unsigned w x
unfolding to_unsigned
narrow v w nan h k = refl
narrow v w (inf true) h k = refl
narrow v w (inf false) h k = absurd (omega (arith, pow-lt h))
narrow v w (fin true m e) h k = refl
narrow v w (fin false m e) h k = omega (arith, pow-lt h)

-- what does not lie below 0 is above -1
above_minus_one : (x : Float) → T (nonneg x) → T (lt (fin true 1 (pos 0)) x)
unfolding lt
above_minus_one nan p = absurd p
above_minus_one (inf true) p = absurd p
above_minus_one (inf false) p = tt
above_minus_one (fin true m e) p = absurd p
above_minus_one (fin false m e) p = rw (lt-ltb 0 (1 * 1 * down e + m * up e * 1) (omega (arith, down_pos e))) tt

-- ---- a budget of 32 bits as a float
pub whole_nonneg : (b : ℕ) → T (nonneg (whole (pos b)))
whole_nonneg = of_int_nonneg binary64

module _ (b : ℕ) (fits : b < 2 ^ 32) where
  exact : b ≤ 2 ^ 53
  exact = le_trans (le_of_lt fits) (lit≤ tt)

  budget_cut : to_unsigned 64 (whole (pos b)) ≡ b
  unfolding in_float
  budget_cut = (unsigned_back binary64 64 b (le→leb b (2 ^ 53) exact) (lt_trans fits (lit< tt))).1

  budget_below : T (lt (whole (pos b)) (fin false 1 (pos 64)))
  unfolding lt
  budget_below =
      le_lt_trans (whole (pos b)) (fin false 1 (pos 32)) (fin false 1 (pos 64)) (whole_nonneg b) tt tt
      (le_of_values (whole (pos b)) (fin false 1 (pos 32)) b 1 (2 ^ 32) 1 (zero-lt-suc 0) (zero-lt-suc 0) (whole_value binary64 (pos b) exact) (refl, refl) (omega arith)) tt

-- ---- the steps needed, where they keep the budget
module _ (size : Float) (b : ℕ) (kept : le (needed size) (whole (pos b)) ≡ true) where
  kept_is : T (le (needed size) (whole (pos b)))
  kept_is = rw kept tt

  at_least_one : T (nonneg (needed size)) × T (le 1ᶠ (needed size))
  unfolding needed
  at_least_one = larger_one (or_nan (CEIL (size ⊘ 2ᶠ))) (whole (pos b)) kept_is

  pub planned_some : 1 ≤ to_unsigned 32 (needed size)
  unfolding to_unsigned of_bits
  planned_some = to_unsigned_mono 32 1ᶠ (needed size) tt at_least_one.0 at_least_one.1

  -- a whole number of 64 bits can be cut from them
  pub planned_low : T (lt (fin true 1 (pos 0)) (needed size))
  planned_low = above_minus_one (needed size) at_least_one.0

  pub planned_high : b < 2 ^ 32 → T (lt (needed size) (fin false 1 (pos 64)))
  planned_high fits = le_lt_trans (needed size) (whole (pos b)) (fin false 1 (pos 64)) at_least_one.0 (whole_nonneg b) tt kept_is (budget_below b fits)

  -- which is at most the budget, and the same of 32 bits
  pub planned_within : b < 2 ^ 32 → to_unsigned 64 (needed size) ≤ b
  planned_within fits = le_trans (to_unsigned_mono 64 (needed size) (whole (pos b)) at_least_one.0 (whole_nonneg b) kept_is) (le_of_eq (budget_cut b fits))

  pub planned_same : b < 2 ^ 32 → to_unsigned 64 (needed size) ≡ to_unsigned 32 (needed size)
  planned_same fits = sym (narrow 32 64 (needed size) (lit< tt) (lt_of_le_of_lt (planned_within fits) fits))

-- ---- over slices that agree
module _ (tau : Float) (d : List Float) (eta : Float) (left right : List Float) (b : ℕ) (el : length left ≡ length d) (er : length right ≡ length d) where
  pub plan_agrees : plan_with tau d eta left right b ≡ plan_of (fixed_over (length d) d eta) b left right tau
  unfolding plan_with
  plan_agrees = rw (sized_both (length d) (length left) (length right) el er) refl

  pub planned_over : (q : Planned) → q ≡ plan_with tau d eta left right b → q ≡ plan_of (fixed_over (length d) d eta) b left right tau
  planned_over q e = e ∙ plan_agrees
