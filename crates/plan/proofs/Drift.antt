-- Without a drift, beta being a zero of either sign, the diagonal, its magnitudes and so every plan are those without any beta; and two rows are enough for the first plan. Assumes nothing.
use Rattle.std.proofs.Common.{◌≡◌, ℕ, suc, ◌-◌, ◌<◌, ◌≤◌, Bool, true, false, T, ℤ, pos, negsuc, nat_abs, sym, refl, ap, ◌∙◌, true≢false, le_trans}
use lib.Ieee.{Float, binary64, minus, eq, of_bits}
use lib.Ieee.Fits.{mul-fits}
use Rattle.elementary.specs.Float.{◌⊕◌, ◌⊗◌, whole, 0ᶠ, 1ᶠ, 2ᶠ, finite, positive}
use Rattle.elementary.specs.Checks.{Verdict, passes, refused, first_failing, by}
use Rattle.elementary.proofs.Signs.{nonneg, of_int_neg, finite_neg}
use Rattle.elementary.proofs.Exact.{zero_is}
use Rattle.elementary.proofs.Zeros.{zero_test, zero_times, zero_finite, sub_nothing}
use Rattle.operator.specs.Vectors.{tab, at, larger, abs}
use Rattle.operator.specs.Operator.{diagonal_at, rows}
use Rattle.plan.specs.Plan.{magnitudes, Fixed, cap, bound_ok, start, fixed, whole_plan, diagonal_finite, first_if, first_turn, plan_for}
use Rattle.plan.specs.Input.{rates_ok, input_checks}
use Rattle.plan.specs.Count.{plan_in, plan_if, first_plan, first_norm, row_sum, TwoRows, plan_ahead, plan_over}
use Rattle.series.specs.Refusals.{numerical}
use Rattle.plan.specs.Inner.{ahead_of}
use Rattle.plan.specs.declared.FirstPlan.TheVariants as FirstPlan
use Rattle.plan.specs.Drift.{driftless_diagonal, driftless_fixed, driftless_plan, driftless_input, driftless_first, DriftZero}
use Rattle.operator.proofs.Lists.{at_tab, tab_ext}
use Rattle.plan.proofs.Bounds.{bound_range, rates_above, input_passes}
use Rattle.series.proofs.Extremes.{above_zero}
use Rattle.plan.specs.declared.RunInput.{RunInput}
use Rattle.plan.proofs.Lots.{lots, square_is}
use Rattle.plan.proofs.Rows.{whole_finite, square_nonneg, few_lots, few_rows, entry_nonneg, two_rows_driftless, sized_finite}
use Rattle.plan.proofs.Ahead.{begins, ahead_is, ahead_fails}

abs_nonneg : (x : Float) → T (nonneg x) → abs x ≡ x
unfolding abs
abs_nonneg x p = rw (zero_is binary64, above_zero x p)

lots_finite : (y : ℤ) → nat_abs y ≤ 200 → T (finite (whole y))
lots_finite (pos n) h = whole_finite n h
lots_finite (negsuc n) h = rw (of_int_neg binary64 n, finite_neg (whole (pos (suc n)))) (whole_finite (suc n) h)

module _ (b : ℕ) (alpha eta : Float) (ok : bound_ok b ≡ true) (pa : positive alpha ≡ true) (pe : positive eta ≡ true) where
  abbrev old : Fixed
  old = driftless_fixed b alpha eta

  -- ---- the diagonal and its magnitudes
  pub square_above : (i : ℕ) → i < rows b → T (nonneg (alpha ⊗ whole (minus i b) ⊗ whole (minus i b)))
  square_above i h = rw (square_is b alpha i) (square_nonneg alpha eta (rw pa tt) (rw pe tt) (lots b i) (le_trans (few_lots b i h) (bound_range b ok).1))

  row_finite : (i : ℕ) → i < rows b → T (finite (whole (minus i b)))
  row_finite i h = lots_finite (minus i b) (le_trans (few_rows b i h) (bound_range b ok).1)

  module _ (beta : Float) (z : eq beta 0ᶠ ≡ true) where
    pub entry_driftless : (i : ℕ) → i < rows b → diagonal_at b alpha beta eta i ≡ driftless_diagonal b alpha eta i
    unfolding diagonal_at driftless_diagonal
    entry_driftless i h =
        let q = whole (minus i b) in
        ap (λ (y : Float). y ⊕ 2ᶠ ⊗ eta) (sub_nothing binary64 (alpha ⊗ q ⊗ q) (zero_times binary64 q (zero_test binary64 beta z) (row_finite i h)) (square_above i h) (mul-fits binary64 (alpha ⊗ q) q))

  -- ---- a diagonal that is not finite fails the first plan by its norm
  pub first_driftless : (tau : Float) → first_turn old tau ≡ whole_plan old tau
  unfolding first_if start
  first_driftless tau = go (diagonal_finite old) (positive (tau ⊗ first_norm old)) refl refl
    where
      go : (t s : Bool) → diagonal_finite old ≡ t → positive (tau ⊗ first_norm old) ≡ s → first_if t old tau ≡ whole_plan old tau
      go true s e k = refl
      go false true e k = absurd (true≢false (sym (sized_finite b alpha eta ok pa pe tau k) ∙ e))
      go false false e k = sym (begins old tau false k)

-- ---- numbers without a drift
module _ (x : RunInput) (ok : bound_ok x.bound ≡ true) (pa : positive x.alpha ≡ true) (z : eq x.beta 0ᶠ ≡ true) (pe : positive x.eta ≡ true) where
  abbrev driftless : Fixed
  driftless = driftless_fixed x.bound x.alpha x.eta

  abbrev entry : ℕ → Float
  entry = driftless_diagonal x.bound x.alpha x.eta

  pub fixed_driftless : fixed x ≡ driftless
  unfolding magnitudes fixed driftless_fixed
  fixed_driftless = rw (
    tab_ext (rows x.bound) (diagonal_at x.bound x.alpha x.beta x.eta) entry (entry_driftless x.bound x.alpha x.eta ok pa pe x.beta z),
    tab_ext (rows x.bound) (λ i. abs (at (tab (rows x.bound) entry) i)) entry
        (λ i h. rw (at_tab (rows x.bound) entry i h) (abs_nonneg _ (entry_nonneg x.bound x.alpha x.eta ok pa pe i h))),
  )

  pub begun_driftless : first_turn (fixed x) x.tau ≡ whole_plan driftless x.tau
  begun_driftless = ap (λ (p : Fixed). first_turn p x.tau) fixed_driftless ∙ first_driftless x.bound x.alpha x.eta ok pa pe x.tau

  -- ---- the first plan from two rows
  abbrev two_norm : Float
  two_norm = larger (row_sum x.alpha x.eta x.bound 1ᶠ) (row_sum x.alpha x.eta (x.bound - 1) 2ᶠ)

  norms : first_norm driftless ≡ two_norm
  norms = two_rows_driftless x.bound x.alpha x.eta ok pa pe

  two_norm_lem : first_norm (fixed x) ≡ two_norm
  two_norm_lem = ap (λ (p : Fixed). first_norm p) fixed_driftless ∙ norms

  sizes : x.tau ⊗ first_norm driftless ≡ x.tau ⊗ two_norm
  sizes = ap (λ (y : Float). x.tau ⊗ y) norms

  pub two_ahead : positive (x.tau ⊗ two_norm) ≡ true → ahead_of (plan_for (x.tau ⊗ two_norm) x.tau cap) ≡ plan_in (first_turn (fixed x) x.tau)
  two_ahead e =
      ap (λ (y : Float). ahead_of (plan_for y x.tau cap)) (sym sizes)
      ∙ sym (ap plan_in begun_driftless ∙ ahead_is driftless x.tau (ap positive sizes ∙ e))

  pub two_fail : positive (x.tau ⊗ two_norm) ≡ false → FirstPlan.Refused (by numerical) ≡ plan_in (first_turn (fixed x) x.tau)
  two_fail e = sym (ap plan_in begun_driftless ∙ ahead_fails driftless x.tau (ap positive sizes ∙ e))

pub two_rows : TwoRows
two_rows x ok pa z pe = two_norm_lem x ok pa z pe

-- ---- the replies
module _ (x : RunInput) (z : eq x.beta 0ᶠ ≡ true) where
  abbrev bare : RunInput
  bare = driftless_input x.alpha x.eta x.bound x.tau

  -- the checks ask of beta only whether it is finite
  pub rates_driftless : rates_ok x ≡ rates_ok bare
  unfolding rates_ok finite of_bits
  rates_driftless = rw (zero_finite (zero_test binary64 x.beta z))

  plans_driftless : bound_ok x.bound ≡ true → rates_ok x ≡ true → plan_ahead x ≡ driftless_plan x.alpha x.eta x.bound x.tau
  unfolding plan_ahead driftless_plan
  plans_driftless ok r = let (pa, pb, pe) = rates_above x r in rw (begun_driftless x ok pa z pe)

  first_plans_driftless : first_plan x ≡ driftless_first x.alpha x.eta x.bound x.tau
  unfolding first_plan driftless_first plan_over plan_if
  first_plans_driftless = rw (← rates_driftless) (go (first_failing (input_checks x)) refl)
    where
      go : (v : Verdict) → first_failing (input_checks x) ≡ v → plan_if v (plan_ahead x) ≡ plan_if v (driftless_plan x.alpha x.eta x.bound x.tau)
      go passes e = let (r, ok) = input_passes x e in plans_driftless ok r
      go (refused n) e = refl

pub drift_zero : DriftZero
drift_zero = record {
  plans = λ x ok r z. plans_driftless x z ok r;
  first = first_plans_driftless;
}
