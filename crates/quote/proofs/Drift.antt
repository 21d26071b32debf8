-- At drift 0 the checks are the driftless ones and beta is a zero, so what the layers below say of a zero beta carries over. Assumes nothing.
use Rattle.std.specs.Prelude.{Result}
use Rattle.std.proofs.Common.{◌≡◌, ℕ, Bool, true, false, ◌&&◌, T, ℤ, pos, refl, ap, ◌∙◌, eq-eqb}
use mathlib.Core.Bool.{and-true}
use lib.Ieee.{Float, binary64, eq}
use Rattle.elementary.specs.Float.{0ᶠ, finite, positive}
use Rattle.elementary.specs.Checks.{verdict, first_of, first_failing}
use Rattle.elementary.proofs.Zeros.{Zero, zero_equal, zero_finite}
use Rattle.plan.specs.declared.FirstPlan.{FirstPlan}
use Rattle.distances.specs.declared.Answer.{Answer}
use Rattle.distances.specs.declared.FloatAnswer.{FloatAnswer}
use Rattle.distances.proofs.Drift.{drift_zero_entry}
use Rattle.amounts.specs.Amounts.{amount_ok, tau_of}
use Rattle.model.specs.Configuration.{config_limits, new_config}
use Rattle.model.specs.Model.{model_by, model_from, model_of, model_ok, driftless, model_limits, new_model, check_call, input_of, lots, exact_checks, exact_model, closed_model, check_exact}
use Rattle.quote.specs.Drift.{driftless_model, DriftZero, driftless_config, driftless_limits, driftless_floats, from_model, driftless_exact, driftless_answer, driftless_steps, driftless_plan, driftless_check}
use Rattle.quote.specs.Quotes.{exact_from, exact_answer, exact_by, exact_quotes, wrapped, optimal_quotes, closed_from, closed_answer, closed_by, closed_form_quotes, steps_from, exact_steps}
use Rattle.quote.specs.Horizon.{plan_from, desk_plan}
use Rattle.model.specs.declared.GLFTConfig.{GLFTConfig}
use Rattle.model.specs.declared.Model.{Model}
use Rattle.model.proofs.Turned.{beta_none}
use Rattle.model.proofs.Passed.{Made, stopped, passed, made, exact_passed, positive_number, k_passed}
use Rattle.distances.specs.Drift.{driftless_entry, driftless_steps as entry_steps, driftless_count}
use Rattle.elementary.specs.declared.Refusal.{Refusal}

-- ---- a test less at the end, where it follows from the first
one_less : (k g a s x y z t : Bool) → (k ≡ true → t ≡ true) → (k && g && a && s && x && y && z && t) ≡ (k && g && a && s && x && y && z)
one_less true g a s x y z t h = rw (h refl, and-true)
one_less false g a s x y z t h = refl

module _ (c : GLFTConfig) (e : c.drift ≡ pos 0) where
  limits_same : config_limits c ≡ driftless_config c
  unfolding config_limits driftless_config amount_ok
  limits_same = rw (e, and-true)

  none_is : driftless c ≡ true
  unfolding driftless
  none_is = rw (e, eq-eqb 0 0 refl)

  module _ (vol : ℤ) where
    abbrev pub m : Model
    m = model_of c vol

    -- beta, where k is a number
    beta_is : T (finite m.k) → Zero m.beta
    unfolding model_of model_from model_by
    beta_is h = rw e (beta_none m.k h)

    beta_finite : positive m.k ≡ true → finite m.beta ≡ true
    beta_finite h = zero_finite (beta_is (positive_number m.k h))

    pub beta_zero : model_ok m ≡ true → eq m.beta 0ᶠ ≡ true
    beta_zero f = zero_equal binary64 (beta_is (k_passed m f))

    pub floats_same : model_ok m ≡ driftless_floats m
    unfolding model_ok driftless_floats
    floats_same =
        one_less (positive m.k) (positive m.gamma) (positive m.a) (positive m.sigma2) (positive m.alpha) (positive m.eta) (positive m.base) (finite m.beta) beta_finite

    limits_with : (mid h : ℤ) → model_limits mid h c vol ≡ driftless_limits mid h c vol
    unfolding model_limits driftless_limits
    limits_with mid h = rw limits_same

    model_same : (mid h : ℤ) → new_model mid h c vol ≡ driftless_model (driftless_limits mid h c vol) mid h c vol
    unfolding new_model driftless_model
    model_same mid h = rw (limits_with mid h, floats_same)

    closed_same : (mid h : ℤ) → closed_model mid h c vol ≡ driftless_model (driftless_limits mid h c vol) mid h c vol
    unfolding closed_model driftless_model first_failing first_of verdict
    closed_same mid h = rw (none_is, limits_with mid h, floats_same)

-- ---- what the entries make of a model that passed
module _ (mid h : ℤ) (c : GLFTConfig) (vol : ℤ) (t : ℕ) (e : c.drift ≡ pos 0) where
  abbrev tau : Float
  tau = tau_of c.terminal_time t

  exact_same : exact_model mid h c vol t ≡ driftless_exact mid h c vol t
  unfolding exact_model driftless_model
  exact_same = rw (limits_with c e vol mid h, floats_same c e vol)

  abbrev entry : Model → ℤ → Answer
  entry m q = (driftless_entry m.k m.base m.alpha m.eta m.q_max tau q).answer

  abbrev spent : Model → ℤ → ℕ
  spent m q = entry_steps m.k m.base m.alpha m.eta m.q_max tau q

  abbrev count : Model → ℤ → FirstPlan
  count m q = driftless_count m.k m.base m.alpha m.eta m.q_max tau q

  from_same : {a : Result (Model × ℤ) Refusal} → Made (exact_checks mid h c vol t) (model_of c vol) (lots h c) a
      → (exact_from a tau ≡ from_model Answer.Refused entry a) × (steps_from a tau ≡ from_model (λ r. 0) spent a) × (plan_from a tau ≡ from_model FirstPlan.Refused count a)
  unfolding exact_from steps_from plan_from from_model
  from_same (stopped k) = (refl, refl, refl)
  from_same (passed k) =
      let m = model_of c vol in
      let q = lots h c in
      let z = beta_zero c e vol (exact_passed mid h c vol t k).4 in (
        ap (λ (r : FloatAnswer). r.answer) (drift_zero_entry.entry m.k m.base (input_of m tau) q z),
        drift_zero_entry.steps m.k m.base (input_of m tau) q z,
        drift_zero_entry.count m.k m.base (input_of m tau) q z,
      )

  made_same : let a = exact_model mid h c vol t in
      (exact_from a tau ≡ from_model Answer.Refused entry a) × (steps_from a tau ≡ from_model (λ r. 0) spent a) × (plan_from a tau ≡ from_model FirstPlan.Refused count a)
  unfolding exact_model
  made_same = from_same (made _ _ _)

  answer_same : exact_answer mid h c vol t ≡ driftless_answer mid h c vol t
  unfolding exact_answer driftless_answer
  answer_same = made_same.0 ∙ ap (from_model Answer.Refused entry) exact_same

  steps_same : exact_steps mid h c vol t ≡ driftless_steps mid h c vol t
  unfolding exact_steps driftless_steps
  steps_same = made_same.1 ∙ ap (from_model (λ r. 0) spent) exact_same

  plan_same : desk_plan mid h c vol t ≡ driftless_plan mid h c vol t
  unfolding desk_plan driftless_plan
  plan_same = made_same.2 ∙ ap (from_model FirstPlan.Refused count) exact_same

pub drift_zero : DriftZero
unfolding new_config exact_quotes optimal_quotes closed_form_quotes closed_answer check_exact check_call driftless_check
drift_zero = record {
  limits_fit = λ mid h c vol e. limits_with c e vol mid h;
  config = λ c e. rw (limits_same c e);
  model = λ mid h c vol e. model_same c e vol mid h;
  answer = answer_same;
  exact = λ mid h c vol t e. ap (exact_by mid c.min_spread) (answer_same mid h c vol t e);
  steps = steps_same;
  optimal = λ mid h c vol t e. ap (λ (a : Answer). wrapped (exact_by mid c.min_spread a)) (answer_same mid h c vol t e);
  closed = λ mid h c vol e. ap (λ (a : Result (Model × ℤ) Refusal). closed_by mid c.min_spread (closed_from a)) (closed_same c e vol mid h);
  plan = plan_same;
  check = λ mid c vol t e. rw (limits_with c e vol mid (pos 0));
}
