-- Change request 7: at drift 0 every reply of this layer is the one that is reckoned without any drift. What is driftless stands here, over what a drift does not touch. The statement is proved once, in proofs/. Definitions only.
use Rattle.std.specs.Prelude.{◌≡◌, ℕ, Bool, ◌&&◌, List, [], ◌∷◌, ◌++◌, ℤ, pos, Result, Ok, Err}
use Rattle.elementary.specs.Float.{positive}
use Rattle.elementary.specs.Elementary.{outside}
use Rattle.elementary.specs.Checks.{first_failing, check_of}
use Rattle.plan.specs.declared.FirstPlan.{FirstPlan}
use Rattle.distances.specs.Drift.{driftless_entry, driftless_steps as entry_steps, driftless_count}
use Rattle.distances.specs.Refusals.{holding}
use Rattle.distances.specs.declared.Answer.{Answer}
use Rattle.amounts.specs.Amounts.{amount_ok, time_ok, tau_of}
use Rattle.model.specs.Configuration.{number_checks, config_if, new_config}
use Rattle.model.specs.Model.{lots, holding_ok, model_of, model_limits, market_checks, model_if, new_model, check_call}
use Rattle.quote.specs.Quotes.{exact_by, exact_quotes, wrapped, optimal_quotes, closed_from, closed_by, closed_form_quotes, exact_answer, exact_steps}
use Rattle.quote.specs.Horizon.{desk_plan}
use Rattle.model.specs.declared.GLFTConfig.{GLFTConfig}
use Rattle.model.specs.declared.Model.{Model}
use Rattle.elementary.specs.declared.Refusal.{Refusal}

-- ---- the limits without that of a drift, of a configuration and of a call; and the model's seven floats without beta
unfoldable pub driftless_config : GLFTConfig → Bool
driftless_config c =
    amount_ok c.risk_aversion && amount_ok c.order_intensity_k && amount_ok c.intensity_scale_a && amount_ok c.lot_size
    && amount_ok c.min_spread && time_ok c.terminal_time

unfoldable pub driftless_limits : ℤ → ℤ → GLFTConfig → ℤ → Bool
driftless_limits mid h c vol = amount_ok mid && amount_ok h && amount_ok vol && driftless_config c

unfoldable pub driftless_floats : Model → Bool
driftless_floats m =
    positive m.k && positive m.gamma && positive m.a && positive m.sigma2 && positive m.alpha && positive m.eta && positive m.base

-- ---- the model of a call whose first test is f; the entries below read all of it but beta
abbrev pub driftless_checks : Bool → ℤ → ℤ → GLFTConfig → ℤ → List (Bool × ℕ)
driftless_checks f mid h c vol = market_checks f mid c vol ++ (holding_ok h c, holding) ∷ (driftless_floats (model_of c vol), outside) ∷ []

unfoldable pub driftless_model : Bool → ℤ → ℤ → GLFTConfig → ℤ → Result (Model × ℤ) Refusal
driftless_model f mid h c vol = model_if (first_failing (driftless_checks f mid h c vol)) (model_of c vol) (lots h c)

-- ---- the entries: what g gives of a model, or r of its refusal
unfoldable pub from_model : {A : Type 0} → (Refusal → A) → (Model → ℤ → A) → Result (Model × ℤ) Refusal → A
from_model f g (Err r) = f r
from_model f g (Ok (m, q)) = g m q

abbrev pub driftless_exact : ℤ → ℤ → GLFTConfig → ℤ → ℕ → Result (Model × ℤ) Refusal
driftless_exact mid h c vol t = driftless_model (time_ok t && driftless_limits mid h c vol) mid h c vol

unfoldable pub driftless_answer : ℤ → ℤ → GLFTConfig → ℤ → ℕ → Answer
driftless_answer mid h c vol t =
    from_model Answer.Refused (λ m q. (driftless_entry m.k m.base m.alpha m.eta m.q_max (tau_of c.terminal_time t) q).answer) (driftless_exact mid h c vol t)

unfoldable pub driftless_steps : ℤ → ℤ → GLFTConfig → ℤ → ℕ → ℕ
driftless_steps mid h c vol t = from_model (λ r. 0) (λ m q. entry_steps m.k m.base m.alpha m.eta m.q_max (tau_of c.terminal_time t) q) (driftless_exact mid h c vol t)

unfoldable pub driftless_plan : ℤ → ℤ → GLFTConfig → ℤ → ℕ → FirstPlan
driftless_plan mid h c vol t =
    from_model FirstPlan.Refused (λ m q. driftless_count m.k m.base m.alpha m.eta m.q_max (tau_of c.terminal_time t) q) (driftless_exact mid h c vol t)

-- for a ladder: what refuses it as a whole
unfoldable pub driftless_check : ℤ → GLFTConfig → ℤ → ℕ → Result Unit Refusal
driftless_check mid c vol t = check_of (first_failing (market_checks (time_ok t && driftless_limits mid (pos 0) c vol) mid c vol))

-- ---- the limits, the constructors, the answers before prices, the quotes, the steps, the plan; and for a ladder the check
pub record DriftZero : Type 0 where
  pub limits_fit : (mid h : ℤ) (c : GLFTConfig) (vol : ℤ) → c.drift ≡ pos 0 → model_limits mid h c vol ≡ driftless_limits mid h c vol
  pub config : (c : GLFTConfig) → c.drift ≡ pos 0 → new_config c ≡ config_if (first_failing (number_checks (driftless_config c) c)) c
  pub model : (mid h : ℤ) (c : GLFTConfig) (vol : ℤ) → c.drift ≡ pos 0 → new_model mid h c vol ≡ driftless_model (driftless_limits mid h c vol) mid h c vol
  pub answer : (mid h : ℤ) (c : GLFTConfig) (vol : ℤ) (t : ℕ) → c.drift ≡ pos 0 → exact_answer mid h c vol t ≡ driftless_answer mid h c vol t
  pub exact : (mid h : ℤ) (c : GLFTConfig) (vol : ℤ) (t : ℕ) → c.drift ≡ pos 0 → exact_quotes mid h c vol t ≡ exact_by mid c.min_spread (driftless_answer mid h c vol t)
  pub steps : (mid h : ℤ) (c : GLFTConfig) (vol : ℤ) (t : ℕ) → c.drift ≡ pos 0 → exact_steps mid h c vol t ≡ driftless_steps mid h c vol t
  pub optimal : (mid h : ℤ) (c : GLFTConfig) (vol : ℤ) (t : ℕ) → c.drift ≡ pos 0 → optimal_quotes mid h c vol t ≡ wrapped (exact_by mid c.min_spread (driftless_answer mid h c vol t))
  pub closed : (mid h : ℤ) (c : GLFTConfig) (vol : ℤ) → c.drift ≡ pos 0 → closed_form_quotes mid h c vol ≡ closed_by mid c.min_spread (closed_from (driftless_model (driftless_limits mid h c vol) mid h c vol))
  pub plan : (mid h : ℤ) (c : GLFTConfig) (vol : ℤ) (t : ℕ) → c.drift ≡ pos 0 → desk_plan mid h c vol t ≡ driftless_plan mid h c vol t
  pub check : (mid : ℤ) (c : GLFTConfig) (vol : ℤ) (t : ℕ) → c.drift ≡ pos 0 → check_call mid c vol t ≡ driftless_check mid c vol t
