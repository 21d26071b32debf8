-- Document 01, module 4, and change request 7: the model, one record of eight floats and the bound, and the holding in lots. Definitions only.
use Rattle.std.specs.Prelude.{ℕ, Bool, ◌&&◌, List, ◌∷◌, ◌++◌, [], ℤ, pos, nat_abs, eqb, Float, Result, Ok, Err}
use Rattle.std.specs.Int.Signed.{quot_z, rem_z}
use Rattle.std.specs.Float.Ieee.{neg}
use Rattle.elementary.specs.Float.{◌⊕◌, ◌⊗◌, ◌⊘◌, whole, 1ᶠ, 2ᶠ, finite, positive}
use Rattle.elementary.specs.Elementary.{LN1P, EXP, outside, or_nan}
use Rattle.elementary.specs.Checks.{Verdict, passes, refused, first_of, first_failing, check_of, by}
use Rattle.plan.specs.Refusals.{configuration}
use Rattle.distances.specs.Refusals.{holding}
use Rattle.plan.specs.declared.RunInput.{RunInput}
use Rattle.distances.specs.Distances.{within}
use Rattle.model.specs.Refusals.{market, drifting}
use Rattle.amounts.specs.Amounts.{amount_ok, above0, to_float, time_ok}
use Rattle.model.specs.Checks.{verdict_of}
use Rattle.model.specs.Configuration.{config_limits, number_checks}
use Rattle.model.specs.declared.GLFTConfig.{GLFTConfig}
use Rattle.model.specs.declared.Model.{Model}
use Rattle.elementary.specs.declared.Refusal.{Refusal}

-- ---- the holding
unfoldable pub lots : ℤ → GLFTConfig → ℤ
lots h c = quot_z h c.lot_size

-- a whole number of lots, and no more than the bound in magnitude, or 4
unfoldable pub holding_ok : ℤ → GLFTConfig → Bool
holding_ok h c = eqb (nat_abs (rem_z h c.lot_size)) 0 && within c.max_inventory_lots (lots h c)

-- mid and volatility positive, or 3
unfoldable pub market_ok : ℤ → ℤ → Bool
market_ok mid vol = above0 mid && above0 vol

-- ---- the floats; a NaN where an elementary function refuses
-- from k, gamma, A, sigma², the drift a second and l, the logarithm of 1 + gamma / k
unfoldable pub model_by : Float → Float → Float → Float → Float → Float → ℕ → Model
model_by k gamma a sigma2 drift l bound =
    record {
      k = k;
      gamma = gamma;
      a = a;
      sigma2 = sigma2;
      alpha = k ⊗ gamma ⊗ sigma2 ⊘ 2ᶠ;
      eta = a ⊗ or_nan (EXP (neg (1ᶠ ⊕ k ⊘ gamma) ⊗ l));
      base = l ⊘ gamma;
      beta = k ⊗ drift;
      q_max = bound;
    }

unfoldable pub model_from : Float → Float → Float → Float → Float → ℕ → Model
model_from k gamma a sigma2 drift bound = model_by k gamma a sigma2 drift (or_nan (LN1P (gamma ⊘ k))) bound

abbrev pub seconds_per_year : ℕ
seconds_per_year = 31_536_000

-- gamma is risk aversion × lot size, sigma² is sigma × sigma / 31,536,000, and the drift a second is the drift / 31,536,000
unfoldable pub model_of : GLFTConfig → ℤ → Model
model_of c vol =
    let sigma = to_float vol in
    model_from (to_float c.order_intensity_k) (to_float c.risk_aversion ⊗ to_float c.lot_size) (to_float c.intensity_scale_a) (sigma ⊗ sigma ⊘ whole (pos seconds_per_year))
    (to_float c.drift ⊘ whole (pos seconds_per_year)) c.max_inventory_lots

-- seven floats finite and above zero, and beta finite, or 5
unfoldable pub model_ok : Model → Bool
model_ok m =
    positive m.k && positive m.gamma && positive m.a && positive m.sigma2 && positive m.alpha && positive m.eta && positive m.base && finite m.beta

-- what a run is made from: a model's floats and bound, and the seconds to the end
abbrev pub input_of : Model → Float → RunInput
input_of m tau = record { alpha = m.alpha; beta = m.beta; eta = m.eta; bound = m.q_max; tau = tau }

-- no drift, or 22 in a closed-form call
unfoldable pub driftless : GLFTConfig → Bool
driftless c = eqb (nat_abs c.drift) 0

-- every amount and time of a call within its limit, or 2
unfoldable pub model_limits : ℤ → ℤ → GLFTConfig → ℤ → Bool
model_limits mid h c vol = amount_ok mid && amount_ok h && amount_ok vol && config_limits c

-- ---- the checks, in order: each a test, and the number that refuses where it fails
-- before those of the holding, of a call whose first test is f: are its numbers within their limits
abbrev pub market_checks : Bool → ℤ → GLFTConfig → ℤ → List (Bool × ℕ)
market_checks f mid c vol = number_checks f c ++ (market_ok mid vol, market) ∷ []

-- the closed form asks for no drift
abbrev pub closed_market_checks : Bool → ℤ → GLFTConfig → ℤ → List (Bool × ℕ)
closed_market_checks f mid c vol = number_checks f c ++ (driftless c, drifting) ∷ (market_ok mid vol, market) ∷ []

abbrev pub holding_checks : ℤ → GLFTConfig → ℤ → List (Bool × ℕ)
holding_checks h c vol = (holding_ok h c, holding) ∷ (model_ok (model_of c vol), outside) ∷ []

-- a model's; those of an exact call, whose current time is one of the numbers that 2 looks at; those of the closed form, which has no current time
abbrev pub model_checks : ℤ → ℤ → GLFTConfig → ℤ → List (Bool × ℕ)
model_checks mid h c vol = market_checks (model_limits mid h c vol) mid c vol ++ holding_checks h c vol

abbrev pub exact_checks : ℤ → ℤ → GLFTConfig → ℤ → ℕ → List (Bool × ℕ)
exact_checks mid h c vol t = market_checks (time_ok t && model_limits mid h c vol) mid c vol ++ holding_checks h c vol

abbrev pub closed_checks : ℤ → ℤ → GLFTConfig → ℤ → List (Bool × ℕ)
closed_checks mid h c vol = closed_market_checks (model_limits mid h c vol) mid c vol ++ holding_checks h c vol

-- ---- the model and the lots, where the checks pass
unfoldable pub model_if : Verdict → Model → ℤ → Result (Model × ℤ) Refusal
model_if passes m q = Ok (m, q)
model_if (refused n) m q = Err (by n)

unfoldable pub new_model : ℤ → ℤ → GLFTConfig → ℤ → Result (Model × ℤ) Refusal
new_model mid h c vol = model_if (first_failing (model_checks mid h c vol)) (model_of c vol) (lots h c)

unfoldable pub exact_model : ℤ → ℤ → GLFTConfig → ℤ → ℕ → Result (Model × ℤ) Refusal
exact_model mid h c vol t = model_if (first_failing (exact_checks mid h c vol t)) (model_of c vol) (lots h c)

unfoldable pub closed_model : ℤ → ℤ → GLFTConfig → ℤ → Result (Model × ℤ) Refusal
closed_model mid h c vol = model_if (first_failing (closed_checks mid h c vol)) (model_of c vol) (lots h c)

-- after any checks: what they refuse; then 1, where the lot size is not positive, and the holding's checks
unfoldable pub model_after : Result Unit Refusal → ℤ → GLFTConfig → ℤ → Result (Model × ℤ) Refusal
model_after k h c vol = model_if (first_of (verdict_of k) (first_failing ((above0 c.lot_size, configuration) ∷ holding_checks h c vol))) (model_of c vol) (lots h c)

-- ---- what is refused before the holding's checks: by 2, 1 or 3, and in the closed form by 22
unfoldable pub check_exact : ℤ → ℤ → GLFTConfig → ℤ → ℕ → Result Unit Refusal
check_exact mid h c vol t = check_of (first_failing (market_checks (time_ok t && model_limits mid h c vol) mid c vol))

unfoldable pub check_closed_form : ℤ → ℤ → GLFTConfig → ℤ → Result Unit Refusal
check_closed_form mid h c vol = check_of (first_failing (closed_market_checks (model_limits mid h c vol) mid c vol))

-- at holding 0
unfoldable pub check_call : ℤ → GLFTConfig → ℤ → ℕ → Result Unit Refusal
check_call mid c vol t = check_exact mid (pos 0) c vol t
