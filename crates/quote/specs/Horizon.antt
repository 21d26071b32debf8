-- Change request 6 for a desk's own numbers: is its horizon too long? Each statement is proved once, in proofs/. Definitions only.
use Rattle.std.specs.Prelude.{◌≡◌, ℕ, suc, true, false, ◌&&◌, ◌⊎◌, ◌↔◌, ℤ, Float, Result, Ok, Err}
use Rattle.std.specs.Float.Ieee.{lt}
use Rattle.elementary.specs.Float.{0ᶠ, positive}
use Rattle.elementary.specs.Checks.{Refuses, Passes, by}
use Rattle.vector.specs.Refusals.{numerical}
use Rattle.plan.specs.Plan.{diagonal_finite, fixed}
use Rattle.plan.specs.Count.{first_size, FirstGoes}
use Rattle.plan.specs.declared.FirstPlan.{FirstPlan}
use Rattle.distances.specs.Count.{step_count}
use Rattle.amounts.specs.Amounts.{tau_of}
use Rattle.model.specs.Model.{model_of, input_of, exact_checks, exact_model}
use Rattle.quote.specs.Quotes.{exact_quotes, exact_steps}
use Rattle.model.specs.declared.GLFTConfig.{GLFTConfig}
use Rattle.model.specs.declared.Model.{Model}
use Rattle.quote.specs.declared.ExactQuotes.TheVariants as ExactQuotes
use Rattle.elementary.specs.declared.Refusal.{Refusal}

-- the count of the model's floats
unfoldable pub plan_from : Result (Model × ℤ) Refusal → Float → FirstPlan
plan_from (Err r) tau = FirstPlan.Refused r
plan_from (Ok (m, q)) tau = step_count m.k m.base (input_of m tau) q

unfoldable pub desk_plan : ℤ → ℤ → GLFTConfig → ℤ → ℕ → FirstPlan
desk_plan mid h c vol t = plan_from (exact_model mid h c vol t) (tau_of c.terminal_time t)

-- ---- it is the first plan of the run that the exact quotes come from
pub record DeskPlanIsFirst : Type 0 where
  -- over the cap: the exact call reports just that, no step being spent; and a report with none spent is this one's
  pub over : (mid h : ℤ) (c : GLFTConfig) (vol : ℤ) (t : ℕ) (need : Float) (b : ℕ)
      → (desk_plan mid h c vol t ≡ FirstPlan.OverCap need b) ↔ (exact_quotes mid h c vol t ≡ ExactQuotes.OverStepCap need b 0)
  -- a refusal: the exact call refuses by it
  pub refused : (mid h : ℤ) (c : GLFTConfig) (vol : ℤ) (t n : ℕ) → desk_plan mid h c vol t ≡ FirstPlan.Refused (by n) → exact_quotes mid h c vol t ≡ ExactQuotes.Refused (by n)
  -- some steps: the model's run begins with a plan of so many; none: no step is spent
  pub steps : (mid h : ℤ) (c : GLFTConfig) (vol : ℤ) (t s : ℕ) → desk_plan mid h c vol t ≡ FirstPlan.Steps (suc s)
      → (m : Model) × (q : ℤ) × (exact_model mid h c vol t ≡ Ok (m, q)) × FirstGoes (input_of m (tau_of c.terminal_time t)) (suc s)
  pub none : (mid h : ℤ) (c : GLFTConfig) (vol : ℤ) (t : ℕ) → desk_plan mid h c vol t ≡ FirstPlan.Steps 0 → exact_steps mid h c vol t ≡ 0

-- ---- its refusals: what the numbers' checks refuse, and 11 where they pass, time is left, and an entry of the diagonal is not finite or tau × norm not finite and positive
abbrev pub DeskPlanFails : ℤ → ℤ → GLFTConfig → ℤ → ℕ → Type 0
DeskPlanFails mid h c vol t =
    let m = model_of c vol in
    let tau = tau_of c.terminal_time t in
    Passes (exact_checks mid h c vol t)
    × ((lt 0ᶠ tau ≡ true) × ((diagonal_finite (fixed (input_of m tau)) && positive (first_size (input_of m tau))) ≡ false))

abbrev pub DeskPlanRefusals : Type 0
DeskPlanRefusals = (mid h : ℤ) (c : GLFTConfig) (vol : ℤ) (t n : ℕ)
    → (desk_plan mid h c vol t ≡ FirstPlan.Refused (by n)) ↔ (Refuses (exact_checks mid h c vol t) n ⊎ ((n ≡ numerical) × DeskPlanFails mid h c vol t))
