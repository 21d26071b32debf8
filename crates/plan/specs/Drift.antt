-- Change request 7: at drift 0 each reply is the one that is reckoned without any beta. What is driftless stands here, over what a drift does not touch. The statement is proved once, in proofs/. Definitions only.
use Rattle.std.specs.Prelude.{◌≡◌, ℕ, true, Float}
use Rattle.std.specs.Float.Ieee.{eq, lt, minus}
use Rattle.elementary.specs.Float.{◌⊕◌, ◌⊗◌, whole, 0ᶠ, 2ᶠ}
use Rattle.operator.specs.Vectors.{tab}
use Rattle.operator.specs.Operator.{rows}
use Rattle.plan.specs.Plan.{Fixed, bound_ok, whole_plan}
use Rattle.plan.specs.Input.{rates_ok}
use Rattle.plan.specs.Count.{plan_when, first_plan, plan_ahead, plan_over}
use Rattle.plan.specs.declared.RunInput.{RunInput}
use Rattle.plan.specs.declared.FirstPlan.{FirstPlan}

-- (alpha × q) × q + 2 × eta
unfoldable pub driftless_diagonal : ℕ → Float → Float → ℕ → Float
driftless_diagonal bound alpha eta i = let q = whole (minus i bound) in alpha ⊗ q ⊗ q ⊕ 2ᶠ ⊗ eta

-- the norm takes the diagonal as it is
unfoldable pub driftless_fixed : ℕ → Float → Float → Fixed
driftless_fixed bound alpha eta = let d = tab (rows bound) (driftless_diagonal bound alpha eta) in record { n = rows bound; diagonal = d; sizes = d; eta = eta }

-- a run begins with its first plan, whatever the diagonal
unfoldable pub driftless_plan : Float → Float → ℕ → Float → FirstPlan
driftless_plan alpha eta bound tau = plan_when (lt 0ᶠ tau) (whole_plan (driftless_fixed bound alpha eta) tau)

-- ---- the reply over it; the checks are asked of a beta of 0.0, which passes
abbrev pub driftless_input : Float → Float → ℕ → Float → RunInput
driftless_input alpha eta bound tau = record { alpha = alpha; beta = 0ᶠ; eta = eta; bound = bound; tau = tau }

unfoldable pub driftless_first : Float → Float → ℕ → Float → FirstPlan
driftless_first alpha eta bound tau = plan_over (driftless_plan alpha eta bound tau) (driftless_input alpha eta bound tau)

-- ---- either zero: the plan from rates that pass, the first plan from any numbers
pub record DriftZero : Type 0 where
  pub plans : (x : RunInput) → bound_ok x.bound ≡ true → rates_ok x ≡ true → eq x.beta 0ᶠ ≡ true → plan_ahead x ≡ driftless_plan x.alpha x.eta x.bound x.tau
  pub first : (x : RunInput) → eq x.beta 0ᶠ ≡ true → first_plan x ≡ driftless_first x.alpha x.eta x.bound x.tau
