-- The value vector's refusals: each is the reply in just the situation that document 01 names. Proved once, in proofs/. Definitions only.
use Rattle.std.specs.Prelude.{◌≡◌, ◌↔◌, ℕ, true, false}
use Rattle.std.specs.Float.Ieee.{lt}
use Rattle.elementary.specs.Float.{0ᶠ}
use Rattle.elementary.specs.Elementary.{outside}
use Rattle.vector.specs.Refusals.{configuration}
use Rattle.series.specs.Refusals.{numerical}
use Rattle.plan.specs.Plan.{bound_ok, fixed}
use Rattle.plan.specs.Input.{rates_ok}
use Rattle.vector.specs.Values.{value_vector}
use Rattle.vector.specs.Causes.{RunFails}
use Rattle.plan.specs.declared.RunInput.{RunInput}
use Rattle.vector.specs.declared.Outcome.TheVariants as Outcome
use Rattle.elementary.specs.Checks.{by}

-- in order: the floats, the bound, and a run that fails
pub data VectorRefused (x : RunInput) : ℕ → Type 0 where
  by_5 : rates_ok x ≡ false → VectorRefused x outside
  by_1 : rates_ok x ≡ true → bound_ok x.bound ≡ false → VectorRefused x configuration
  by_11 : {s : ℕ} → rates_ok x ≡ true → bound_ok x.bound ≡ true → lt 0ᶠ x.tau ≡ true → RunFails (fixed x) x.tau s → VectorRefused x numerical

abbrev pub VectorRefusals : Type 0
VectorRefusals = (x : RunInput) (n : ℕ) → ((value_vector x).outcome ≡ Outcome.Refused (by n)) ↔ VectorRefused x n
