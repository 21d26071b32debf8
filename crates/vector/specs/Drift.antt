-- Change request 7: at drift 0 each reply is the one that is reckoned without any beta: the run and the value vector, over the plan's driftless rows. The statement is proved once, in proofs/. Definitions only.
use Rattle.std.specs.Prelude.{◌≡◌, ℕ, true, Float}
use Rattle.std.specs.Float.Ieee.{eq, lt}
use Rattle.elementary.specs.Float.{0ᶠ}
use Rattle.plan.specs.Plan.{Ended, bound_ok, whole_plan}
use Rattle.plan.specs.Input.{rates_ok}
use Rattle.plan.specs.Drift.{driftless_fixed, driftless_input}
use Rattle.plan.specs.declared.RunInput.{RunInput}
use Rattle.vector.specs.Run.{run, run_from}
use Rattle.vector.specs.Values.{value_vector, vector_over}
use Rattle.vector.specs.declared.VectorAnswer.{VectorAnswer}

-- a run begins with its first plan, whatever the diagonal
unfoldable pub driftless_run : Float → Float → ℕ → Float → Ended
driftless_run alpha eta bound tau = let p = driftless_fixed bound alpha eta in run_from (lt 0ᶠ tau) p (whole_plan p tau)

unfoldable pub driftless_vector : Float → Float → ℕ → Float → VectorAnswer
driftless_vector alpha eta bound tau = vector_over (driftless_run alpha eta bound tau) (driftless_input alpha eta bound tau)

-- ---- either zero: the run from rates that pass, the value vector from any numbers
pub record DriftZero : Type 0 where
  pub runs : (x : RunInput) → bound_ok x.bound ≡ true → rates_ok x ≡ true → eq x.beta 0ᶠ ≡ true → run x ≡ driftless_run x.alpha x.eta x.bound x.tau
  pub vectors : (x : RunInput) → eq x.beta 0ᶠ ≡ true → value_vector x ≡ driftless_vector x.alpha x.eta x.bound x.tau
