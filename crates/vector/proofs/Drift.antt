-- Without a drift, beta being a zero of either sign, the run and the value vector are those without any beta. Assumes nothing.
use mathlib.Core.Path.{◌≡◌, refl, ap}
use mathlib.Core.Bool.{true}
use lib.Ieee.{eq}
use Rattle.elementary.specs.Float.{0ᶠ}
use Rattle.elementary.specs.Checks.{Verdict, passes, refused, first_failing}
use Rattle.operator.specs.Operator.{rows}
use Rattle.plan.specs.Plan.{bound_ok}
use Rattle.vector.specs.Run.{run}
use Rattle.plan.specs.Input.{rates_ok, input_checks}
use Rattle.vector.specs.Values.{vector_by, vector_if, value_vector, vector_over}
use Rattle.vector.specs.Drift.{DriftZero, driftless_run, driftless_vector}
use Rattle.plan.proofs.Bounds.{rates_above, input_passes}
use Rattle.plan.specs.declared.RunInput.{RunInput}
use Rattle.plan.proofs.Drift.{fixed_driftless, begun_driftless, rates_driftless}

-- ---- the replies
module _ (x : RunInput) (z : eq x.beta 0ᶠ ≡ true) where
  runs_driftless : bound_ok x.bound ≡ true → rates_ok x ≡ true → run x ≡ driftless_run x.alpha x.eta x.bound x.tau
  unfolding run driftless_run
  runs_driftless ok r =
      let (pa, pb, pe) = rates_above x r in
      rw (begun_driftless x ok pa z pe, fixed_driftless x ok pa z pe)

  vectors_driftless : value_vector x ≡ driftless_vector x.alpha x.eta x.bound x.tau
  unfolding value_vector driftless_vector vector_over vector_if
  vectors_driftless = rw (← rates_driftless x z) (go (first_failing (input_checks x)) refl)
    where
      go : (v : Verdict) → first_failing (input_checks x) ≡ v
          → vector_if v (vector_by (rows x.bound) (run x)) ≡ vector_if v (vector_by (rows x.bound) (driftless_run x.alpha x.eta x.bound x.tau))
      go passes e = let (r, ok) = input_passes x e in ap (vector_by (rows x.bound)) (runs_driftless ok r)
      go (refused n) e = refl

pub drift_zero : DriftZero
drift_zero = record { runs = λ x ok r z. runs_driftless x z ok r; vectors = vectors_driftless }
