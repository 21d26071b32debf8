-- At drift 0, of either sign, the float entry and the count are the driftless ones. Assumes nothing.
use mathlib.Core.Path.{◌≡◌, refl, sym, ap, ◌∙◌}
use mathlib.Core.Bool.{true}
use lib.IntN.{ℤ, neg_ℤ}
use lib.Ieee.{Float, binary64, neg, eq, of_bits}
use Rattle.elementary.specs.Float.{0ᶠ, finite}
use Rattle.elementary.specs.Checks.{Verdict, passes, refused, first_failing}
use Rattle.elementary.proofs.Zeros.{zero_test, zero_finite, zero_neg, zero_equal}
use Rattle.vector.specs.Run.{Ended, bound_ok, spent, run}
use Rattle.plan.specs.Input.{rates_ok}
use Rattle.plan.specs.Count.{plan_ahead, plan_if}
use Rattle.vector.specs.Promises.{turned_input}
use Rattle.plan.specs.Drift.{driftless_plan, driftless_input}
use Rattle.vector.specs.Drift.{driftless_run}
use Rattle.plan.specs.declared.RunInput.{RunInput}
use Rattle.plan.proofs.Drift.{drift_zero as plan-zero}
use Rattle.vector.proofs.Drift.{drift_zero}
use Rattle.distances.specs.FloatEntry.{answer_by, floats_ok, entry_checks, entry_if, entry_over, float_entry, steps_if, steps_over, float_steps}
use Rattle.distances.specs.Count.{count_over, step_count}
use Rattle.distances.specs.Drift.{driftless_entry, driftless_steps, driftless_count, DriftZero}
use Rattle.distances.specs.declared.FloatAnswer.{FloatAnswer}
use Rattle.distances.proofs.Checked.{rates_pass, passed}
use Rattle.distances.proofs.FloatMirror.{floats_turned, same_vectors}

module _ (k base : Float) (x : RunInput) (z : eq x.beta 0ᶠ ≡ true) where
  abbrev driftless : Ended
  driftless = driftless_run x.alpha x.eta x.bound x.tau

  abbrev bare : RunInput
  bare = driftless_input x.alpha x.eta x.bound x.tau

  -- the checks ask of beta only whether it is finite
  floats_driftless : floats_ok k base x ≡ floats_ok k base bare
  unfolding floats_ok rates_ok finite of_bits
  floats_driftless = rw (zero_finite (zero_test binary64 x.beta z))

  runs_driftless : floats_ok k base x ≡ true → bound_ok x.bound ≡ true → run x ≡ driftless
  runs_driftless f b = drift_zero.runs x b (rates_pass k base x f) z

  module _ (q : ℤ) where
    entry_driftless : float_entry k base x q ≡ driftless_entry k base x.alpha x.eta x.bound x.tau q
    unfolding float_entry driftless_entry entry_over entry_if
    entry_driftless = rw (← floats_driftless) (go (first_failing (entry_checks k base x q)) refl)
      where
        go : (v : Verdict) → first_failing (entry_checks k base x q) ≡ v → entry_if v (answer_by x.bound k base q (run x)) ≡ entry_if v (answer_by x.bound k base q driftless)
        go passes e = let p = passed k base x q e in ap (answer_by x.bound k base q) (runs_driftless p.floats p.bound_is_ok)
        go (refused n) e = refl

    steps_driftless : float_steps k base x q ≡ driftless_steps k base x.alpha x.eta x.bound x.tau q
    unfolding float_steps driftless_steps steps_over steps_if
    steps_driftless = rw (← floats_driftless) (go (first_failing (entry_checks k base x q)) refl)
      where
        go : (v : Verdict) → first_failing (entry_checks k base x q) ≡ v → steps_if v (spent (run x)) ≡ steps_if v (spent driftless)
        go passes e = let p = passed k base x q e in ap spent (runs_driftless p.floats p.bound_is_ok)
        go (refused n) e = refl

    count_driftless : step_count k base x q ≡ driftless_count k base x.alpha x.eta x.bound x.tau q
    unfolding step_count driftless_count count_over plan_if
    count_driftless = rw (← floats_driftless) (go (first_failing (entry_checks k base x q)) refl)
      where
        go : (v : Verdict) → first_failing (entry_checks k base x q) ≡ v → plan_if v (plan_ahead x) ≡ plan_if v (driftless_plan x.alpha x.eta x.bound x.tau)
        go passes e = let p = passed k base x q e in plan-zero.plans x p.bound_is_ok (rates_pass k base x p.floats) z
        go (refused n) e = refl

-- the other zero
turned_zero : (beta : Float) → eq beta 0ᶠ ≡ true → eq (neg beta) 0ᶠ ≡ true
turned_zero beta z = zero_equal binary64 (zero_neg (zero_test binary64 beta z))

-- the entry at both zeros is the driftless one, and so are the two runs
own_vector : (k base : Float) (x : RunInput) (q : ℤ) → eq x.beta 0ᶠ ≡ true → (float_entry k base x (neg_ℤ q)).vector ≡ (float_entry k base x q).vector
own_vector k base x q z =
    let y = turned_zero x.beta z in
    ap (λ (a : FloatAnswer). a.vector) (entry_driftless k base x z (neg_ℤ q) ∙ sym (entry_driftless k base (turned_input x) y (neg_ℤ q)))
    ∙ same_vectors k base x q (λ f b. runs_driftless k base (turned_input x) y (floats_turned k base x q ∙ f) b ∙ sym (runs_driftless k base x z f b))

pub drift_zero_entry : DriftZero
drift_zero_entry = record {
  entry = λ k base x q z. entry_driftless k base x z q;
  steps = λ k base x q z. steps_driftless k base x z q;
  count = λ k base x q z. count_driftless k base x z q;
  vector = own_vector;
}
