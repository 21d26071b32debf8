-- The float entry's checks: what they say where all pass, and that k, base and the numbers of the run pass apart. Assumes nothing.
use mathlib.Core.Path.{◌≡◌}
use mathlib.Core.Bool.{true, false, ◌&&◌, and-eq-true_iff}
use mathlib.Core.List.{[], ◌∷◌}
use lib.IntN.{ℤ}
use lib.Ieee.{Float}
use Rattle.elementary.specs.Float.{positive}
use Rattle.elementary.specs.Elementary.{outside}
use Rattle.elementary.specs.Checks.{passes, refused, first_of, first_failing, here, Passes, none, each}
use Rattle.elementary.proofs.Checks.{first_failing_lem, none_failing, failing_joined}
use Rattle.vector.specs.Run.{bound_ok, run}
use Rattle.operator.specs.Operator.{rows}
use Rattle.plan.specs.Input.{rates_ok, input_checks}
use Rattle.vector.specs.Values.{vector_by, vector_if, vector_over, value_vector}
use Rattle.plan.specs.declared.RunInput.{RunInput}
use Rattle.plan.proofs.Bounds.{all_passed}
use Rattle.distances.specs.Refusals.{holding}
use Rattle.distances.specs.Distances.{within}
use Rattle.distances.specs.FloatEntry.{floats_ok, entry_checks}

module _ (k base : Float) (x : RunInput) where
  pub rates_pass : floats_ok k base x ≡ true → rates_ok x ≡ true
  unfolding floats_ok
  rates_pass f = ((and-eq-true_iff (positive k && positive base) (rates_ok x)).0 f).1

  pub scale_pass : floats_ok k base x ≡ true → (positive k && positive base) ≡ true
  unfolding floats_ok
  scale_pass f = ((and-eq-true_iff (positive k && positive base) (rates_ok x)).0 f).0

  pub input_passes : floats_ok k base x ≡ true → bound_ok x.bound ≡ true → first_failing (input_checks x) ≡ passes
  input_passes f b = all_passed x (rates_pass f) b

  -- so there is a run behind the value vector
  pub vector_is : floats_ok k base x ≡ true → bound_ok x.bound ≡ true → value_vector x ≡ vector_by (rows x.bound) (run x)
  unfolding value_vector vector_over vector_if
  vector_is f b = rw (input_passes f b)

  module _ (q : ℤ) where
    pub record Passed : Type 0 where
      pub floats : floats_ok k base x ≡ true
      pub bound_is_ok : bound_ok x.bound ≡ true
      pub held : within x.bound q ≡ true

    pub passed : first_failing (entry_checks k base x q) ≡ passes → Passed
    passed e = go ((none_failing (entry_checks k base x q)).0 e)
      where
        go : Passes (entry_checks k base x q) → Passed
        go (each f (each b (each h none))) = record { floats = f; bound_is_ok = b; held = h }

    pub all_pass : floats_ok k base x ≡ true → bound_ok x.bound ≡ true → within x.bound q ≡ true → first_failing (entry_checks k base x q) ≡ passes
    all_pass f b h = (none_failing (entry_checks k base x q)).1 (each f (each b (each h none)))

    -- where k and base pass, the checks of the run's numbers come next, and then the holding
    pub entry_next : (positive k && positive base) ≡ true → first_failing (entry_checks k base x q) ≡ first_of (first_failing (input_checks x)) (first_failing ((within x.bound q, holding) ∷ []))
    unfolding floats_ok
    entry_next s = rw s (failing_joined (input_checks x) ((within x.bound q, holding) ∷ []))

    pub scale_refused : (positive k && positive base) ≡ false → first_failing (entry_checks k base x q) ≡ refused outside
    unfolding floats_ok
    scale_refused s = (first_failing_lem (entry_checks k base x q) outside).1 (here (rw s))
