-- By the verdict of the checks; past them alpha and eta are above zero. Assumes nothing.
use mathlib.Core.Path.{◌≡◌, sym, ◌∙◌}
use Rattle.elementary.specs.Checks.{passes, first_failing}
use Rattle.elementary.proofs.Checks.{check_passes, check_refused}
use Rattle.plan.specs.Input.{input_checks}
use Rattle.vector.specs.Values.{vector_if, vector_over, value_vector}
use Rattle.plan.proofs.Bounds.{input_passed}
use Rattle.vector.proofs.value_vector.Goals as goal

passes-is : (c : goal.In-Ok) → first_failing (input_checks c.args.input) ≡ passes
passes-is c = check_passes _ (sym c.in-Ok.is ∙ c.check_input.ensures)

pub returns-in-Err : goal.returns-in-Err
unfolding value_vector vector_over vector_if
returns-in-Err c =
    rw (check_refused _ _ (sym c.in-Err.is ∙ c.check_input.ensures)) c.refused_vector.ensures

pub run_vector-requires : goal.run_vector-requires
run_vector-requires c = input_passed _ (passes-is c)

pub returns-in-Ok : goal.returns-in-Ok
unfolding value_vector vector_over vector_if
returns-in-Ok c = rw (passes-is c.before) c.run_vector.ensures
