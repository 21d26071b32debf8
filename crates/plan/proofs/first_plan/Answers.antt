-- By the verdict of the checks; past them alpha and eta are above zero. Assumes nothing.
use Rattle.std.proofs.Common.{◌≡◌, sym, ◌∙◌}
use Rattle.elementary.specs.Checks.{passes, first_failing}
use Rattle.elementary.proofs.Checks.{check_passes, check_refused}
use Rattle.plan.specs.Input.{input_checks}
use Rattle.plan.specs.Count.{first_plan, plan_over, plan_if}
use Rattle.plan.proofs.Bounds.{input_passed}
use Rattle.plan.proofs.first_plan.Goals as goal

passes-is : (c : goal.In-Ok) → first_failing (input_checks c.args.input) ≡ passes
passes-is c = check_passes _ (sym c.in-Ok.is ∙ c.check_input.ensures)

pub plan_within-requires : goal.plan_within-requires
plan_within-requires c = input_passed _ (passes-is c)

pub returns-in-Ok : goal.returns-in-Ok
unfolding first_plan plan_over plan_if
returns-in-Ok c = rw (passes-is c.before) c.plan_within.ensures

pub returns-in-Err : goal.returns-in-Err
unfolding first_plan plan_over plan_if
returns-in-Err c = rw (check_refused _ _ (sym c.in-Err.is ∙ c.check_input.ensures))
