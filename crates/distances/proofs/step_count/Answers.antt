-- By the verdict of the checks; past them the numbers of the run pass below. Assumes nothing.
use mathlib.Core.Path.{◌≡◌, sym, ◌∙◌}
use mir.Facts.{to_z-of_z}
use Rattle.elementary.specs.Checks.{passes, first_failing}
use Rattle.elementary.proofs.Checks.{check_passes, check_refused}
use Rattle.plan.specs.Count.{plan_if, plan_over, first_plan}
use Rattle.distances.specs.FloatEntry.{entry_checks}
use Rattle.distances.specs.Count.{count_over, step_count}
use Rattle.distances.proofs.Checked.{passed, input_passes}
use Rattle.distances.proofs.step_count.Goals as goal

pub returns-in-Ok : goal.returns-in-Ok
unfolding step_count count_over first_plan plan_over plan_if
returns-in-Ok c =
    let passes-is : let a = c.args in first_failing (entry_checks a.k a.base a.input a.q) ≡ passes = check_passes _ (rw (to_z-of_z c.ranges.q) at (sym c.in-Ok.is ∙ c.check_entry.ensures)) in
    let e = passes-is in
    let p = passed _ _ _ c.args.q e in
    rw e (rw (input_passes _ _ _ p.floats p.bound_is_ok) at c.first_plan.ensures)

pub returns-in-Err : goal.returns-in-Err
unfolding step_count count_over plan_if
returns-in-Err c =
    rw (check_refused _ _ (rw (to_z-of_z c.ranges.q) at (sym c.in-Err.is ∙ c.check_entry.ensures)))
