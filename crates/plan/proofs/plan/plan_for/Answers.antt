-- Steps that keep the budget are at least 1.0 and fit 32 bits, so they can be cut to a whole number. Assumes nothing.
use Rattle.std.proofs.Common.{◌≡◌, ℕ, true, pos, lt_of_le_of_lt}
use lib.Ieee.{Float, le}
use Rattle.elementary.specs.Float.{whole}
use Rattle.plan.specs.Plan.{needed, plan_by, plan_for}
use Rattle.plan.proofs.Plans.{planned_low, planned_high, planned_within, planned_same}
use Rattle.plan.proofs.plan.plan_for.Goals as goal

keeps : (size need : Float) (b : ℕ) → need ≡ needed size → le need (whole (pos b)) ≡ true → le (needed size) (whole (pos b)) ≡ true
keeps size need b e h = rw e at h

pub truncating_f64_to_u64-steps-requires : goal.truncating_f64_to_u64-steps-requires
truncating_f64_to_u64-steps-requires c =
    let is = c.steps_needed-need.ensures in
    let kept = keeps _ _ _ is c.if-need-budget.true in
    rw is (record { lower_bound = planned_low _ _ kept; upper_bound = planned_high _ _ kept c.ranges.budget.fits })

pub overflow_cast-result : goal.overflow_cast-result
overflow_cast-result c =
    let is = c.steps_needed-need.ensures in
    let kept = keeps _ _ _ is c.if-need-budget.true in
    record { fits = rw (c.truncating_f64_to_u64-steps.ensures, is) (lt_of_le_of_lt (planned_within _ _ kept c.ranges.budget.fits) c.ranges.budget.fits) }

pub returns-then-need-budget : goal.returns-then-need-budget
unfolding plan_for plan_by
returns-then-need-budget c =
    let is = c.steps_needed-need.ensures in
    let kept = keeps _ _ _ is c.if-need-budget.true in
    rw (kept, c.truncating_f64_to_u64-steps.ensures, is, planned_same _ _ kept c.ranges.budget.fits)

pub returns : goal.returns
unfolding plan_for plan_by
returns c =
    let is = c.steps_needed-need.ensures in
    rw (← is, c.if-need-budget.false)
