-- Slices that do not agree are refused; else the test's outcome is `plan_of`'s first. Assumes nothing.
use Rattle.std.proofs.Common.{refl, eq-eqb, ne_eqb}
use Rattle.plan.specs.Plan.{plan_by, plan_for, plan_of, plan_with}
use Rattle.plan.proofs.Plans.{plan_agrees}
use Rattle.plan.proofs.plan.plan_over.Goals as goal

pub returns-then-left-diag_s : goal.returns-then-left-diag_s
unfolding plan_with
returns-then-left-diag_s c = rw (ne_eqb _ _ c.if-left-diag_s.true) refl

pub returns-then-right-diag_s : goal.returns-then-right-diag_s
unfolding plan_with
returns-then-right-diag_s c = rw (eq-eqb _ _ c.if-left-diag_s.false, ne_eqb _ _ c.if-right-diag_s.true) refl

pub returns-then-is_positive_finite : goal.returns-then-is_positive_finite
unfolding plan_of plan_for
returns-then-is_positive_finite c =
    rw (plan_agrees _ _ _ _ _ _ c.if-left-diag_s.false c.if-right-diag_s.false, ← c.norm_of.ensures, ← c.is_positive_finite.ensures, c.if-is_positive_finite.true) c.plan_for.ensures

pub returns : goal.returns
unfolding plan_of plan_by
returns c =
    rw (plan_agrees _ _ _ _ _ _ c.if-left-diag_s.false c.if-right-diag_s.false, ← c.norm_of.ensures, ← c.is_positive_finite.ensures, c.if-is_positive_finite.false)
