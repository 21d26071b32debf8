-- The factors as they are stored, and, where all are finite, the plan over them and its diagonal. Assumes nothing.
use Rattle.std.proofs.Common.{refl}
use Rattle.plan.specs.Slices.{plan_from, diagonal_for}
use Rattle.plan.proofs.slices.set_plan.Goals as goal

pub returns-then-set_factors : goal.returns-then-set_factors
unfolding plan_from
returns-then-set_factors c =
    let e = c.set_factors.ensures in
    record { left_after = e.left_after; right_after = e.right_after; diag_after = c.scale_for.ensures; value = rw (← e.value, c.if-set_factors.true) c.plan_over-plan.ensures }

pub returns : goal.returns
unfolding plan_from diagonal_for
returns c =
    let e = c.set_factors.ensures in
    record { left_after = e.left_after; right_after = e.right_after; diag_after = refl; value = rw (← e.value, c.if-set_factors.false) refl }
