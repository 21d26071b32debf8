-- From where the plans have come the run ends as from its start. Assumes nothing.
use mathlib.Core.Path.{refl, ap, ◌∙◌}
use lib.ListN.{length}
use native.Mathlib.Omega.{arith}
use native.Mathlib.Nat.{le_refl}
use Rattle.elementary.specs.Float.{1ᶠ}
use Rattle.plan.specs.Plan.{cap}
use Rattle.series.specs.Half.{full}
use Rattle.series.proofs.Full.{full_fill}
use Rattle.vector.proofs.run.run_plans.Goals as goal

pub loop-next-init : goal.loop-next-init
loop-next-init c =
    let f = c.args.fixed in
    (refl, refl, (le_refl cap, ap (full f.half (length f.diag_s.now)) c.requires.2 ∙ full_fill f.half (length f.diag_s.now) (omega (arith, c.requires.0)) 1ᶠ, refl))

pub loop-next-smaller : goal.loop-next-smaller
loop-next-smaller c = rw c.in-Plan.is (omega (arith, c.run_plan-next.ensures.1))

pub loop-next-preserved : goal.loop-next-preserved
loop-next-preserved c =
    let i = c.loop-next.invariant in
    let t = c.run_plan-next in
    (t.auto.w ∙ i.0, t.auto.o ∙ i.1, rw (rw c.in-Plan.is at i.2).2 at t.ensures.0)

pub returns-in-Over : goal.returns-in-Over
returns-in-Over c = rw c.in-Over.is at c.loop-next.invariant.2
