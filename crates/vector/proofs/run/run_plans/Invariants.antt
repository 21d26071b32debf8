use mathlib.Core.Path.{◌≡◌}
use lib.ListN.{length}
use Rattle.elementary.specs.Float.{1ᶠ}
use Rattle.operator.specs.Vectors.{fill}
use Rattle.plan.specs.Plan.{cap, begin}
use Rattle.vector.specs.Run.{run_on}
use Rattle.vector.specs.Inner.{NextIs, weight}
use Rattle.series.specs.Half.{full_size, full}
use Rattle.vector.specs.Half.{full_fixed}
use Rattle.vector.proofs.run.run_plans.Given as goal

abbrev pub invariant-loop-next : goal.invariant-loop-next
invariant-loop-next l =
    let n = length l.fixed.diag_s.now in
    let p = full_fixed l.fixed.half n l.fixed.diag_s.now l.fixed.eta in
    (length l.w ≡ length l.initial.w) × (length l.o ≡ length l.initial.o) × NextIs p (run_on cap p (begin p cap (fill (full_size l.fixed.half n) 1ᶠ) (full l.fixed.half n l.initial.o) l.tau)) (full l.fixed.half n l.w) (full l.fixed.half n l.o) l.next

abbrev pub decreases-loop-next : goal.decreases-loop-next
decreases-loop-next l = weight l.next
