use mathlib.Core.Path.{◌≡◌}
use mathlib.Core.Bool.{Bool}
use mathlib.Core.List.{List}
use Prim.Native.Nat.{ℕ, ◌≤◌}
use lib.ListN.{length}
use lib.Ieee.{Float}
use Rattle.plan.specs.Plan.{Ended, fixed_over}
use Rattle.vector.specs.Inner.{SoundPace, Standing, pace_weight}
use Rattle.vector.proofs.RunLaws.{left}
use Rattle.series.specs.Half.{full_size, full_factors, full}
use Rattle.vector.specs.declared.run.Pace.{Pace}
use Rattle.vector.proofs.run.plan_steps.Given as goal

-- where n rows of the slices stand
abbrev pub stands : Bool → ℕ → Float → List Float → List Float → List Float → List Float → Ended → List Float → List Float → Pace → Type 0
stands half n eta left right diag d r w o a =
    Standing (fixed_over (full_size half n) d eta) r (full half n w) (full half n o) (full_factors half n left right) (full_factors half n right left) (full half n diag) a

abbrev pub invariant-loop-pace : goal.invariant-loop-pace
invariant-loop-pace l =
    (length l.w ≡ length l.initial.w) × (length l.o ≡ length l.initial.o) × (length l.term ≡ length l.initial.term) × SoundPace l.pace × (pace_weight l.pace ≤ pace_weight l.initial.pace)
    × ((d : List Float) (r : Ended) → stands l.half (length l.initial.w) l.eta l.left l.right l.diag d r l.initial.w l.initial.o l.initial.pace → stands l.half (length l.initial.w) l.eta l.left l.right l.diag d r l.w l.o l.pace)

abbrev pub decreases-loop-pace : goal.decreases-loop-pace
decreases-loop-pace l = left l.pace
