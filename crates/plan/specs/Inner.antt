-- What the crate's own functions hand each other. No public contract cites this file. Definitions only.
use Rattle.series.specs.Refusals.{numerical}
use Rattle.plan.specs.Plan.{cap}
use Rattle.plan.specs.declared.FirstPlan.{FirstPlan}
use Rattle.plan.specs.declared.plan.Planned.{Planned}
use Rattle.elementary.specs.Checks.{by}

-- a plan as a first plan, with the whole budget
unfoldable pub ahead_of : Planned → FirstPlan
ahead_of (Planned.Steps s dt) = FirstPlan.Steps s
ahead_of (Planned.OverCap need) = FirstPlan.OverCap need cap
ahead_of Planned.Refused = FirstPlan.Refused (by numerical)
