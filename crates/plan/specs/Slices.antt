-- What the crate's functions make of the slices that they are lent, whatever their lengths. Definitions only.
use Rattle.std.specs.Prelude.{ℕ, Bool, cond, List, Float}
use Rattle.operator.specs.Slices.{scaled_over}
use Rattle.plan.specs.Plan.{plan_with}
use Rattle.plan.specs.declared.plan.Planned.{Planned}

-- the plan over new factors, where all of them are finite
unfoldable pub plan_from : Bool → Float → List Float → Float → List Float → List Float → ℕ → Planned
plan_from fine rest d eta left right b = cond fine (plan_with rest d eta left right b) Planned.Refused

-- the diagonal of a plan's steps, where it has any
unfoldable pub diagonal_for : Planned → List Float → List Float → List Float
diagonal_for (Planned.Steps s dt) d diag = scaled_over d dt diag
diagonal_for (Planned.OverCap need) d diag = diag
diagonal_for Planned.Refused d diag = diag
