-- The larger of the two. Assumes nothing.
use Rattle.plan.specs.Plan.{needed}
use Rattle.plan.proofs.plan.steps_needed.Goals as goal

pub returns : goal.returns
unfolding needed
returns c = rw (← c.ceil.ensures, ← c.or_nan-up.ensures) c.larger_of.ensures
