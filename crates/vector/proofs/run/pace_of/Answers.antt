-- Each arm is one of `told`. Assumes nothing.
use mathlib.Core.Path.{◌∙◌, sym, ap}
use Rattle.vector.specs.Inner.{told}
use Rattle.vector.proofs.run.pace_of.Goals as goal

pub returns-in-Steps : goal.returns-in-Steps
returns-in-Steps c = c.paced.ensures ∙ ap (told _ _) (sym c.in-Steps.is)

pub returns-in-OverCap : goal.returns-in-OverCap
returns-in-OverCap c = c.over_cap.ensures ∙ ap (told _ _) (sym c.in-OverCap.is)
