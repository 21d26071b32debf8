use mathlib.Core.Path.{sym, ap, ◌∙◌}
use Rattle.distances.specs.Distances.{fine}
use Rattle.distances.proofs.is_fine.Goals as goal

pub returns-in-Some : goal.returns-in-Some
unfolding fine
returns-in-Some c = c.is_finite.ensures ∙ sym (ap fine c.in-Some.is)

pub returns-in-None : goal.returns-in-None
unfolding fine
returns-in-None c = sym (ap fine c.in-None.is)
