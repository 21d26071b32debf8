-- A later term by its rows. Assumes nothing.
use mathlib.Core.Path.{ap, ◌∙◌}
use Rattle.series.specs.Slices.{slice_term, with_term}
use Rattle.series.proofs.Pairs.{times_both}
use Rattle.series.proofs.pair.next_pair.Goals as goal

pub returns : goal.returns
unfolding slice_term
returns c = (rw c.from-inv.ensures at c.with_term.ensures) ∙ ap (with_term 2 _) (times_both _ _ _ _ c.applied-x.ensures)
