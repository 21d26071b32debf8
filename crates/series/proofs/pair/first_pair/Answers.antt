-- Term 1 by its rows. Assumes nothing.
use mathlib.Core.Path.{ap, ◌∙◌}
use mathlib.Core.Bool.{true, false}
use Rattle.series.specs.Slices.{with_term}
use Rattle.series.specs.Pairs.{pair_of}
use Rattle.series.proofs.Slices.{first_is}
use Rattle.series.proofs.pair.first_pair.Goals as goal

pub returns : goal.returns
returns c =
    c.with_term.ensures ∙ ap (with_term 2 (pair_of c.args.v)) (c.applied.ensures ∙ first_is true false _ _ _)
