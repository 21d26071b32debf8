use mathlib.Core.Bool.{◌&&◌}
use mathlib.Core.Path.{ap, ap₂, ◌∙◌}
use Rattle.operator.specs.Vectors.{from}
use Rattle.series.specs.Series.{plus, converged}
use Rattle.series.specs.Slices.{sum_of, with_term}
use Rattle.series.specs.Pairs.{pair_of}
use Rattle.series.proofs.Pairs.{every_two}
use Rattle.series.proofs.pair.with_term.Goals as goal

pub returns : goal.returns
unfolding from plus converged with_term
returns c =
    let a = c.args in
    ap (sum_of (pair_of a.term) (plus 2 (pair_of a.sum) (pair_of a.term))) (ap₂ ◌&&◌ c.is_small.ensures c.is_small-2.ensures ∙ every_two _)
