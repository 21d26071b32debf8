use Rattle.elementary.specs.Elementary.{ln_series}
use Rattle.elementary.proofs.logarithm.ln_series.Goals as goal

pub returns : goal.returns
unfolding ln_series
returns c = rw c.ln_sum.ensures
