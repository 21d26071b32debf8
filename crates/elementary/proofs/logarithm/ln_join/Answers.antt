use Rattle.elementary.specs.Elementary.{ln_join}
use Rattle.elementary.proofs.logarithm.ln_join.Goals as goal

pub returns : goal.returns
unfolding ln_join
returns c = rw c.ln_series.ensures
