use Rattle.elementary.specs.Float.{positive}
use Rattle.elementary.proofs.is_positive_finite.Goals as goal

pub returns : goal.returns
unfolding positive
returns c = rw c.is_finite.ensures
