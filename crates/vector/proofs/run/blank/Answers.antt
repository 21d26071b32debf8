use Rattle.vector.specs.Values.{blank_vector}
use Rattle.vector.proofs.run.blank.Goals as goal

pub returns : goal.returns
unfolding blank_vector
returns c = cc
