use Rattle.vector.specs.Values.{refused_vector}
use Rattle.vector.proofs.run.refused_vector.Goals as goal

pub returns : goal.returns
unfolding refused_vector
returns c = cc
