use Rattle.vector.specs.Values.{refused_vector}
use Rattle.distances.specs.FloatEntry.{refused_entry}
use Rattle.distances.proofs.entry.refused_entry.Goals as goal

pub returns : goal.returns
unfolding refused_entry refused_vector
returns c = rw c.refused_vector-a.ensures
