use mir.Facts.{to_z-of_z}
use Rattle.lots.specs.Reckoning.{reckoned, reckoning}
use Rattle.lots.proofs.reckon.Goals as goal

pub returns : goal.returns
unfolding reckoning reckoned
returns c =
    rw (c.beside_vector-2.ensures, c.beside_vector.ensures, c.vector_of-vector.ensures, c.model_of-m.ensures, c.seconds_to_terminal-tau.ensures, to_z-of_z c.ranges.volatility)
