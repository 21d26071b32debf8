use native.Mathlib.Omega.{arith}
use Rattle.std.proofs.lemmas.Int.{ints}
use Rattle.ladders.specs.Ladder.{lot_at}
use Rattle.ladders.proofs.ladder.lot_at.Goals as goal

pub returns : goal.returns
unfolding lot_at
returns c = omega (arith, ints)
