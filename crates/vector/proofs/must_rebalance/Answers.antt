use mathlib.Core.Path.{refl}
use Rattle.vector.specs.Run.{rebalances}
use Rattle.vector.proofs.must_rebalance.Goals as goal

pub returns : goal.returns
unfolding rebalances
returns c = refl
