-- `resave::keep` meets its contract. The loop's invariant: what is kept of the records passed is written. The measure is what is left of the sheet. Assumes nothing.
use Prim.Native.Nat.{◌-◌}
use lib.ListN.{length}
use Rattle.resave.proofs.Keeping.{Keeping}
use Rattle.resave.proofs.keep.Given as goal

abbrev pub invariant-loop-at : goal.invariant-loop-at
invariant-loop-at l = Keeping l.s l.initial.out l.out l.n l.at

abbrev pub decreases-loop-at : goal.decreases-loop-at
decreases-loop-at l = length l.s - l.at
