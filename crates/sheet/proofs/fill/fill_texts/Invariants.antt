-- `sheet::fill::fill_texts` meets its contract. The loop's invariant: the bytes passed are the texts so far. The measure is what is left of the sheet, which each text makes less. Assumes nothing.
use Prim.Native.Nat.{◌-◌}
use lib.ListN.{length}
use Rattle.sheet.proofs.Filling.{Filling}
use Rattle.sheet.proofs.fill.fill_texts.Given as goal

abbrev pub invariant-loop-out : goal.invariant-loop-out
invariant-loop-out l = Filling l.kind l.sheet l.at l.initial.out l.out l.n l.next

abbrev pub decreases-loop-out : goal.decreases-loop-out
decreases-loop-out l = length l.sheet - l.next
