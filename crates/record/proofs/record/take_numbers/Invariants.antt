-- `record::record::take_numbers` meets its contract. The loop's invariant: the numbers passed are the first of the slice. Assumes nothing.
use lib.ListN.{length, take}
use Rattle.record.proofs.Reading.{Passed}
use Rattle.record.proofs.record.take_numbers.Given as goal

abbrev pub invariant-loop-slot : goal.invariant-loop-slot
invariant-loop-slot l = Passed l.s l.at (length l.initial.out) (take l.slot-index l.out) l.next l.slot-index
