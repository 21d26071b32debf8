-- `record::record::read_number` meets its contract. The loop's invariant: the groups passed make the value. Assumes nothing.
use Rattle.record.proofs.Reading.{Grouped}
use Rattle.record.proofs.record.read_number.Given as goal

abbrev pub invariant-loop-groups : goal.invariant-loop-groups
invariant-loop-groups l = Grouped l.s l.at l.value l.unit l.groups
