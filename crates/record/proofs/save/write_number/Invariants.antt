-- `record::save::write_number` meets its contract. The loop's invariant: the groups written and those of the rest are the number's. The measure is the rest. Assumes nothing.
use Rattle.record.proofs.Groups.{Grouping}
use Rattle.record.proofs.save.write_number.Given as goal

abbrev pub invariant-loop-rest : goal.invariant-loop-rest
invariant-loop-rest l = Grouping l.n l.initial.out l.out l.at l.rest

abbrev pub decreases-loop-rest : goal.decreases-loop-rest
decreases-loop-rest l = l.rest
