-- `record::save::write_numbers` meets its contract. The loop's invariant: the first numbers are written. Assumes nothing.
use Rattle.record.proofs.Saving.{Saving}
use Rattle.record.proofs.save.write_numbers.Given as goal

abbrev pub invariant-loop-n : goal.invariant-loop-n
invariant-loop-n l = Saving l.n-items l.initial.out l.out l.at l.n-index
