-- The loop's invariant: the first row that agrees is the first from row r on. Assumes nothing.
use Rattle.std.proofs.Common.{◌≡◌, ◌-◌}
use Rattle.table.specs.Table.{agrees, first_from, found}
use Rattle.table.proofs.rows.find.Given as goal

abbrev pub invariant-loop-r : goal.invariant-loop-r
invariant-loop-r l = found l.table.numbers.now l.input ≡ first_from l.r (l.rows - l.r) (agrees l.table.numbers.now l.input)
