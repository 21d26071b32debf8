-- The loop's invariant: the first i numbers are the bits of the first i floats. Assumes nothing.
use Rattle.std.proofs.Common.{map}
use Rattle.table.specs.Table.{bits}
use Rattle.table.proofs.Stores.{Stored}
use Rattle.table.proofs.writing.write_bits.Given as goal

abbrev pub invariant-loop-i : goal.invariant-loop-i
invariant-loop-i l = Stored l.initial.out (map bits l.floats) l.out l.i
