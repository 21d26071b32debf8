-- The loop's invariant: the lines of some blocks are put. Assumes nothing.
use Rattle.std.proofs.Common.{ℕ}
use Rattle.harness.specs.Records.{BlocksPut}
use Rattle.harness.proofs.records.run_to_cut.Given as goal

abbrev pub invariant-loop : goal.invariant-loop
invariant-loop g l = (n : ℕ) × BlocksPut g.L.PutLine.puts l.sizes.size l.sizes.line n l.initial.lines l.lines
