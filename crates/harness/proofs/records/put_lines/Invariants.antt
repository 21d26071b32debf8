-- The loop's invariant: the lines of the first i records are put. Assumes nothing.
use Rattle.harness.specs.Records.{LinesPut}
use Rattle.harness.proofs.records.put_lines.Given as goal

abbrev pub invariant-loop-i : goal.invariant-loop-i
invariant-loop-i g l = LinesPut g.L.PutLine.puts l.s l.sizes.size l.sizes.line l.i l.initial.lines l.initial.out l.initial.used l.lines l.out l.used
