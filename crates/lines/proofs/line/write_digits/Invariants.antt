-- `lines::line::write_digits` meets its contract. The loop's invariant: the digits from i on are written. Assumes nothing.
use Rattle.lines.proofs.Digits.{Downward}
use Rattle.lines.proofs.line.write_digits.Given as goal

abbrev pub invariant-loop-i : goal.invariant-loop-i
invariant-loop-i l = Downward l.base l.n l.k l.initial.out l.out l.i l.rest
