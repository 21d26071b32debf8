use Rattle.ladders.proofs.Rungs.{Laying}
use Rattle.ladders.proofs.ladder.write_rungs.Given as goal

abbrev pub invariant-loop-i : goal.invariant-loop-i
invariant-loop-i l = Laying l.mid_price l.config l.r l.initial.out l.out l.at l.i
