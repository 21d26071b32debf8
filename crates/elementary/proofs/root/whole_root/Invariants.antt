use Rattle.elementary.proofs.WholeRoot.{Reading}
use Rattle.elementary.proofs.root.whole_root.Given as goal

abbrev pub invariant-loop : goal.invariant-loop
invariant-loop l = Reading l.m l.d.root l.d.rest l.left l.counter
