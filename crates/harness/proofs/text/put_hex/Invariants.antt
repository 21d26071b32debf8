-- `harness::text::put_hex` meets its contract. The loop's invariant: the first i digits are written. Assumes nothing.
use Rattle.harness.specs.Texts.{hex}
use Rattle.harness.proofs.Placing.{Copied}
use Rattle.harness.proofs.text.put_hex.Given as goal

abbrev pub invariant-loop-i : goal.invariant-loop-i
invariant-loop-i l = Copied l.initial.out l.at (hex 16 l.bits) l.out l.i
