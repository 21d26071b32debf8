-- `printing::print_texts` meets its contract. The loop's invariant: what is done is handed on, and the rest follows from the place on; the buffer has its length, and the place is
-- within the sheet. The measure is what is left of the sheet, which each fill makes less. Assumes nothing.
use mathlib.Core.Path.{◌≡◌}
use Prim.Native.Nat.{◌-◌, ◌≤◌}
use lib.ListN.{length}
use Rattle.printing.proofs.Handing.{Handing}
use Rattle.printing.proofs.print_texts.Given as goal

abbrev pub invariant-loop-at : goal.invariant-loop-at
invariant-loop-at l = Handing l.kind l.s l.at l.done.count × (65536 ≡ length l.out) × (l.at ≤ length l.s)

abbrev pub decreases-loop-at : goal.decreases-loop-at
decreases-loop-at l = length l.s - l.at
