-- `lines::line::count_places` meets its contract. The loop's invariant: the digits passed and those of the rest are one more than all. The measure is the rest. Assumes nothing.
use mathlib.Core.Path.{◌≡◌}
use Prim.Native.Nat.{suc, ◌+◌, ◌≤◌}
use Rattle.lines.specs.Lines.{places}
use Rattle.lines.proofs.line.count_places.Given as goal

abbrev pub invariant-loop-rest : goal.invariant-loop-rest
invariant-loop-rest l = (l.k + places l.rest ≡ suc (places l.n)) × (l.rest ≤ l.n)

abbrev pub decreases-loop-rest : goal.decreases-loop-rest
decreases-loop-rest l = l.rest
