use mathlib.Core.Path.{◌≡◌}
use Prim.Native.Nat.{ℕ, ◌-◌}
use mathlib.Core.Bool.{cond}
use mathlib.Core.List.{List}
use lib.Dec.{ltb}
use lib.ListN.{length}
use lib.Ieee.{Float}
use Rattle.operator.specs.Vectors.{at}
use Rattle.operator.proofs.Loops.{filled}
use Rattle.vector.proofs.run.fill_mirror.Given as goal

-- an entry at the end
abbrev pub entry : List Float → ℕ → ℕ → Float
entry x n i = cond (ltb i n) (at x i) (at x (length x - 1 - i))

abbrev pub invariant-loop-i : goal.invariant-loop-i
invariant-loop-i l = l.x ≡ filled (entry l.initial.x l.n) l.initial.x l.i
