-- The loop's invariant: the first i weights have gone into their offsets, and `all` says whether they were finite and positive. Assumes nothing.
use mathlib.Core.Path.{◌≡◌}
use Prim.Native.Nat.{ℕ}
use mathlib.Core.List.{List}
use lib.Ieee.{Float}
use Rattle.elementary.specs.Float.{◌⊕◌, 1ᶠ, positive}
use Rattle.elementary.specs.Elementary.{LN, or_nan}
use Rattle.operator.specs.Vectors.{at, every}
use Rattle.operator.proofs.Loops.{filled}
use Rattle.vector.proofs.run.rebalance.Given as goal

-- an offset with its weight in it
abbrev pub moved : List Float → List Float → ℕ → Float
moved w o i = at o i ⊕ or_nan (LN (at w i))

abbrev pub invariant-loop-i : goal.invariant-loop-i
invariant-loop-i l =
    (l.w ≡ filled (λ k. 1ᶠ) l.initial.w l.i) × (l.o ≡ filled (moved l.initial.w l.initial.o) l.initial.o l.i)
    × (l.all ≡ every l.i (λ k. positive (at l.initial.w k)))
