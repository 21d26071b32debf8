use mathlib.Core.Path.{◌≡◌}
use Prim.Native.Nat.{◌≤◌}
use lib.ListN.{length}
use lib.Ieee.{minus}
use Rattle.elementary.specs.Float.{whole, finite}
use Rattle.operator.specs.Vectors.{every}
use Rattle.operator.specs.Operator.{rows, diagonal_at}
use Rattle.operator.proofs.Loops.{filled}
use Rattle.operator.proofs.diagonal.fill_shifted_diagonal.Given as goal

abbrev pub invariant-loop-i : goal.invariant-loop-i
invariant-loop-i l =
    (length l.initial.diag ≤ rows l.bound) × (l.q ≡ whole (minus l.i l.bound)) × (l.diag ≡ filled (diagonal_at l.bound l.alpha l.beta l.eta) l.initial.diag l.i)
    × (l.all ≡ every l.i (λ k. finite (diagonal_at l.bound l.alpha l.beta l.eta k)))
