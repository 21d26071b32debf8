use mathlib.Core.Path.{◌≡◌}
use mathlib.Core.Bool.{◌&&◌}
use lib.ListN.{length}
use Rattle.elementary.specs.Float.{finite}
use Rattle.operator.specs.Vectors.{every}
use Rattle.operator.specs.Operator.{left_at}
use Rattle.operator.specs.Slices.{right_by}
use Rattle.operator.proofs.Loops.{filled}
use Rattle.operator.proofs.factors.set_factors.Given as goal

abbrev pub invariant-loop-i : goal.invariant-loop-i
invariant-loop-i l =
    (length l.initial.left ≡ length l.o) × (length l.initial.right ≡ length l.o) × (l.left ≡ filled (left_at l.o) l.initial.left l.i) × (l.right ≡ filled (right_by l.half (length l.o) l.o) l.initial.right l.i)
    × (l.all ≡ every l.i (λ k. finite (left_at l.o k) && finite (right_by l.half (length l.o) l.o k)))
