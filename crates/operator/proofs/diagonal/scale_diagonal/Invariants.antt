use mathlib.Core.Path.{◌≡◌}
use lib.ListN.{length}
use Rattle.elementary.specs.Float.{◌⊗◌}
use Rattle.operator.specs.Vectors.{at}
use Rattle.operator.proofs.Loops.{filled}
use Rattle.operator.proofs.diagonal.scale_diagonal.Given as goal

abbrev pub invariant-loop-i : goal.invariant-loop-i
invariant-loop-i l = (length l.initial.diag ≡ length l.diag_s) × (l.diag ≡ filled (λ k. at l.diag_s k ⊗ l.dt) l.initial.diag l.i)
