-- A reply carries the steps of its run. Assumes nothing.
use Rattle.std.specs.Prelude.{Option, Result, Ok, Err}
use mathlib.Core.Path.{◌≡◌, refl}
use Prim.Native.Nat.{ℕ, ◌≤◌}
use native.Mathlib.Omega.{arith}
use lib.IntN.{ℤ}
use lib.Ieee.{Float}
use Rattle.elementary.specs.Checks.{Verdict, passes, refused, first_failing}
use Rattle.vector.specs.Run.{Ended, vector, over_cap, failed, cap, run, spent}
use Rattle.vector.specs.declared.ValueVector.{ValueVector}
use Rattle.vector.proofs.Spent.{steps_within, budget_within}
use Rattle.distances.specs.FloatEntry.{refused_entry, with_vector, answer_by, entry_checks, entry_if, entry_over, float_entry, steps_if, steps_over, float_steps}
use Rattle.distances.specs.Promises.{Counted, StepsCounted}
use Rattle.elementary.specs.declared.Refusal.{Refusal}

sides_counted : (v : ValueVector) (s : ℕ) (r : Result (Option Float × Option Float) Refusal) → Counted (with_vector v s r).answer s
unfolding Counted with_vector refused_entry
sides_counted v s (Ok (b, a)) = refl
sides_counted v s (Err r) = tt

counted : (bound : ℕ) (k base : Float) (q : ℤ) (r : Ended) → ((need : Float) (b : ℕ) → r ≡ over_cap need b → b ≤ cap) → Counted (answer_by bound k base q r).answer (spent r)
unfolding Counted answer_by refused_entry spent
counted bound k base q (vector w o s) h = sides_counted _ s _
counted bound k base q (over_cap need b) h = let l = h need b refl in (refl, omega (arith, l))
counted bound k base q (failed s) h = tt

pub steps_counted : StepsCounted
unfolding Counted float_entry entry_over entry_if refused_entry float_steps steps_over steps_if
steps_counted k base x q = go (first_failing (entry_checks k base x q))
  where
    go : (v : Verdict) → Counted (entry_if v (answer_by x.bound k base q (run x))).answer (steps_if v (spent (run x))) × (steps_if v (spent (run x)) ≤ cap)
    go passes = (counted x.bound k base q (run x) (budget_within x), steps_within x)
    go (refused n) = (tt, omega arith)
