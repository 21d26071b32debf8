-- The value vector is refused just where its floats, its bound or its run are. Assumes nothing.
use mathlib.Core.Path.{◌≡◌, refl, ap, ◌∙◌}
use Prim.Native.Nat.{ℕ}
use native.Mathlib.Omega.{arith}
use Rattle.elementary.specs.Checks.{Verdict, passes, refused, first_failing, Refuses, here, later, by}
use Rattle.elementary.proofs.Checks.{same_number, first_failing_lem}
use Rattle.series.specs.Refusals.{numerical}
use Rattle.plan.specs.Plan.{Ended, vector, over_cap, failed}
use Rattle.vector.specs.Run.{run}
use Rattle.operator.specs.Operator.{rows}
use Rattle.plan.specs.Input.{input_checks}
use Rattle.vector.specs.Values.{refused_vector, vector_by, vector_if, vector_over, value_vector}
use Rattle.vector.specs.Refusing.{VectorRefused, by_5, by_1, by_11, VectorRefusals}
use Rattle.vector.specs.declared.Outcome.TheVariants as Outcome
use Rattle.plan.proofs.Bounds.{input_passes, rates_refused, bound_refused, all_passed}
use Rattle.vector.proofs.Causes.{runs_fail}

failed_by : (m : ℕ) (e : Ended) (n : ℕ) → (vector_by m e).outcome ≡ Outcome.Refused (by n) → (s : ℕ) × (e ≡ failed s) × (n ≡ numerical)
unfolding vector_by refused_vector
failed_by m (vector w o s) n i = let z : ◌≡◌ {A = ℕ} 0 1 = cc in absurd (omega arith)
failed_by m (over_cap need b) n i = let z : ◌≡◌ {A = ℕ} 0 1 = cc in absurd (omega arith)
failed_by m (failed s) n i = (s, refl, same_number (let y : by n ≡ by numerical = cc in y))

pub vector_refusals : VectorRefusals
unfolding value_vector vector_over vector_if vector_by refused_vector
vector_refusals x n = (to (first_failing (input_checks x)) refl, from n)
  where
    checked : (m : ℕ) → Refuses (input_checks x) m → VectorRefused x m
    checked m (here f) = by_5 f
    checked m (later f (here b)) = by_1 f b
    checked m (later f (later _ x)) = elim x [ ]

    to : (v : Verdict) → first_failing (input_checks x) ≡ v → (vector_if v (vector_by (rows x.bound) (run x))).outcome ≡ Outcome.Refused (by n) → VectorRefused x n
    to passes t i =
        let (f, b) = input_passes x t in
        let (s, e, z) = failed_by (rows x.bound) (run x) n i in
        let c = (runs_fail x s).0 e in
        rw z (by_11 f b c.0 c.1)
    to (refused m) t i = let z : m ≡ n = same_number (let y : by m ≡ by n = cc in y) in checked n ((first_failing_lem (input_checks x) n).0 (t ∙ ap refused z))

    from : (m : ℕ) → VectorRefused x m → (vector_if (first_failing (input_checks x)) (vector_by (rows x.bound) (run x))).outcome ≡ Outcome.Refused (by m)
    from m (by_5 f) = rw (rates_refused x f)
    from m (by_1 f b) = rw (bound_refused x f b)
    from m (by_11 {s} f b l c) = rw (all_passed x f b, (runs_fail x s).1 (l, c))
