-- What every value vector has: two arrays of 401 entries; and where its run is done, its length, a bound that passed, and no more steps than the cap. Assumes nothing.
use mathlib.Core.Path.{◌≡◌, refl, ap, ◌∙◌, subst}
use mathlib.Core.List.{List}
use Prim.Native.Nat.{ℕ, ◌-◌, ◌≤◌}
use native.Mathlib.Omega.{arith}
use lib.ListN.{length, length-append, length-replicate}
use lib.Ieee.{Float}
use Rattle.elementary.specs.Float.{0ᶠ}
use Rattle.elementary.specs.Checks.{Verdict, passes, refused, first_failing}
use Rattle.operator.specs.Vectors.{fill}
use Rattle.operator.specs.Operator.{rows}
use Rattle.plan.specs.Plan.{Ended, vector, over_cap, failed, cap, room}
use Rattle.plan.specs.Input.{input_checks}
use Rattle.plan.specs.declared.RunInput.{RunInput}
use Rattle.plan.proofs.Bounds.{bound_range, input_passes}
use Rattle.vector.specs.Run.{run, spent}
use Rattle.vector.specs.Values.{padded, vector_of, blank_vector, refused_vector, vector_by, vector_if, vector_over, value_vector}
use Rattle.vector.specs.declared.ValueVector.{ValueVector}
use Rattle.vector.specs.declared.Outcome.TheVariants as Outcome
use Rattle.vector.specs.declared.VectorAnswer.{VectorAnswer}
use Rattle.vector.proofs.Spent.{steps_within}
use Rattle.vector.proofs.Turned.{full_length}

-- both arrays
pub record Full (v : ValueVector) : Type 0 where
  pub weights : length v.w ≡ 401
  pub offsets : length v.log_offset ≡ 401

blank : Full blank_vector
unfolding blank_vector
blank = record { weights = length-replicate room 0ᶠ; offsets = length-replicate room 0ᶠ }

length_padded : (n : ℕ) (l : List Float) → length l ≡ n → n ≤ room → length (padded n l) ≡ room
unfolding padded
length_padded n l e h = rw (length-append l (fill (room - n) 0ᶠ), length-replicate (room - n) 0ᶠ, e) (omega arith)

ended : (n : ℕ) (r : Ended) → n ≤ room → ((w o : List Float) (s : ℕ) → r ≡ vector w o s → (length w ≡ n) × (length o ≡ n)) → Full (vector_by n r).vector
unfolding vector_by vector_of refused_vector
ended n (vector w o s) h f = let (ew, eo) = f w o s refl in record { weights = length_padded n w ew h; offsets = length_padded n o eo h }
ended n (over_cap need b) h f = blank
ended n (failed s) h f = blank

pub full_arrays : (x : RunInput) → Full (value_vector x).vector
unfolding value_vector vector_over vector_if refused_vector
full_arrays x = go (first_failing (input_checks x)) refl
  where
    go : (v : Verdict) → first_failing (input_checks x) ≡ v → Full (vector_if v (vector_by (rows x.bound) (run x))).vector
    go passes e =
        let (least, most) = bound_range x.bound (input_passes x e).1 in
        ended (rows x.bound) (run x) (omega arith) (full_length x)
    go (refused n) e = blank

-- ---- the value vector of a run that is done
pub record Ran (b s : ℕ) (a : VectorAnswer) : Type 0 where
  pub is_done : a.outcome ≡ Outcome.Done s
  pub size : a.vector.n ≡ rows b
  pub least_bound : 1 ≤ b
  pub most_bound_lem : b ≤ 200
  pub few_steps : s ≤ cap

module _ (x : RunInput) (s : ℕ) where
  by_end : (1 ≤ x.bound) × (x.bound ≤ 200) → (e : Ended) → run x ≡ e → (vector_by (rows x.bound) e).outcome ≡ Outcome.Done s → Ran x.bound s (vector_by (rows x.bound) e)
  unfolding vector_by vector_of refused_vector spent
  by_end b (vector w o n) e d =
      let k : n ≡ s = cc in
      record { is_done = d; size = refl; least_bound = b.0; most_bound_lem = b.1; few_steps = subst (λ (m : ℕ). m ≤ cap) (ap spent e ∙ k) (steps_within x) }
  by_end b (over_cap need l) e d = let z : ◌≡◌ {A = ℕ} 0 1 = cc in absurd (omega arith)
  by_end b (failed n) e d = let z : ◌≡◌ {A = ℕ} 0 1 = cc in absurd (omega arith)

  by_verdict : (v : Verdict) → first_failing (input_checks x) ≡ v → (vector_if v (vector_by (rows x.bound) (run x))).outcome ≡ Outcome.Done s
      → Ran x.bound s (vector_if v (vector_by (rows x.bound) (run x)))
  unfolding vector_if refused_vector
  by_verdict passes e d = by_end (bound_range x.bound (input_passes x e).1) (run x) refl d
  by_verdict (refused n) e d = let z : ◌≡◌ {A = ℕ} 0 1 = cc in absurd (omega arith)

  pub ran : (value_vector x).outcome ≡ Outcome.Done s → Ran x.bound s (value_vector x)
  unfolding value_vector vector_over
  ran d = by_verdict (first_failing (input_checks x)) refl d
