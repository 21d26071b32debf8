-- Document 01, module 4: the float entry, which gives the value vector, the steps spent and the present distances, or the cap report. Definitions only.
use Rattle.std.specs.Prelude.{ℕ, ◌-◌, Bool, ◌&&◌, List, [], ◌∷◌, ℤ, Float, Option, Result, Ok, Err}
use Rattle.elementary.specs.Float.{positive}
use Rattle.elementary.specs.Elementary.{outside}
use Rattle.elementary.specs.Checks.{Verdict, passes, refused, first_failing, by}
use Rattle.vector.specs.Refusals.{configuration}
use Rattle.series.specs.Refusals.{numerical}
use Rattle.vector.specs.Run.{Ended, vector, over_cap, failed, cap, bound_ok, run, spent}
use Rattle.operator.specs.Operator.{rows}
use Rattle.plan.specs.Input.{rates_ok}
use Rattle.vector.specs.Values.{vector_of, blank_vector}
use Rattle.plan.specs.declared.RunInput.{RunInput}
use Rattle.vector.specs.declared.ValueVector.{ValueVector}
use Rattle.distances.specs.Refusals.{holding}
use Rattle.distances.specs.Distances.{within, place, exact_at}
use Rattle.distances.specs.declared.Answer.{Answer}
use Rattle.distances.specs.declared.FloatAnswer.{FloatAnswer}
use Rattle.elementary.specs.declared.Refusal.{Refusal}

-- a refusal
unfoldable pub refused_entry : Refusal → FloatAnswer
refused_entry r = record { answer = Answer.Refused r; vector = blank_vector }

-- the distances with the steps and the vector that gave them; under a refusal the vector is the blank one
unfoldable pub with_vector : ValueVector → ℕ → Result (Option Float × Option Float) Refusal → FloatAnswer
with_vector v s (Ok (b, a)) = record { answer = Answer.Distances b a s; vector = v }
with_vector v s (Err r) = refused_entry r

-- by the run's end
unfoldable pub answer_by : ℕ → Float → Float → ℤ → Ended → FloatAnswer
answer_by bound k base q (vector w o s) = let v = vector_of (rows bound) w o in with_vector v s (exact_at v k base (place bound q))
answer_by bound k base q (over_cap need b) = record { answer = Answer.OverCap need b (cap - b); vector = blank_vector }
answer_by bound k base q (failed s) = refused_entry (by numerical)

-- ---- the checks
-- k, base, alpha and eta finite and above zero, beta and tau finite
unfoldable pub floats_ok : Float → Float → RunInput → Bool
floats_ok k base x = positive k && positive base && rates_ok x

-- in order: the floats, the bound, the holding
abbrev pub entry_checks : Float → Float → RunInput → ℤ → List (Bool × ℕ)
entry_checks k base x q = (floats_ok k base x, outside) ∷ (bound_ok x.bound, configuration) ∷ (within x.bound q, holding) ∷ []

-- ---- the reply, by the checks and a run's end
unfoldable pub entry_if : Verdict → FloatAnswer → FloatAnswer
entry_if passes a = a
entry_if (refused n) a = refused_entry (by n)

unfoldable pub entry_over : Ended → Float → Float → RunInput → ℤ → FloatAnswer
entry_over e k base x q = entry_if (first_failing (entry_checks k base x q)) (answer_by x.bound k base q e)

unfoldable pub float_entry : Float → Float → RunInput → ℤ → FloatAnswer
float_entry k base x q = entry_over (run x) k base x q

-- ---- the finished steps of the run that the entry defines, under a refusal too: none where no run begins
unfoldable pub steps_if : Verdict → ℕ → ℕ
steps_if passes s = s
steps_if (refused n) s = 0

unfoldable pub steps_over : Ended → Float → Float → RunInput → ℤ → ℕ
steps_over e k base x q = steps_if (first_failing (entry_checks k base x q)) (spent e)

unfoldable pub float_steps : Float → Float → RunInput → ℤ → ℕ
float_steps k base x q = steps_over (run x) k base x q
