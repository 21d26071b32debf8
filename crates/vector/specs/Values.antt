-- Document 01, module 3: the value vector's reply. Definitions only.
use Rattle.std.specs.Prelude.{ℕ, ◌-◌, List, ◌++◌, Float}
use Rattle.elementary.specs.Float.{0ᶠ}
use Rattle.elementary.specs.Checks.{Verdict, passes, refused, first_failing, by}
use Rattle.elementary.specs.declared.Refusal.{Refusal}
use Rattle.series.specs.Refusals.{numerical}
use Rattle.operator.specs.Vectors.{fill}
use Rattle.plan.specs.Plan.{Ended, vector, over_cap, failed, cap, room}
use Rattle.plan.specs.Input.{input_checks}
use Rattle.vector.specs.Run.{run}
use Rattle.operator.specs.Operator.{rows}
use Rattle.plan.specs.declared.RunInput.{RunInput}
use Rattle.vector.specs.declared.ValueVector.{ValueVector}
use Rattle.vector.specs.declared.Outcome.{Outcome}
use Rattle.vector.specs.declared.VectorAnswer.{VectorAnswer}

-- ---- the value vector: its two arrays of 401 floats and its length
-- n entries, and 0.0 in every place after them
unfoldable pub padded : ℕ → List Float → List Float
padded n l = l ++ fill (room - n) 0ᶠ

unfoldable pub vector_of : ℕ → List Float → List Float → ValueVector
vector_of n w o = record { w = padded n w; log_offset = padded n o; n = n }

unfoldable pub blank_vector : ValueVector
blank_vector = record { w = fill room 0ᶠ; log_offset = fill room 0ᶠ; n = 0 }

-- a refusal
unfoldable pub refused_vector : Refusal → VectorAnswer
refused_vector r = record { outcome = Outcome.Refused r; vector = blank_vector }

unfoldable pub vector_by : ℕ → Ended → VectorAnswer
vector_by n (vector w o s) = record { outcome = Outcome.Done s; vector = vector_of n w o }
vector_by n (over_cap need b) = record { outcome = Outcome.OverCap need b (cap - b); vector = blank_vector }
vector_by n (failed s) = refused_vector (by numerical)

-- ---- the reply, by the checks and the run
unfoldable pub vector_if : Verdict → VectorAnswer → VectorAnswer
vector_if passes a = a
vector_if (refused n) a = refused_vector (by n)

unfoldable pub vector_over : Ended → RunInput → VectorAnswer
vector_over e x = vector_if (first_failing (input_checks x)) (vector_by (rows x.bound) e)

unfoldable pub value_vector : RunInput → VectorAnswer
value_vector x = vector_over (run x) x
