-- Change request 4: the answer at a holding from what `value_vector` answered, so that one vector serves every holding. Definitions only.
use Rattle.std.specs.Prelude.{◌≡◌, ◌⊎◌, ◌↔◌, ℕ, true, List, map, ℤ, Float, Option, Result, Ok, Err}
use Rattle.elementary.specs.Float.{hex}
use Rattle.plan.specs.Plan.{bound_ok}
use Rattle.vector.specs.Values.{value_vector}
use Rattle.plan.specs.declared.RunInput.{RunInput}
use Rattle.vector.specs.declared.ValueVector.{ValueVector}
use Rattle.vector.specs.declared.Outcome.{Outcome}
use Rattle.vector.specs.declared.VectorAnswer.{VectorAnswer}
use Rattle.distances.specs.Distances.{within, exact_distances}
use Rattle.distances.specs.FloatEntry.{floats_ok, float_entry}
use Rattle.distances.specs.declared.Answer.{Answer}
use Rattle.elementary.specs.declared.Refusal.{Refusal}
use Rattle.elementary.specs.Checks.{by}

-- distances, with the steps of the vector that gave them
unfoldable pub sides_with : ℕ → Result (Option Float × Option Float) Refusal → Answer
sides_with s (Ok (b, a)) = Answer.Distances b a s
sides_with s (Err r) = Answer.Refused r

-- by the outcome: the distances at q lots, or the report or refusal that is there in the vector's place
unfoldable pub read_by : Outcome → ValueVector → Float → Float → ℤ → Answer
read_by (Outcome.Done s) v k base q = sides_with s (exact_distances v k base q)
read_by (Outcome.OverCap need b s) v k base q = Answer.OverCap need b s
read_by (Outcome.Refused r) v k base q = Answer.Refused r

unfoldable pub answer_from : VectorAnswer → Float → Float → ℤ → Answer
answer_from a k base q = read_by a.outcome a.vector k base q

-- ---- a vector whose arrays are lent by their bits
abbrev pub floats : List ℕ → List Float
floats l = map hex l

-- ==== statements
-- where its numbers pass the checks, the float entry's answer is read from the value vector of its floats
abbrev pub EntryReads : Type 0
EntryReads = (k base : Float) (x : RunInput) (q : ℤ) → floats_ok k base x ≡ true → bound_ok x.bound ≡ true → within x.bound q ≡ true
    → (float_entry k base x q).answer ≡ answer_from (value_vector x) k base q

-- an answer from a vector is refused just where that refusal is there in the vector's place, or where there is a vector and its distances are refused
abbrev pub ReadRefusals : Type 0
ReadRefusals = (a : VectorAnswer) (k base : Float) (q : ℤ) (n : ℕ)
    → (answer_from a k base q ≡ Answer.Refused (by n)) ↔ ((a.outcome ≡ Outcome.Refused (by n)) ⊎ ((s : ℕ) × (a.outcome ≡ Outcome.Done s) × (exact_distances a.vector k base q ≡ Err (by n))))
