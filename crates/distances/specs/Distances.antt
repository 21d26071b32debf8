-- Document 01, module 4, its float side: the distances at one holding, from a value vector. Definitions only.
use Rattle.std.specs.Prelude.{ℕ, zero, suc, ◌/◌, Bool, true, false, ◌&&◌, List, [], ◌∷◌, ℤ, pos, nat_abs, ◌+ℤ◌, ltb, leb, eqb, Float, Option, Some, None, Result, Ok, Err}
use Rattle.elementary.specs.Float.{◌⊕◌, ◌⊖◌, ◌⊘◌, finite, positive}
use Rattle.elementary.specs.Elementary.{LN, outside, or_nan}
use Rattle.elementary.specs.Checks.{Verdict, passes, refused, first_failing, by}
use Rattle.vector.specs.Refusals.{configuration}
use Rattle.series.specs.Refusals.{numerical}
use Rattle.operator.specs.Vectors.{at}
use Rattle.plan.specs.Plan.{bound_ok}
use Rattle.operator.specs.Operator.{rows}
use Rattle.vector.specs.declared.ValueVector.{ValueVector}
use Rattle.distances.specs.Refusals.{holding}
use Rattle.elementary.specs.declared.Refusal.{Refusal}

-- ---- the holding
-- q lots are no more than the bound in magnitude
abbrev pub within : ℕ → ℤ → Bool
within bound q = leb (nat_abs q) bound

-- the place of q lots: q + bound
unfoldable pub place : ℕ → ℤ → ℕ
place bound q = nat_abs (q +ℤ pos bound)

-- ---- a vector whose arrays are lent: its length, its weights and its offsets
abbrev pub lent : ℕ → List Float → List Float → ValueVector
lent n w o = record { w = w; log_offset = o; n = n }

-- ---- the distances
-- ((LN w_i - LN w_j) + (o_i - o_j)) / k + base; a NaN where LN refuses a weight
unfoldable pub distance : ValueVector → Float → Float → ℕ → ℕ → Float
distance v k base i j =
    (or_nan (LN (at v.w i)) ⊖ or_nan (LN (at v.w j)) ⊕ (at v.log_offset i ⊖ at v.log_offset j)) ⊘ k ⊕ base

-- the bid's leads one place up, where there is one; the ask's one down
unfoldable pub bid_at : Bool → ValueVector → Float → Float → ℕ → Option Float
bid_at false v k base i = None
bid_at true v k base i = Some (distance v k base i (suc i))

unfoldable pub ask_at : ValueVector → Float → Float → ℕ → Option Float
ask_at v k base zero = None
ask_at v k base (suc i) = Some (distance v k base (suc i) i)

-- no such side, or a finite distance
unfoldable pub fine : Option Float → Bool
fine None = true
fine (Some d) = finite d

-- both sides, where both are fine, or 11
unfoldable pub sides : Bool → Option Float → Option Float → Result (Option Float × Option Float) Refusal
sides false b a = Err (by numerical)
sides true b a = Ok (b, a)

unfoldable pub exact_at : ValueVector → Float → Float → ℕ → Result (Option Float × Option Float) Refusal
exact_at v k base i =
    let b = bid_at (ltb (suc i) v.n) v k base i in
    let a = ask_at v k base i in
    sides (fine b && fine a) b a

-- ---- the distances at q from a vector, by the checks
-- a length of 2 × bound + 1 for a bound of 1 to 200
unfoldable pub length_ok : ℕ → Bool
length_ok n = bound_ok (n / 2) && eqb n (rows (n / 2))

-- in order: k and base finite and above zero, the length, the holding
abbrev pub distance_checks : ValueVector → Float → Float → ℤ → List (Bool × ℕ)
distance_checks v k base q = (positive k && positive base, outside) ∷ (length_ok v.n, configuration) ∷ (within (v.n / 2) q, holding) ∷ []

unfoldable pub distances_if : Verdict → Result (Option Float × Option Float) Refusal → Result (Option Float × Option Float) Refusal
distances_if passes s = s
distances_if (refused n) s = Err (by n)

unfoldable pub exact_distances : ValueVector → Float → Float → ℤ → Result (Option Float × Option Float) Refusal
exact_distances v k base q = distances_if (first_failing (distance_checks v k base q)) (exact_at v k base (place (v.n / 2) q))
