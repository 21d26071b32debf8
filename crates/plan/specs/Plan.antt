-- Document 01, module 3: the norm, the plan, and where a run begins. Definitions only.
use Rattle.std.specs.Prelude.{ℕ, ◌-◌, Bool, true, false, cond, ◌&&◌, List, length, pos, nat_le, Float}
use Rattle.std.specs.Float.Ieee.{le, to_unsigned}
use Rattle.elementary.specs.Float.{◌⊕◌, ◌⊗◌, ◌⊘◌, whole, 0ᶠ, 1ᶠ, 2ᶠ, finite, positive}
use Rattle.elementary.specs.Elementary.{CEIL, or_nan}
use Rattle.operator.specs.Vectors.{tab, at, fill, every, fold, larger, abs}
use Rattle.operator.specs.Operator.{rows, diagonal_at, left_at, right_at}
use Rattle.operator.specs.Slices.{both_sized}
use Rattle.plan.specs.declared.RunInput.{RunInput}
use Rattle.plan.specs.declared.plan.Planned.{Planned}

-- the step budget, the largest bound, and the places of a vector's arrays
abbrev pub cap : ℕ
cap = 11000

abbrev pub largest_bound : ℕ
largest_bound = 200

abbrev pub room : ℕ
room = 401

abbrev pub bound_ok : ℕ → Bool
bound_ok b = nat_le 1 b && nat_le b largest_bound

-- The end of a run: weights, offsets and the steps spent; or the steps needed and the budget left; or refusal 11 after so many finished steps.
pub data Ended : Type 0 where
  vector : List Float → List Float → ℕ → Ended
  over_cap : Float → ℕ → Ended
  failed : ℕ → Ended

-- what stays through a run; the sizes are what the norm takes of the diagonal
pub record Fixed : Type 0 where
  pub n : ℕ
  pub diagonal : List Float
  pub sizes : List Float
  pub eta : Float

-- over n rows: the magnitude of each entry of the diagonal
unfoldable pub magnitudes : ℕ → List Float → List Float
magnitudes n d = tab n (λ i. abs (at d i))

abbrev pub fixed_over : ℕ → List Float → Float → Fixed
fixed_over n d eta = record { n = n; diagonal = d; sizes = magnitudes n d; eta = eta }

-- a run between two steps: so many of length dt are planned for the time that remains
pub record Going : Type 0 where
  pub w : List Float
  pub o : List Float
  pub left : List Float
  pub right : List Float
  pub dt : Float
  pub remaining : Float
  pub steps : ℕ

pub data Turn : Type 0 where
  going : Going → Turn
  ended : Ended → Turn

-- ---- the plan
-- the largest over all rows of the diagonal's magnitude + eta × (left + right)
unfoldable pub norm : Fixed → List Float → List Float → Float
norm p left right = fold larger 0ᶠ (tab p.n (λ i. at p.sizes i ⊕ p.eta ⊗ (at left i ⊕ at right i)))

-- time × norm / 2.0, rounded up, at least 1.0
unfoldable pub needed : Float → Float
needed size = larger (or_nan (CEIL (size ⊘ 2ᶠ))) 1ᶠ

-- With b steps of the budget left: is time × norm finite and positive, does the plan keep the budget.
unfoldable pub start : Bool → Bool → ℕ → List Float → List Float → List Float → List Float → Float → Float → Turn
start false c b w o left right rest need = ended (failed (cap - b))
start true false b w o left right rest need = ended (over_cap need b)
start true true b w o left right rest need =
    going (record { w = w; o = o; left = left; right = right; dt = rest ⊘ need; remaining = rest; steps = to_unsigned 32 need })

-- new factors, all of them finite, and a plan for the rest of the time
unfoldable pub begin : Fixed → ℕ → List Float → List Float → Float → Turn
begin p b w o rest =
    let left = tab p.n (left_at o) in
    let right = tab p.n (right_at p.n o) in
    let size = rest ⊗ norm p left right in
    start (every p.n (λ i. finite (at left i) && finite (at right i)) && positive size) (le (needed size) (whole (pos b))) b w o left right rest (needed size)

-- ---- the first plan
unfoldable pub fixed : RunInput → Fixed
fixed x = fixed_over (rows x.bound) (tab (rows x.bound) (diagonal_at x.bound x.alpha x.beta x.eta)) x.eta

-- where a run begins: the first plan, over all rows and with the whole budget
abbrev pub whole_plan : Fixed → Float → Turn
whole_plan p tau = begin p cap (fill p.n 1ᶠ) (fill p.n 0ᶠ) tau

-- is every entry of the diagonal finite
abbrev pub diagonal_finite : Fixed → Bool
diagonal_finite p = every p.n (λ i. finite (at p.diagonal i))

unfoldable pub first_if : Bool → Fixed → Float → Turn
first_if false p tau = ended (failed 0)
first_if true p tau = whole_plan p tau

abbrev pub first_turn : Fixed → Float → Turn
first_turn p tau = first_if (diagonal_finite p) p tau

-- ---- the plan alone, as the code hands it on: is time × norm finite and positive, does it keep the budget
unfoldable pub plan_by : Bool → Bool → Float → Float → Planned
plan_by false c rest need = Planned.Refused
plan_by true false rest need = Planned.OverCap need
plan_by true true rest need = Planned.Steps (to_unsigned 32 need) (rest ⊘ need)

unfoldable pub plan_for : Float → Float → ℕ → Planned
plan_for size rest b = plan_by true (le (needed size) (whole (pos b))) rest (needed size)

unfoldable pub plan_of : Fixed → ℕ → List Float → List Float → Float → Planned
plan_of p b left right rest =
    let size = rest ⊗ norm p left right in plan_by (positive size) (le (needed size) (whole (pos b))) rest (needed size)

-- over slices: the plan, where each factor's is as long as the diagonal's; else it is refused
unfoldable pub plan_with : Float → List Float → Float → List Float → List Float → ℕ → Planned
plan_with rest d eta left right b = cond (both_sized (length d) (length left) (length right)) (plan_of (fixed_over (length d) d eta) b left right rest) Planned.Refused
