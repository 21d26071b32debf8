-- Change request 6: the first plan of a run, before anything runs; that two rows are enough for it where there is no drift; and each reply's cause. Each statement is proved once, in proofs/. Definitions only.
use Rattle.std.specs.Prelude.{◌≡◌, ℕ, ◌-◌, ◌≤◌, Bool, true, false, T, ◌↔◌, pos, Float}
use Rattle.std.specs.Float.Ieee.{eq, lt, le, to_unsigned}
use Rattle.elementary.specs.Float.{◌⊕◌, ◌⊗◌, whole, 0ᶠ, 1ᶠ, 2ᶠ, positive}
use Rattle.elementary.specs.Elementary.{outside}
use Rattle.elementary.specs.Checks.{Verdict, passes, refused, first_failing, by}
use Rattle.plan.specs.Refusals.{configuration}
use Rattle.series.specs.Refusals.{numerical}
use Rattle.operator.specs.Vectors.{tab, fill, larger}
use Rattle.operator.specs.Operator.{left_at, right_at}
use Rattle.plan.specs.Plan.{vector, over_cap, failed, Fixed, Going, Turn, going, ended, cap, bound_ok, norm, needed, diagonal_finite, first_turn, fixed}
use Rattle.plan.specs.Input.{rates_ok, input_checks}
use Rattle.plan.specs.declared.RunInput.{RunInput}
use Rattle.plan.specs.declared.FirstPlan.{FirstPlan}

-- ---- by where the run begins: the steps planned; the steps needed and the budget left; or 11. None begins with a vector.
unfoldable pub plan_in : Turn → FirstPlan
plan_in (going g) = FirstPlan.Steps g.steps
plan_in (ended (over_cap need b)) = FirstPlan.OverCap need b
plan_in (ended (failed s)) = FirstPlan.Refused (by numerical)
plan_in (ended (vector w o s)) = FirstPlan.Steps s

-- is there time left; else nothing is planned
unfoldable pub plan_when : Bool → Turn → FirstPlan
plan_when false t = FirstPlan.Steps 0
plan_when true t = plan_in t

-- of the run from x
unfoldable pub plan_ahead : RunInput → FirstPlan
plan_ahead x = plan_when (lt 0ᶠ x.tau) (first_turn (fixed x) x.tau)

-- ---- the reply, by the checks and the plan
unfoldable pub plan_if : Verdict → FirstPlan → FirstPlan
plan_if passes p = p
plan_if (refused n) p = FirstPlan.Refused (by n)

unfoldable pub plan_over : FirstPlan → RunInput → FirstPlan
plan_over p x = plan_if (first_failing (input_checks x)) p

unfoldable pub first_plan : RunInput → FirstPlan
first_plan x = plan_over (plan_ahead x) x

-- ---- the norm of the first plan, over all rows, no offset having moved from 0.0; and tau times it
abbrev pub first_norm : Fixed → Float
first_norm p = norm p (tab p.n (left_at (fill p.n 0ᶠ))) (tab p.n (right_at p.n (fill p.n 0ᶠ)))

abbrev pub first_size : RunInput → Float
first_size x = x.tau ⊗ first_norm (fixed x)

-- ---- without a drift, either zero, two rows are enough for it; else all rows are read
-- the sum of a row of so many lots, long or short, whose two factors add up to f
unfoldable pub row_sum : Float → Float → ℕ → Float → Float
row_sum alpha eta lots f = let q = whole (pos lots) in alpha ⊗ q ⊗ q ⊕ 2ᶠ ⊗ eta ⊕ eta ⊗ f

-- the end row, which has one neighbour, or the row next to it, which has two, has the largest sum
abbrev pub TwoRows : Type 0
TwoRows = (x : RunInput) → bound_ok x.bound ≡ true → positive x.alpha ≡ true → eq x.beta 0ᶠ ≡ true → positive x.eta ≡ true
    → first_norm (fixed x) ≡ larger (row_sum x.alpha x.eta x.bound 1ᶠ) (row_sum x.alpha x.eta (x.bound - 1) 2ᶠ)

-- ---- each reply has its one cause
-- where the floats and the bound pass: no time is left; an entry of the diagonal is not finite; tau × norm is not finite and positive; the steps needed are above the budget; or they are within it
pub data FirstIs (x : RunInput) : FirstPlan → Type 0 where
  no_time : lt 0ᶠ x.tau ≡ false → FirstIs x (FirstPlan.Steps 0)
  not_finite : lt 0ᶠ x.tau ≡ true → diagonal_finite (fixed x) ≡ false → FirstIs x (FirstPlan.Refused (by numerical))
  fails : lt 0ᶠ x.tau ≡ true → diagonal_finite (fixed x) ≡ true → positive (first_size x) ≡ false → FirstIs x (FirstPlan.Refused (by numerical))
  over : lt 0ᶠ x.tau ≡ true → diagonal_finite (fixed x) ≡ true → positive (first_size x) ≡ true
      → T (lt (whole (pos cap)) (needed (first_size x))) → FirstIs x (FirstPlan.OverCap (needed (first_size x)) cap)
  kept : lt 0ᶠ x.tau ≡ true → diagonal_finite (fixed x) ≡ true → positive (first_size x) ≡ true
      → T (le (needed (first_size x)) (whole (pos cap))) → FirstIs x (FirstPlan.Steps (to_unsigned 32 (needed (first_size x))))

-- in order: the floats, the bound, and what the plan is
pub data FirstPlanIs (x : RunInput) : FirstPlan → Type 0 where
  by_5 : rates_ok x ≡ false → FirstPlanIs x (FirstPlan.Refused (by outside))
  by_1 : rates_ok x ≡ true → bound_ok x.bound ≡ false → FirstPlanIs x (FirstPlan.Refused (by configuration))
  passed : {r : FirstPlan} → rates_ok x ≡ true → bound_ok x.bound ≡ true → FirstIs x r → FirstPlanIs x r

abbrev pub FirstPlans : Type 0
FirstPlans = (x : RunInput) (r : FirstPlan) → (first_plan x ≡ r) ↔ FirstPlanIs x r

-- ---- a run begins with a plan of s steps, which keep the budget
pub record FirstGoes (x : RunInput) (s : ℕ) : Type 0 where
  pub time : lt 0ᶠ x.tau ≡ true
  pub plan : Going
  pub first : first_turn (fixed x) x.tau ≡ going plan
  pub steps : plan.steps ≡ s
  pub within : s ≤ cap
