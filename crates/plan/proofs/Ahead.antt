-- The first plan: every factor being finite, its norm decides; and so each reply has its one cause. Assumes nothing.
use Rattle.std.proofs.Common.{◌≡◌, ℕ, Bool, true, false, ◌↔◌, List, pos, refl, ap, ◌∙◌, subst}
use lib.Dec.{not_T}
use lib.Ieee.{Float, lt, le}
use lib.Ieee.Bits.{is_true, is_false}
use Rattle.elementary.specs.Float.{◌⊗◌, whole, 0ᶠ, 1ᶠ, finite, positive}
use Rattle.elementary.specs.Checks.{Verdict, passes, refused, first_failing, Refuses, here, by}
use Rattle.elementary.specs.Checks as Checks
use Rattle.elementary.proofs.Checks.{first_failing_lem}
use Rattle.elementary.proofs.Order.{lt→not_ge}
use Rattle.series.specs.Refusals.{numerical}
use Rattle.operator.specs.Vectors.{tab, at, fill, every}
use Rattle.operator.specs.Operator.{diagonal_at, left_at, right_at, rows}
use Rattle.plan.specs.Plan.{Fixed, fixed_over, Turn, cap, needed, start, begin, whole_plan, diagonal_finite, first_if, first_turn, fixed, plan_by, plan_for, plan_of}
use Rattle.plan.specs.Input.{input_checks}
use Rattle.plan.specs.Count.{plan_in, plan_when, plan_if, first_plan, first_norm, first_size, FirstIs, no_time, not_finite, fails, over, kept, FirstPlanIs, by_5, by_1, passed, FirstPlans, plan_ahead, plan_over}
use Rattle.plan.specs.Inner.{ahead_of}
use Rattle.plan.specs.declared.RunInput.{RunInput}
use Rattle.plan.specs.declared.FirstPlan.{FirstPlan}
use Rattle.plan.proofs.Bounds.{input_passes, rates_refused, bound_refused, all_passed}
use Rattle.plan.proofs.Begun.{Any, TurnOk, begin_ok}
use Rattle.plan.proofs.Rows.{factors_fine}

-- ---- where a run begins whose diagonal is finite, by the two tests of its plan
module _ (p : Fixed) (tau : Float) where
  abbrev pub size_of : Float
  size_of = tau ⊗ first_norm p

  abbrev pub begun : Bool → Bool → Turn
  begun t c = start t c cap (fill p.n 1ᶠ) (fill p.n 0ᶠ) (tab p.n (left_at (fill p.n 0ᶠ))) (tab p.n (right_at p.n (fill p.n 0ᶠ))) tau (needed size_of)

  pub begins : (t : Bool) → positive size_of ≡ t → whole_plan p tau ≡ begun t (le (needed size_of) (whole (pos cap)))
  unfolding begin
  begins t e = rw (factors_fine p.n, e)

  pub first_begins : diagonal_finite p ≡ true → (t : Bool) → positive size_of ≡ t → first_turn p tau ≡ begun t (le (needed size_of) (whole (pos cap)))
  unfolding first_if
  first_begins d t e = rw d (begins t e)

  planned : (c : Bool) → plan_in (begun true c) ≡ ahead_of (plan_by true c tau (needed size_of))
  unfolding start plan_in ahead_of plan_by
  planned true = refl
  planned false = refl

  pub ahead_is : positive size_of ≡ true → plan_in (whole_plan p tau) ≡ ahead_of (plan_for size_of tau cap)
  unfolding plan_for
  ahead_is e = ap plan_in (begins true e) ∙ planned (le (needed size_of) (whole (pos cap)))

  pub ahead_fails : positive size_of ≡ false → plan_in (whole_plan p tau) ≡ FirstPlan.Refused (by numerical)
  unfolding start plan_in
  ahead_fails e = ap plan_in (begins false e)

  pub ahead_of_lem : (left right : List Float) → left ≡ tab p.n (left_at (fill p.n 0ᶠ)) → right ≡ tab p.n (right_at p.n (fill p.n 0ᶠ))
      → plan_in (whole_plan p tau) ≡ ahead_of (plan_of p cap left right tau)
  unfolding plan_of plan_by plan_for ahead_of
  ahead_of_lem left right el er = rw (el, er) (go (positive size_of) refl)
    where
      go : (t : Bool) → positive size_of ≡ t → plan_in (whole_plan p tau) ≡ ahead_of (plan_by t (le (needed size_of) (whole (pos cap))) tau (needed size_of))
      go true e = ahead_is e
      go false e = ahead_fails e

-- all rows of a diagonal, by whether it is finite
module _ (x : RunInput) where
  abbrev entries : List Float
  entries = tab (rows x.bound) (diagonal_at x.bound x.alpha x.beta x.eta)

  abbrev rows_finite : Bool
  rows_finite = every (rows x.bound) (λ i. finite (at entries i))

  pub all_rows : (d : List Float) → d ≡ entries → rows_finite ≡ true → plan_in (whole_plan (fixed_over (rows x.bound) d x.eta) x.tau) ≡ plan_in (first_turn (fixed x) x.tau)
  unfolding fixed first_if
  all_rows d e f = rw (f, e)

  pub no_rows : rows_finite ≡ false → FirstPlan.Refused (by numerical) ≡ plan_in (first_turn (fixed x) x.tau)
  unfolding fixed first_if plan_in
  no_rows f = rw f

module _ (x : RunInput) where
  abbrev p : Fixed
  p = fixed x

  abbrev tau : Float
  tau = x.tau

  abbrev size : Float
  size = first_size x

  -- ---- the reply has its cause
  caused : lt 0ᶠ tau ≡ true → FirstIs x (plan_in (first_turn p tau))
  unfolding start plan_in first_if
  caused l = go (diagonal_finite p) (positive size) (le (needed size) (whole (pos cap))) refl refl refl
    where
      go : (d t c : Bool) → diagonal_finite p ≡ d → positive size ≡ t → le (needed size) (whole (pos cap)) ≡ c → FirstIs x (plan_in (first_if d p tau))
      go false t c ed et ec = not_finite l ed
      go true false c ed et ec = rw (begins p tau false et) (fails l ed et)
      go true true false ed et ec = rw (begins p tau true et, ec) (over l ed et (subst (TurnOk cap Any) (begins p tau true et ∙ ap (begun p tau true) ec) (begin_ok Any p cap (fill p.n 1ᶠ) (fill p.n 0ᶠ) tau tt)).1)
      go true true true ed et ec = rw (begins p tau true et, ec) (kept l ed et (rw ec tt))

  first_caused : (t : Bool) → lt 0ᶠ tau ≡ t → FirstIs x (plan_when t (first_turn p tau))
  unfolding plan_when
  first_caused false l = no_time l
  first_caused true l = caused l

  -- and each cause its reply
  first_is : {r : FirstPlan} → FirstIs x r → plan_ahead x ≡ r
  unfolding plan_ahead plan_when start plan_in first_if
  first_is (no_time l) = rw l
  first_is (not_finite l d) = rw (l, d)
  first_is (fails l d e) = rw (l, first_begins p tau d false e)
  first_is (over l d e h) =
      rw (l, first_begins p tau d true e, is_false (le (needed size) (whole (pos cap))) (not_T (le (needed size) (whole (pos cap))) (lt→not_ge (whole (pos cap)) (needed size) h)))
  first_is (kept l d e h) = rw (l, first_begins p tau d true e, is_true (le (needed size) (whole (pos cap))) h)

  pub first_when : (r : FirstPlan) → (plan_ahead x ≡ r) ↔ FirstIs x r
  unfolding plan_ahead
  first_when r = (λ e. subst (FirstIs x) e (first_caused (lt 0ᶠ tau) refl), first_is)

pub first_plans : FirstPlans
unfolding first_plan plan_over plan_if
first_plans x r = (to (first_failing (input_checks x)) refl, from r)
  where
    checked : (n : ℕ) → Refuses (input_checks x) n → FirstPlanIs x (FirstPlan.Refused (by n))
    checked n (here f) = by_5 f
    checked n (Checks.later f (here b)) = by_1 f b
    checked n (Checks.later f (Checks.later _ x)) = elim x [ ]

    to : (v : Verdict) → first_failing (input_checks x) ≡ v → plan_if v (plan_ahead x) ≡ r → FirstPlanIs x r
    to passes t e = let (f, b) = input_passes x t in passed f b ((first_when x r).0 e)
    to (refused n) t e = subst (FirstPlanIs x) e (checked n ((first_failing_lem (input_checks x) n).0 t))

    from : (r : FirstPlan) → FirstPlanIs x r → plan_if (first_failing (input_checks x)) (plan_ahead x) ≡ r
    from r (by_5 f) = rw (rates_refused x f)
    from r (by_1 f b) = rw (bound_refused x f b)
    from r (passed f b c) = rw (all_passed x f b) ((first_when x r).1 c)
