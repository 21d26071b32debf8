-- Change request 6: the first plan's count for the float entry's numbers, and how it is tied to that entry. Each statement is proved once, in proofs/. Definitions only.
use Rattle.std.specs.Prelude.{◌≡◌, ◌↔◌, ℕ, suc, true, false, ℤ, Float}
use Rattle.std.specs.Float.Ieee.{lt}
use Rattle.elementary.specs.Float.{0ᶠ}
use Rattle.elementary.specs.Elementary.{outside}
use Rattle.elementary.specs.Checks.{first_failing, by}
use Rattle.vector.specs.Refusals.{configuration}
use Rattle.series.specs.Refusals.{numerical}
use Rattle.vector.specs.Run.{going, cap, bound_ok, run_on, fixed}
use Rattle.plan.specs.Count.{plan_ahead, plan_if, FirstIs, FirstGoes}
use Rattle.plan.specs.declared.RunInput.{RunInput}
use Rattle.plan.specs.declared.FirstPlan.{FirstPlan}
use Rattle.distances.specs.Refusals.{holding}
use Rattle.distances.specs.Distances.{within}
use Rattle.distances.specs.FloatEntry.{answer_by, floats_ok, entry_checks, float_entry, float_steps}
use Rattle.distances.specs.declared.Answer.TheVariants as Answer

-- the float entry's checks, and a first plan
unfoldable pub count_over : FirstPlan → Float → Float → RunInput → ℤ → FirstPlan
count_over p k base x q = plan_if (first_failing (entry_checks k base x q)) p

-- that of its run
unfoldable pub step_count : Float → Float → RunInput → ℤ → FirstPlan
step_count k base x q = count_over (plan_ahead x) k base x q

-- ---- each reply has its one cause, in order: the floats, the bound, the holding, and what the first plan is
pub data CountIs (k base : Float) (x : RunInput) (q : ℤ) : FirstPlan → Type 0 where
  at_5 : floats_ok k base x ≡ false → CountIs k base x q (FirstPlan.Refused (by outside))
  at_1 : floats_ok k base x ≡ true → bound_ok x.bound ≡ false → CountIs k base x q (FirstPlan.Refused (by configuration))
  at_4 : floats_ok k base x ≡ true → bound_ok x.bound ≡ true → within x.bound q ≡ false → CountIs k base x q (FirstPlan.Refused (by holding))
  counted : {r : FirstPlan} → floats_ok k base x ≡ true → bound_ok x.bound ≡ true → within x.bound q ≡ true → FirstIs x r → CountIs k base x q r

abbrev pub StepCounts : Type 0
StepCounts = (k base : Float) (x : RunInput) (q : ℤ) (r : FirstPlan) → (step_count k base x q ≡ r) ↔ CountIs k base x q r

-- ---- the count is the first plan of the float entry's run
pub record CountIsFirstPlan : Type 0 where
  -- over the cap: the entry reports just that, no step being spent; and a report with none spent is the count's
  pub over : (k base : Float) (x : RunInput) (q : ℤ) (need : Float) (b : ℕ) → (step_count k base x q ≡ FirstPlan.OverCap need b) ↔ ((float_entry k base x q).answer ≡ Answer.OverCap need b 0)
  -- a count above zero: the run begins with a plan of so many steps, and the entry answers from that run
  pub steps : (k base : Float) (x : RunInput) (q : ℤ) (s : ℕ) → step_count k base x q ≡ FirstPlan.Steps (suc s)
      → (f : FirstGoes x (suc s)) × (float_entry k base x q ≡ answer_by x.bound k base q (run_on cap (fixed x) (going f.plan)))
  -- none: no time is left, and the run takes no step
  pub none : (k base : Float) (x : RunInput) (q : ℤ) → step_count k base x q ≡ FirstPlan.Steps 0 → (lt 0ᶠ x.tau ≡ false) × (float_steps k base x q ≡ 0)
  -- a refusal, 11 among them: the entry refuses by it, before any step; and what the entry refuses by another number than 11, so does the count
  pub refused : (k base : Float) (x : RunInput) (q : ℤ) (n : ℕ) → step_count k base x q ≡ FirstPlan.Refused (by n)
      → ((float_entry k base x q).answer ≡ Answer.Refused (by n)) × (float_steps k base x q ≡ 0)
  pub alike : (k base : Float) (x : RunInput) (q : ℤ) (n : ℕ) → (n ≡ numerical → ⊥) → (float_entry k base x q).answer ≡ Answer.Refused (by n)
      → step_count k base x q ≡ FirstPlan.Refused (by n)
