-- A desk's plan is the count of its model's floats, so what ties that to the float entry ties it to the exact quotes. Assumes nothing.
use Rattle.std.specs.Prelude.{Result, Ok, Err}
use Rattle.std.proofs.Common.{◌≡◌, ℕ, suc, Bool, true, false, ◌&&◌, ◌↔◌, ℤ, sym, refl, ◌∙◌, arith}
use mathlib.Core.Logic.Iff
use lib.Ieee.{Float, lt}
use Rattle.elementary.specs.Float.{0ᶠ, positive}
use Rattle.vector.specs.Refusals.{numerical}
use Rattle.plan.specs.Plan.{bound_ok, diagonal_finite, fixed}
use Rattle.plan.specs.Count.{first_size, FirstIs, no_time, not_finite, fails, over, kept, FirstGoes}
use Rattle.plan.specs.declared.RunInput.{RunInput}
use Rattle.plan.specs.declared.FirstPlan.{FirstPlan}
use Rattle.distances.specs.Distances.{within}
use Rattle.distances.specs.FloatEntry.{floats_ok}
use Rattle.distances.specs.Count.{step_count, CountIs, at_5, at_1, at_4, counted}
use Rattle.distances.specs.declared.Answer.{Answer}
use Rattle.distances.proofs.Refusing.{never}
use Rattle.distances.proofs.Count.{step_counts, count_is_first_plan}
use Rattle.amounts.specs.Amounts.{tau_of}
use Rattle.model.specs.Model.{lots, model_of, model_from, model_by, input_of, exact_checks, exact_model}
use Rattle.prices.specs.Prices.{build_quotes}
use Rattle.quote.specs.Horizon.{plan_from, desk_plan, DeskPlanIsFirst, DeskPlanRefusals}
use Rattle.quote.specs.Quotes.{exact_from, exact_answer, with_steps, exact_by, exact_quotes, steps_from, exact_steps}
use Rattle.model.specs.declared.GLFTConfig.{GLFTConfig}
use Rattle.model.specs.declared.Model.{Model}
use Rattle.quote.specs.declared.ExactQuotes.TheVariants as ExactQuotes
use Rattle.model.proofs.Passed.{exact_passed, bound_passed, lots_passed, tau_passed, floats_passed}
use Rattle.quote.proofs.Refusing.{after_checks, late, right}
use Rattle.elementary.specs.declared.Refusal.{Refusal}
use Rattle.elementary.specs.Checks.{by}
use Rattle.prices.specs.declared.GlftQuotes.{GlftQuotes}
use Rattle.elementary.proofs.Checks.{same_number}

-- ---- the report of an exact call is that of its answer
judged_report : (s : ℕ) (j : Result GlftQuotes Refusal) (need : Float) (b : ℕ) → with_steps s j ≡ ExactQuotes.OverStepCap need b 0 → ◌≡◌ {A = ℕ} 0 1
unfolding with_steps
judged_report s (Ok q) need b e = cc
judged_report s (Err r) need b e = cc

report_of : (mid least : ℤ) (a : Answer) (need : Float) (b : ℕ) → exact_by mid least a ≡ ExactQuotes.OverStepCap need b 0 → a ≡ Answer.OverCap need b 0
unfolding exact_by
report_of mid least (Answer.Distances x y s) need b e = let z = judged_report s (build_quotes mid least x y) need b e in absurd (omega arith)
report_of mid least (Answer.OverCap n l s) need b e = cc
report_of mid least (Answer.Refused r) need b e = let z : ◌≡◌ {A = ℕ} 0 1 = cc in absurd (omega arith)

module _ (mid h : ℤ) (c : GLFTConfig) (vol : ℤ) (t : ℕ) where
  tau : Float
  tau = tau_of c.terminal_time t

  -- by the model that the call has
  over_to : (a : Result (Model × ℤ) Refusal) (need : Float) (b : ℕ) → plan_from a tau ≡ FirstPlan.OverCap need b → exact_from a tau ≡ Answer.OverCap need b 0
  unfolding plan_from exact_from
  over_to (Err r) need b e = let z : ◌≡◌ {A = ℕ} 0 1 = cc in absurd (omega arith)
  over_to (Ok (m, q)) need b e = (count_is_first_plan.over _ _ (input_of m tau) q need b).0 e

  over_from : (a : Result (Model × ℤ) Refusal) (need : Float) (b : ℕ) → exact_from a tau ≡ Answer.OverCap need b 0 → plan_from a tau ≡ FirstPlan.OverCap need b
  unfolding plan_from exact_from
  over_from (Err r) need b e = let z : ◌≡◌ {A = ℕ} 0 1 = cc in absurd (omega arith)
  over_from (Ok (m, q)) need b e = (count_is_first_plan.over _ _ (input_of m tau) q need b).1 e

  refusing : (a : Result (Model × ℤ) Refusal) (n : ℕ) → plan_from a tau ≡ FirstPlan.Refused (by n) → exact_from a tau ≡ Answer.Refused (by n)
  unfolding plan_from exact_from
  refusing (Err r) n e = let z : r ≡ by n = cc in rw z
  refusing (Ok (m, q)) n e = (count_is_first_plan.refused _ _ (input_of m tau) q n e).0

  going_on : (a : Result (Model × ℤ) Refusal) (s : ℕ) → plan_from a tau ≡ FirstPlan.Steps (suc s) → (m : Model) × (q : ℤ) × (a ≡ Ok (m, q)) × FirstGoes (input_of m tau) (suc s)
  unfolding plan_from
  going_on (Err r) s e = let z : ◌≡◌ {A = ℕ} 0 1 = cc in absurd (omega arith)
  going_on (Ok (m, q)) s e = (m, q, refl, (count_is_first_plan.steps _ _ (input_of m tau) q s e).0)

  spending : (a : Result (Model × ℤ) Refusal) → plan_from a tau ≡ FirstPlan.Steps 0 → steps_from a tau ≡ 0
  unfolding plan_from steps_from
  spending (Err r) e = refl
  spending (Ok (m, q)) e = (count_is_first_plan.none _ _ (input_of m tau) q e).1

pub desk_plan_is_first : DeskPlanIsFirst
unfolding desk_plan exact_quotes exact_answer exact_by exact_steps tau
desk_plan_is_first = record {
  over = λ mid h c vol t need b.
      let a = exact_model mid h c vol t in
      (λ e. rw (over_to mid h c vol t a need b e), λ e. over_from mid h c vol t a need b (report_of mid c.min_spread (exact_from a (tau mid h c vol t)) need b e));
  refused = λ mid h c vol t n e. rw (refusing mid h c vol t (exact_model mid h c vol t) n e);
  steps = λ mid h c vol t. going_on mid h c vol t (exact_model mid h c vol t);
  none = λ mid h c vol t. spending mid h c vol t (exact_model mid h c vol t);
}

-- ---- its refusals
module _ (k base : Float) (x : RunInput) (q : ℤ) (f : floats_ok k base x ≡ true) (b : bound_ok x.bound ≡ true) (w : within x.bound q ≡ true) where
  abbrev Fails : Type 0
  Fails = (lt 0ᶠ x.tau ≡ true) × ((diagonal_finite (fixed x) && positive (first_size x)) ≡ false)

  -- of a count whose checks pass
  abbrev Why : FirstPlan → Type 0
  Why (FirstPlan.Steps s) = Unit {0}
  Why (FirstPlan.OverCap need l) = Unit {0}
  Why (FirstPlan.Refused n) = (n.0 ≡ numerical) × Fails

  plan_why : {r : FirstPlan} → FirstIs x r → Why r
  plan_why (no_time l) = tt
  plan_why (not_finite l d) = (refl, (l, rw d))
  plan_why (fails l d s) = (refl, (l, rw (d, s)))
  plan_why (over l d s h) = tt
  plan_why (kept l d s h) = tt

  count_why : {r : FirstPlan} → CountIs k base x q r → Why r
  count_why (at_5 e) = never (sym f ∙ e)
  count_why (at_1 e i) = never (sym b ∙ i)
  count_why (at_4 e i j) = never (sym w ∙ j)
  count_why (counted e i j c) = plan_why c

  failing : lt 0ᶠ x.tau ≡ true → (d s : Bool) → diagonal_finite (fixed x) ≡ d → positive (first_size x) ≡ s → (d && s) ≡ false
      → FirstIs x (FirstPlan.Refused (by numerical))
  failing l false s u v e = not_finite l u
  failing l true false u v e = fails l u v
  failing l true true u v e = never e

  count_fails : (n : ℕ) → (step_count k base x q ≡ FirstPlan.Refused (by n)) ↔ ((n ≡ numerical) × Fails)
  count_fails n = (
    λ e. count_why ((step_counts k base x q (FirstPlan.Refused (by n))).0 e),
    λ e. rw e.0 ((step_counts k base x q (FirstPlan.Refused (by numerical))).1 (counted f b w (failing e.1.0 _ _ refl refl e.1.1))),
  )

same_plan : (r n : ℕ) → FirstPlan.Refused (by r) ≡ FirstPlan.Refused (by n) → r ≡ n
same_plan r n e = same_number (let z : by r ≡ by n = cc in z)

pub desk_plan_refusals : DeskPlanRefusals
unfolding desk_plan exact_model plan_from model_of model_from model_by
desk_plan_refusals mid h c vol t n =
    let tau = tau_of c.terminal_time t in
    let m = model_of c vol in
    Iff.trans (after_checks (λ r. FirstPlan.Refused (by r)) (λ x. plan_from x tau) (λ r. refl) same_plan (exact_checks mid h c vol t) m (lots h c) n)
    (right (late (λ k.
    let p = exact_passed mid h c vol t k in
    count_fails m.k m.base (input_of m tau) (lots h c) (floats_passed m tau p.4 (tau_passed mid h c vol t p.0)) (bound_passed c p.1) (lots_passed h c p.3) n)))
