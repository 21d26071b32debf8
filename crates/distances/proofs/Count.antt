-- The count's causes, and that it is the first plan of the float entry's run. Assumes nothing.
use mathlib.Core.Path.{◌≡◌, refl, ap, subst, ◌∙◌}
use Prim.Native.Nat.{ℕ, suc}
use native.Mathlib.Omega.{arith}
use mathlib.Core.Bool.{false}
use lib.IntN.{ℤ}
use lib.Ieee.{Float, lt}
use Rattle.elementary.specs.Float.{0ᶠ}
use Rattle.elementary.specs.Checks.{Verdict, passes, refused, first_failing, Refuses, here, later, by}
use Rattle.elementary.proofs.Checks.{first_failing_lem, same_number}
use Rattle.series.specs.Refusals.{numerical}
use Rattle.vector.specs.Run.{going, cap, run_on, run, fixed, spent}
use Rattle.plan.specs.Count.{plan_ahead, plan_if, FirstGoes}
use Rattle.vector.specs.Causes.{CapReported}
use Rattle.plan.specs.declared.RunInput.{RunInput}
use Rattle.plan.specs.declared.FirstPlan.{FirstPlan}
use Rattle.vector.proofs.Spent.{budget_within}
use Rattle.vector.proofs.Causes.{cap_reports}
use Rattle.plan.proofs.Ahead.{first_when}
use Rattle.vector.proofs.Ahead.{run_first, tied, whole_budget}
use Rattle.distances.specs.FloatEntry.{refused_entry, answer_by, entry_checks, entry_if, entry_over, float_entry, steps_if, steps_over, float_steps}
use Rattle.distances.specs.Refusing.{FloatRefused, at_5, at_1, at_4, at_11}
use Rattle.distances.specs.Count.{count_over, step_count, CountIs, counted, StepCounts, CountIsFirstPlan}
use Rattle.distances.specs.Count as Count
use Rattle.distances.specs.declared.Answer.TheVariants as Answer
use Rattle.distances.proofs.Checked.{passed, all_pass}
use Rattle.distances.proofs.Refusing.{by_check, float_refusals, float_reports}

-- ---- each reply has its cause
module _ (k base : Float) (x : RunInput) (q : ℤ) where
  checked : (n : ℕ) → Refuses (entry_checks k base x q) n → CountIs k base x q (FirstPlan.Refused (by n))
  checked n (here f) = Count.at_5 f
  checked n (later f (here b)) = Count.at_1 f b
  checked n (later f (later b (here h))) = Count.at_4 f b h
  checked n (later f (later b (later _ x))) = elim x [ ]

pub step_counts : StepCounts
unfolding step_count count_over plan_if
step_counts k base x q r = (to (first_failing (entry_checks k base x q)) refl, from r)
  where
    to : (v : Verdict) → first_failing (entry_checks k base x q) ≡ v → plan_if v (plan_ahead x) ≡ r → CountIs k base x q r
    to passes t e = let p = passed k base x q t in counted p.floats p.bound_is_ok p.held ((first_when x r).0 e)
    to (refused n) t e = subst (CountIs k base x q) e (checked k base x q n ((first_failing_lem (entry_checks k base x q) n).0 t))

    from : (r : FirstPlan) → CountIs k base x q r → plan_if (first_failing (entry_checks k base x q)) (plan_ahead x) ≡ r
    from r (Count.at_5 f) = rw (by_check k base x q (here f))
    from r (Count.at_1 f b) = rw (by_check k base x q (later f (here b)))
    from r (Count.at_4 f b h) = rw (by_check k base x q (later f (later b (here h))))
    from r (counted f b h c) = rw (all_pass k base x q f b h) ((first_when x r).1 c)

-- ---- the tie
module _ (k base : Float) (x : RunInput) (q : ℤ) where
  abbrev verdict : Verdict
  verdict = first_failing (entry_checks k base x q)

  -- a count of another kind than a refusal passed the checks
  passes_by : (r : FirstPlan) → ((n : ℕ) → FirstPlan.Refused (by n) ≡ r → ◌≡◌ {A = ℕ} 0 1) → step_count k base x q ≡ r → (verdict ≡ passes) × (plan_ahead x ≡ r)
  unfolding step_count count_over plan_if
  passes_by r other = go verdict refl
    where
      go : (v : Verdict) → verdict ≡ v → plan_if v (plan_ahead x) ≡ r → (verdict ≡ passes) × (plan_ahead x ≡ r)
      go passes t e = (t, e)
      go (refused n) t e = let z = other n e in absurd (omega arith)

  -- past them the entry answers from its run
  answers : verdict ≡ passes → float_entry k base x q ≡ answer_by x.bound k base q (run x)
  unfolding float_entry entry_over entry_if
  answers h = rw h

  spends : verdict ≡ passes → float_steps k base x q ≡ spent (run x)
  unfolding float_steps steps_over steps_if
  spends h = rw h

  -- ---- over the cap, both ways
  over_to : (need : Float) (b : ℕ) → step_count k base x q ≡ FirstPlan.OverCap need b → (float_entry k base x q).answer ≡ Answer.OverCap need b 0
  unfolding answer_by
  over_to need b e =
      let (h, p) = passes_by (FirstPlan.OverCap need b) (λ n i. cc) e in
      let (r, w) = tied x (FirstPlan.OverCap need b) p in
      rw (answers h, r, w)

  over_from : (need : Float) (b : ℕ) → (float_entry k base x q).answer ≡ Answer.OverCap need b 0 → step_count k base x q ≡ FirstPlan.OverCap need b
  unfolding step_count count_over plan_if
  over_from need b e =
      let r = (float_reports k base x q need b 0).0 e in
      let most = budget_within x need b ((cap_reports x need b).1 (r.time, r.report)) in
      let s = r.steps in
      let whole : b ≡ cap = omega arith in
      rw (all_pass k base x q r.floats r.bound_is_ok r.held, whole) (whole_budget x need r.time (subst (λ (l : ℕ). CapReported (fixed x) x.tau need l) whole r.report))

  -- ---- refused, both ways
  refused_to : (n : ℕ) → step_count k base x q ≡ FirstPlan.Refused (by n) → ((float_entry k base x q).answer ≡ Answer.Refused (by n)) × (float_steps k base x q ≡ 0)
  unfolding step_count count_over plan_if float_entry entry_over entry_if float_steps steps_over steps_if refused_entry answer_by spent
  refused_to n = go verdict
    where
      go : (v : Verdict) → plan_if v (plan_ahead x) ≡ FirstPlan.Refused (by n) → ((entry_if v (answer_by x.bound k base q (run x))).answer ≡ Answer.Refused (by n)) × (steps_if v (spent (run x)) ≡ 0)
      go passes e = let (m, r) = tied x (FirstPlan.Refused (by n)) e in rw (m, r) (refl, refl)
      go (refused m) e = (ap (λ (j : ℕ). Answer.Refused (by j)) (same_number (let y : by m ≡ by n = cc in y)), refl)

  refused_from : (n : ℕ) → (n ≡ numerical → ⊥) → (float_entry k base x q).answer ≡ Answer.Refused (by n) → step_count k base x q ≡ FirstPlan.Refused (by n)
  unfolding step_count count_over plan_if
  refused_from n other e = go n other ((float_refusals k base x q n).0 e)
    where
      go : (n : ℕ) → (n ≡ numerical → ⊥) → FloatRefused k base x q n → plan_if verdict (plan_ahead x) ≡ FirstPlan.Refused (by n)
      go n other (at_5 f) = rw (by_check k base x q (here f))
      go n other (at_1 f b) = rw (by_check k base x q (later f (here b)))
      go n other (at_4 f b h) = rw (by_check k base x q (later f (later b (here h))))
      go n other (at_11 f b h r) = absurd (other refl)

  -- ---- some steps, and none
  some_steps : (s : ℕ) → step_count k base x q ≡ FirstPlan.Steps (suc s)
      → (f : FirstGoes x (suc s)) × (float_entry k base x q ≡ answer_by x.bound k base q (run_on cap (fixed x) (going f.plan)))
  some_steps s e =
      let (h, p) = passes_by (FirstPlan.Steps (suc s)) (λ n i. cc) e in
      let f = tied x (FirstPlan.Steps (suc s)) p in
      (f, answers h ∙ ap (answer_by x.bound k base q) (run_first x f.time ∙ ap (run_on cap (fixed x)) f.first))

  no_steps : step_count k base x q ≡ FirstPlan.Steps 0 → (lt 0ᶠ x.tau ≡ false) × (float_steps k base x q ≡ 0)
  no_steps e =
      let (h, p) = passes_by (FirstPlan.Steps 0) (λ n i. cc) e in
      let (l, s) = tied x (FirstPlan.Steps 0) p in
      (l, spends h ∙ s)

pub count_is_first_plan : CountIsFirstPlan
count_is_first_plan = record {
  over = λ k base x q need b. (over_to k base x q need b, over_from k base x q need b);
  steps = some_steps;
  none = no_steps;
  refused = refused_to;
  alike = refused_from;
}
