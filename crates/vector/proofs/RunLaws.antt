-- A turn of the run by cases, as the code meets it: what a plan, a step and a rebalancing lead to, and where a run ends. Assumes nothing.
use mathlib.Core.Path.{◌≡◌, refl, sym, ap, ◌∙◌}
use Prim.Native.Nat.{ℕ, zero, suc, ◌-◌, ◌≤◌, ◌<◌}
use native.Mathlib.Nat.{le_trans}
use native.Mathlib.Omega.{arith}
use mathlib.Core.Bool.{Bool, true, false, not, ◌&&◌}
use mathlib.Core.List.{List}
use borrow.Author.Tests.{not-true, not-false}
use lib.Dec.{ltb}
use lib.ListN.{length}
use lib.Ieee.{Float, inf, lt, to_unsigned}
use Rattle.elementary.specs.Float.{◌⊕◌, ◌⊖◌, ◌⊗◌, ◌⊘◌, 0ᶠ, 1ᶠ, finite, positive}
use Rattle.elementary.specs.Reply.{Reply, value, refusal}
use Rattle.elementary.specs.Elementary.{LN, or_nan}
use Rattle.operator.specs.Vectors.{tab, at, fill, every, fold, larger, smaller}
use Rattle.operator.specs.Operator.{diagonal_at, left_at, right_at, rows}
use Rattle.series.specs.Series.{taylor_step, operator_over}
use Rattle.plan.specs.Plan.{Ended, vector, over_cap, failed, Fixed, Going, going, ended, cap, start, begin, fixed_over, fixed, first_if, plan_by, plan_of}
use Rattle.vector.specs.Run.{divided, floor, rebalances, rebalance, next, stepped, step_operator, turn, run_on, run, run_from}
use Rattle.vector.specs.Values.{padded, vector_of, vector_by}
use Rattle.vector.specs.Inner.{going_over, paced_of, asked_of, stopped_of, told, Sound, SoundPace, AfterBy, AfterIs, NextIs, Standing, weight, pace_weight, BegunIs, PlanSpent, EndIs}
use Rattle.series.specs.Half.{StepIs}
use Rattle.plan.specs.declared.RunInput.{RunInput}
use Rattle.vector.specs.declared.Outcome.{Outcome}
use Rattle.plan.specs.declared.plan.Planned.{Planned}
use Rattle.vector.specs.declared.run.Steps.{Steps}
use Rattle.vector.specs.declared.run.Next.{Next}
use Rattle.vector.specs.declared.run.Pace.{Pace}
use Rattle.operator.proofs.Lists.{every_true}
use Rattle.series.proofs.Extremes.{smallest_floor}
use Rattle.plan.proofs.Plans.{planned_some}
use Rattle.elementary.specs.Checks.{by}

pub never : {A : Type 0} → ◌≡◌ {A = ℕ} 0 1 → A
never e = absurd (omega arith)

-- ---- the diagonal that the code makes for a plan that keeps the budget
abbrev pub Scaled : Fixed → List Float → Planned → Type 0
Scaled p diag (Planned.Steps s dt) = diag ≡ tab p.n (λ i. at p.diagonal i ⊗ dt)
Scaled p diag (Planned.OverCap need) = Unit {0}
Scaled p diag Planned.Refused = Unit {0}

-- ---- where a run stands
pub on_ended : (p : Fixed) (b : ℕ) (r : Ended) → run_on b p (ended r) ≡ r
unfolding run_on
on_ended p zero r = refl
on_ended p (suc b) r = refl

module _ (p : Fixed) (r : Ended) (w o left right diag : List Float) where
  failed_over : (b s : ℕ) → run_on b p (ended (failed s)) ≡ r → Standing p r w o left right diag (stopped_of (Outcome.Refused (by 11)))
  unfolding EndIs
  failed_over b s e = rw (← e, on_ended p b (failed s)) refl

  -- with steps to go, or done
  paced_on : (s b : ℕ) (rest dt : Float) → diag ≡ tab p.n (λ i. at p.diagonal i ⊗ dt) → (1 ≤ s → run_on b p (going (going_over w o left right dt rest s)) ≡ r) → (s ≡ 0 → EndIs r (Outcome.Done (cap - b)) w o)
      → Standing p r w o left right diag (paced_of s b rest dt)
  unfolding run_on EndIs
  paced_on zero b rest dt d h z = z refl
  paced_on (suc s) zero rest dt d h z = rw (← h (omega arith)) refl
  paced_on (suc s) (suc b) rest dt d h z = (d, h (omega arith))

paced_sound : (s b : ℕ) (rest dt : Float) → b ≤ cap → SoundPace (paced_of s b rest dt)
paced_sound zero b rest dt k = tt
paced_sound (suc s) zero rest dt k = tt
paced_sound (suc s) (suc b) rest dt k = (omega arith, omega arith, k)

-- the budget of steps to make
abbrev pub left : Pace → ℕ
left (Pace.Going a) = a.budget
left (Pace.Behind q) = 0

paced_less : (s b : ℕ) (rest dt : Float) → (left (paced_of s b rest dt) ≤ b) × (pace_weight (paced_of s b rest dt) ≤ b)
paced_less zero b rest dt = (omega arith, omega arith)
paced_less (suc s) zero rest dt = (omega arith, omega arith)
paced_less (suc s) (suc b) rest dt = (omega arith, omega arith)

-- ---- a plan, b being the budget left
module _ (p : Fixed) (b : ℕ) (rest : Float) (o left right diag : List Float) (fits : b ≤ cap) where
  by_plan : (f c : Bool) (need : Float) (q : Planned) → (c ≡ true → 1 ≤ to_unsigned 32 need) → q ≡ plan_by f c rest need → Scaled p diag q
      → Standing p (run_on b p (start f c b (fill p.n 1ᶠ) o left right rest need)) (fill p.n 1ᶠ) o left right diag (told b rest q)
  unfolding EndIs start plan_by
  by_plan false c need q some e d = rw e (failed_over p _ _ o left right diag b _ refl)
  by_plan true false need q some e d = rw (e, on_ended p b (over_cap need b)) refl
  by_plan true true need (Planned.Steps s dt) some e d =
      let es : s ≡ to_unsigned 32 need = cc in
      let ed : dt ≡ rest ⊘ need = cc in
      let k = some refl in
      paced_on p _ _ o left right diag s b rest dt d (λ _. rw (es, ed) refl) (λ z. absurd (omega (arith, k)))
  by_plan true true need (Planned.OverCap x) some e d = never (cc)
  by_plan true true need Planned.Refused some e d = never (cc)

  told_less : (q : Planned) → pace_weight (told b rest q) ≤ b
  told_less (Planned.Steps s dt) = (paced_less s b rest dt).1
  told_less (Planned.OverCap need) = omega arith
  told_less Planned.Refused = omega arith

  told_sound : (q : Planned) → SoundPace (told b rest q)
  told_sound (Planned.Steps s dt) = paced_sound s b rest dt fits
  told_sound (Planned.OverCap need) = tt
  told_sound Planned.Refused = tt

  module _ (good : Bool) (el : left ≡ tab p.n (left_at o)) (er : right ≡ tab p.n (right_at p.n o)) (eg : good ≡ every p.n (λ i. finite (at left i) && finite (at right i))) (a : Pace) where
    pub begun : good ≡ true → (q : Planned) → q ≡ plan_of p b left right rest → Scaled p diag q → a ≡ told b rest q → BegunIs p b rest o left right diag a
    unfolding begin plan_of
    begun h q e d ea = record { stands = rw (ea, ← el, ← er, ← eg, h) (by_plan _ _ _ q (planned_some _ b) e d); sound = rw ea (told_sound q); less = rw ea (told_less q) }

    pub not_begun : good ≡ false → a ≡ stopped_of (Outcome.Refused (by 11)) → BegunIs p b rest o left right diag a
    unfolding begin start
    not_begun h ea = record { stands = rw (ea, ← el, ← er, ← eg, h) (failed_over p _ _ o left right diag b _ refl); sound = rw ea tt; less = rw ea (omega arith) }

-- ---- a step, and what follows it
no_rebalance : (x : Float) (s : ℕ) → s ≡ 0 → rebalances x s ≡ false
unfolding rebalances
no_rebalance x s e = rw e refl

module _ (p : Fixed) (r : Ended) (w o left right diag : List Float) (a : Steps) (q : Pace) (w' o' : List Float) (fits : a.budget ≤ cap) (d : diag ≡ tab p.n (λ i. at p.diagonal i ⊗ a.dt)) where
  abbrev b : ℕ
  b = a.budget - 1

  abbrev g : Going
  g = going_over w o left right a.dt a.remaining a.steps

  next_by : (s : ℕ) (c e : Bool) (v : List Float) → a.steps - 1 ≡ s → (s ≡ 0 → c ≡ false) → e ≡ every p.n (λ i. positive (at v i)) → AfterBy true c e p.n a v o q w' o'
      → run_on b p (next s c p b g v) ≡ r → Standing p r w' o' left right diag q
  unfolding AfterBy EndIs next rebalance
  next_by zero true e v es ez ee h k = never (cc (ez refl))
  next_by zero false e v es ez ee h k =
      rw (h.0, h.1, h.2, es, ← k, on_ended) (refl, refl, refl)
  next_by (suc s) false e v es ez ee h k =
      rw (h.0, h.1, h.2, es) (paced_on p r v o left right diag (suc s) b _ _ d (λ _. k) (λ x. absurd (omega arith)))
  next_by (suc s) true false v es ez ee h k = rw h (failed_over p r w' o' left right diag b (cap - b) (rw (← ee) at k))
  next_by (suc s) true true v es ez ee h k =
      rw h.0 (omega arith, h.1, rw h.2 (rw (← ee) at k))

  stepped_by_lem : (good : Bool) (v : List Float) (s : Reply (List Float)) → StepIs good v s → AfterIs good p.n a (divided p.n v) o q w' o' → run_on b p (stepped p b g s) ≡ r → Standing p r w' o' left right diag q
  unfolding StepIs AfterBy stepped
  stepped_by_lem true v (refusal k) h f e = never (cc)
  stepped_by_lem false v (refusal k) h f e = rw f (failed_over p r w' o' left right diag b _ e)
  stepped_by_lem true v (value s) h f e = next_by (a.steps - 1) _ _ (divided p.n v) refl (no_rebalance _ (a.steps - 1)) refl f (rw h.1 e)
  stepped_by_lem false v (value s) h f e = never (cc h.0)

  turned : (good : Bool) (v : List Float) → StepIs good v (taylor_step (operator_over p.n diag left right) (p.eta ⊗ a.dt) w) → AfterIs good p.n a (divided p.n v) o q w' o'
      → run_on b p (turn p b g) ≡ r → Standing p r w' o' left right diag q
  unfolding turn step_operator
  turned good v h f e = stepped_by_lem good v _ h f (rw d e)

-- no entry calls for rebalancing just where the smallest does not
pub calm_is : (n : ℕ) (f : ℕ → Float) (s : ℕ) → every n (λ i. not (rebalances (f i) s)) ≡ not (rebalances (fold smaller (inf false) (tab n f)) s)
unfolding rebalances
calm_is n f s = go (ltb 0 s)
  where
    go : (b : Bool) → every n (λ i. not (b && lt (f i) floor)) ≡ not (b && lt (fold smaller (inf false) (tab n f)) floor)
    go true = sym (smallest_floor floor n f)
    go false = every_true n

-- what the code does after a step: v its sum, w that divided, calm where no weight calls for rebalancing
pub after_refused : (n : ℕ) (a : Steps) (w o : List Float) (good : Bool) (r : Pace) (w' o' : List Float) → good ≡ false → r ≡ stopped_of (Outcome.Refused (by 11)) → AfterIs good n a w o r w' o'
unfolding AfterBy
after_refused n a w o good r w' o' eg e = rw eg e

module _ (n : ℕ) (a : Steps) (v o : List Float) (m : Float) (w : List Float) (good calm : Bool) (r : Pace) (em : m ≡ fold larger 0ᶠ v) (ew : w ≡ tab n (λ i. at v i ⊘ m))
    (eg : good ≡ true) (ec : calm ≡ not (rebalances (fold smaller (inf false) w) (a.steps - 1))) where
  is_divided : divided n v ≡ w
  unfolding divided
  is_divided = rw (← em, ew)

  pub after_paced : calm ≡ true → r ≡ paced_of (a.steps - 1) (a.budget - 1) (a.remaining ⊖ a.dt) a.dt → AfterIs good n a (divided n v) o r w o
  unfolding AfterBy
  after_paced h e =
      let x : rebalances (fold smaller (inf false) w) (a.steps - 1) ≡ false = not-true _ (sym ec ∙ h) in
      rw (is_divided, eg, x) (e, refl, refl)

  module _ (f : Bool) (w' o' : List Float) (k : length w ≡ n) (ef : f ≡ every (length w) (λ i. positive (at w i))) (h : calm ≡ false) where
    called : rebalances (fold smaller (inf false) w) (a.steps - 1) ≡ true
    called = not-false _ (sym ec ∙ h)

    pub after_asked : f ≡ true → w' ≡ fill (length w) 1ᶠ → o' ≡ tab (length w) (λ i. at o i ⊕ or_nan (LN (at w i))) → r ≡ asked_of (a.budget - 1) (a.remaining ⊖ a.dt) → AfterIs good n a (divided n v) o r w' o'
    unfolding AfterBy
    after_asked t e₁ e₂ e = rw (is_divided, eg, called, ← k, ← ef, t) (e, e₁, e₂)

    pub after_failed : f ≡ false → r ≡ stopped_of (Outcome.Refused (by 11)) → AfterIs good n a (divided n v) o r w' o'
    unfolding AfterBy
    after_failed t e = rw (is_divided, eg, called, ← k, ← ef, t) e

-- a run that goes on takes a turn
pub stands_on : (p : Fixed) (r : Ended) (w o left right diag : List Float) (a : Steps) (q : Pace) (w' o' : List Float) (good : Bool) (v : List Float) → Sound a
    → StepIs good v (taylor_step (operator_over p.n diag left right) (p.eta ⊗ a.dt) w) → AfterIs good p.n a (divided p.n v) o q w' o' → Standing p r w o left right diag (Pace.Going a)
    → Standing p r w' o' left right diag q
unfolding run_on
stands_on p r w o left right diag a q w' o' good v k t f s =
    let z : a.budget ≡ suc (a.budget - 1) = omega (arith, k.1) in
    turned p r w o left right diag a q w' o' k.2 s.0 good v t f (sym (ap (λ (b : ℕ). run_on b p (going (going_over w o left right a.dt a.remaining a.steps))) z) ∙ s.1)

-- and spends a step of the budget
module _ (n : ℕ) (a : Steps) (w o : List Float) (r : Pace) (w' o' : List Float) (k : Sound a) where
  pub after_less : (good c e : Bool) → AfterBy good c e n a w o r w' o' → (left r < a.budget) × (pace_weight r ≤ a.budget) × SoundPace r
  unfolding AfterBy
  after_less false c e h = rw h (omega (arith, k.1), omega arith, tt)
  after_less true false e h =
      let l = paced_less (a.steps - 1) (a.budget - 1) (a.remaining ⊖ a.dt) a.dt in
      rw h.0 (omega (arith, k.1, l.0), omega (arith, l.1), paced_sound (a.steps - 1) (a.budget - 1) _ _ (omega (arith, k.2)))
  after_less true true false h = rw h (omega (arith, k.1), omega arith, tt)
  after_less true true true h = rw h.0 (omega (arith, k.1), omega (arith, k.1), tt)

-- ---- plan after plan
-- a plan and its steps
pub planned : (n : ℕ) (d : List Float) (eta : Float) (b : ℕ) (rest : Float) (w o left right diag w' o' : List Float) (a : Pace) (q : Next) → w ≡ fill n 1ᶠ → BegunIs (fixed_over n d eta) b rest o left right diag a
    → PlanSpent n eta w o left right diag a w' o' q
    → NextIs (fixed_over n d eta) (run_on b (fixed_over n d eta) (begin (fixed_over n d eta) b (fill n 1ᶠ) o rest)) w' o' q × (weight q ≤ b)
planned n d eta b rest w o left right diag w' o' a q e g t =
    let p = fixed_over n d eta in
    (t.keeps d (run_on b p (begin p b (fill n 1ᶠ) o rest)) (rw e g.stands), le_trans t.less g.less)

-- ---- the whole run, and the answer that its end gives
module _ (x : RunInput) where
  abbrev n : ℕ
  n = rows x.bound

  abbrev entries : List Float
  entries = tab n (diagonal_at x.bound x.alpha x.beta x.eta)

  abbrev all_finite : Bool
  all_finite = every n (λ i. finite (at entries i))

  pub run_later : (d o : List Float) (q : Outcome) (w' o' : List Float) → lt 0ᶠ x.tau ≡ true → d ≡ entries → o ≡ fill n 0ᶠ → all_finite ≡ true
      → EndIs (run_on cap (fixed_over n d x.eta) (begin (fixed_over n d x.eta) cap (fill n 1ᶠ) o x.tau)) q w' o' → EndIs (run x) q w' o'
  unfolding run run_from fixed first_if
  run_later d o q w' o' e ed eo f h = rw (e, f, ← ed, ← eo) h

  -- where an entry of the diagonal is not finite
  pub run_refused : lt 0ᶠ x.tau ≡ true → all_finite ≡ false → run x ≡ failed 0
  unfolding run run_from run_on fixed first_if
  run_refused e f = rw (e, f)

-- where it is done, with the vector that it left
pub done : (n : ℕ) (r : Ended) (q : Outcome) (w o : List Float) (s : ℕ) (a b : List Float) → EndIs r q w o → q ≡ Outcome.Done s → a ≡ padded n w → b ≡ padded n o
    → record { outcome = Outcome.Done s; vector = record { w = a; log_offset = b; n = n } } ≡ vector_by n r
unfolding EndIs vector_by vector_of
done n (vector w' o' t) q w o s a b h e ea eb = rw (← e, h.0, ea, eb, h.1, h.2)
done n (over_cap need c) q w o s a b h e ea eb = never (cc)
done n (failed t) q w o s a b h e ea eb = never (cc)
