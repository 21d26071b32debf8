-- Which runs fail and which report the cap: a state that a run reaches has its cause, and each cause leads to its state. Assumes nothing.
use mathlib.Core.Path.{◌≡◌, refl, sym, ap, subst, ◌∙◌}
use mathlib.Core.Logic.{◌↔◌}
use Prim.Native.Nat.{ℕ, zero, suc, ◌-◌, ◌^◌, ◌≤◌, ◌<◌}
use native.Mathlib.Nat.{le_refl, le_trans, le_of_eq, lt_of_le_of_lt}
use native.Mathlib.Omega.{arith}
use mathlib.Core.Bool.{Bool, true, false, ◌&&◌}
use mathlib.Core.List.{List}
use lib.IntN.{pos}
use lib.Dec.{lit<, not_T}
use lib.Ieee.{Float, inf, lt, le}
use lib.Ieee.Bits.{is_false}
use Rattle.elementary.specs.Float.{◌⊖◌, whole, 0ᶠ, 1ᶠ, positive}
use Rattle.elementary.specs.Reply.{Reply, value, refusal}
use Rattle.elementary.proofs.Order.{lt→not_ge}
use Rattle.operator.specs.Vectors.{tab, fill, fold, smaller}
use Rattle.operator.specs.Operator.{left_at, right_at}
use Rattle.plan.specs.Plan.{Ended, vector, over_cap, failed, Fixed, Going, Turn, going, ended, cap, needed, start, begin, fixed, diagonal_finite, first_if, first_turn}
use Rattle.vector.specs.Run.{divided, rebalances, rebalance, next, stepped, turn, run_on, run_for, run, run_from}
use Rattle.vector.specs.Causes.{Reached, first, later, GoingKeeps, RunsEnd, step_sum, Rebalancing, weights_positive, Planning, at_first, again, factors_finite, times_norm, PlanFails, by_factor, by_norm, RunFails, by_diagonal, by_plan, by_series, by_weight, RunsFail, CapReported, CapReports}
use Rattle.plan.specs.declared.RunInput.{RunInput}
use Rattle.plan.proofs.Plans.{planned_some, planned_within, planned_same}
use Rattle.vector.proofs.RunLaws.{on_ended}
use Rattle.plan.proofs.Begun.{Any, TurnOk, begin_ok}
use Rattle.series.proofs.Summing.{series_refused}

module _ (p : Fixed) (tau : Float) where
  -- ==== from a state to its cause
  abbrev Caused : ℕ → Turn → Type 0
  Caused b (going g) = (1 ≤ g.steps) × (g.steps ≤ b)
  Caused b (ended (vector w o s)) = Unit {0}
  Caused b (ended (over_cap need c)) = CapReported p tau need c
  Caused b (ended (failed s)) = RunFails p tau s

  -- a plan, by its tests
  abbrev started : Bool → Bool → ℕ → List Float → List Float → Float → Turn
  started t c b w o rest = start t c b w o (tab p.n (left_at o)) (tab p.n (right_at p.n o)) rest (needed (times_norm p o rest))

  begun : {b : ℕ} {o : List Float} {rest : Float} (w : List Float) → Planning p tau b o rest → b ≤ cap → Caused b (begin p b w o rest)
  unfolding begin start
  begun {b} {o} {rest} w h k = go (factors_finite p o) (positive x) (le (needed x) (whole (pos b))) refl refl refl (begin_ok Any p b w o rest tt)
    where
      x : Float
      x = times_norm p o rest

      go : (f t c : Bool) → factors_finite p o ≡ f → positive x ≡ t → le (needed x) (whole (pos b)) ≡ c → TurnOk b Any (started (f && t) c b w o rest)
          → Caused b (started (f && t) c b w o rest)
      go false t c ef et ec ok = by_plan h (by_factor ef)
      go true false c ef et ec ok = by_plan h (by_norm ef et)
      go true true false ef et ec ok = record { offsets = o; rest = rest; plan = h; factors = ef; size = et; steps = refl; above = ok.1 }
      go true true true ef et ec ok =
          let few : b < 2 ^ 32 = lt_of_le_of_lt k (lit< tt) in
          (planned_some x b ec, le_trans (le_of_eq (sym (planned_same x b ec few))) (planned_within x b ec few))

  -- a step
  module _ {b : ℕ} {g : Going} (r : Reached p tau (suc b) (going g)) (fits : suc b ≤ cap) (kept : g.steps ≤ suc b) where
    after : (v : List Float) → step_sum p g ≡ value v → (s : ℕ) (c : Bool) → g.steps - 1 ≡ s → rebalances (fold smaller (inf false) (divided p.n v)) (g.steps - 1) ≡ c
        → Caused b (next s c p b g (divided p.n v))
    unfolding next rebalance
    after v e zero c es ec = tt
    after v e (suc s) false es ec = (omega arith, omega arith)
    after v e (suc s) true es ec = go (weights_positive p v) refl
      where
        h : Rebalancing p tau b g v
        h = record { reached = r; summed = e; low = ec }

        go : (t : Bool) → weights_positive p v ≡ t → Caused b (rebalance t p b (divided p.n v) g.o (g.remaining ⊖ g.dt))
        go false et = by_weight h et
        go true et = begun _ (again h et) (omega arith)

    turned : Caused b (turn p b g)
    unfolding turn stepped
    turned = go (step_sum p g) refl
      where
        go : (y : Reply (List Float)) → step_sum p g ≡ y → Caused b (stepped p b g y)
        go (refusal n) e = by_series r ((series_refused _ _ _ n).0 e).1
        go (value v) e = after v e _ _ refl refl

  at_once : (d : Bool) → diagonal_finite p ≡ d → Caused cap (first_if d p tau)
  unfolding first_if
  at_once false e = by_diagonal e
  at_once true e = begun _ (at_first e) (le_refl cap)

  caused : {b : ℕ} {t : Turn} → Reached p tau b t → (b ≤ cap) × Caused b t
  caused first = (le_refl cap, at_once (diagonal_finite p) refl)
  caused (later r) = let (k, h) = caused r in (omega arith, turned r k h.1)

  -- ==== the run and the states that it reaches
  meets : {b : ℕ} {t : Turn} → Reached p tau b t → run_for true p tau ≡ run_on b p t
  unfolding run_from run_on
  meets first = refl
  meets (later r) = meets r

  meets_end : {b : ℕ} {r : Ended} → Reached p tau b (ended r) → run_for true p tau ≡ r
  meets_end {b} {r} h = meets h ∙ on_ended p b r

  abbrev Ends : Ended → Type 0
  Ends r = (b : ℕ) × Reached p tau b (ended r)

  goes_on : (b : ℕ) (t : Turn) → Reached p tau b t → Ends (run_on b p t)
  unfolding run_on
  goes_on zero (ended r) h = (0, h)
  goes_on (suc b) (ended r) h = (suc b, h)
  goes_on zero (going g) h = let (k, l) = (caused h).1 in absurd (omega arith)
  goes_on (suc b) (going g) h = goes_on b (turn p b g) (later h)

  reaches : (r : Ended) → run_for true p tau ≡ r → Ends r
  unfolding run_from
  reaches r e = subst Ends e (goes_on cap _ first)

  -- ==== from a cause to its state
  rebalanced : {b : ℕ} {g : Going} {v : List Float} → Rebalancing p tau b g v → Reached p tau b (rebalance (weights_positive p v) p b (divided p.n v) g.o (g.remaining ⊖ g.dt))
  unfolding turn stepped next rebalances
  rebalanced {b} {g} {v} h = subst (Reached p tau b) (go (g.steps - 1) h.low) (rw h.summed at (later h.reached))
    where
      w : List Float
      w = divided p.n v

      x : Float
      x = fold smaller (inf false) w

      go : (s : ℕ) → rebalances x s ≡ true → next s (rebalances x s) p b g w ≡ rebalance (weights_positive p v) p b w g.o (g.remaining ⊖ g.dt)
      go zero e = cc
      go (suc s) e = ap (λ (c : Bool). next (suc s) c p b g w) e

  begun_first : Reached p tau cap (first_turn p tau)
  begun_first = first

  plans : {b : ℕ} {o : List Float} {rest : Float} → Planning p tau b o rest → Reached p tau b (begin p b (fill p.n 1ᶠ) o rest)
  unfolding rebalance first_if
  plans (at_first e) = rw e at begun_first
  plans (again h e) = rw e at (rebalanced h)

  plan_fails : {o : List Float} {rest : Float} (b : ℕ) (w : List Float) → PlanFails p o rest → begin p b w o rest ≡ ended (failed (cap - b))
  unfolding begin start
  plan_fails b w (by_factor ef) = rw ef
  plan_fails b w (by_norm ef et) = rw (ef, et)

  fails : {s : ℕ} → RunFails p tau s → Ends (failed s)
  unfolding turn stepped rebalance first_if
  fails (by_diagonal e) = (cap, rw e at begun_first)
  fails (by_plan {b} h f) = (b, subst (Reached p tau b) (plan_fails b _ f) (plans h))
  fails (by_series {b} r f) = (b, rw ((series_refused _ _ _ _).1 (refl, f)) at (later r))
  fails (by_weight {b} h e) = (b, rw e at (rebalanced h))

  reports : {need : Float} {b : ℕ} → CapReported p tau need b → Ends (over_cap need b)
  unfolding begin start
  reports {need} {b} h =
      let kept = le need (whole (pos b)) in
      let over : kept ≡ false = is_false kept (not_T kept (lt→not_ge (whole (pos b)) need h.above)) in
      (b, rw (h.factors, h.size, ← h.steps, over) at (plans h.plan))

-- ==== the statements
pub going_keeps : GoingKeeps
going_keeps p tau b g r = (caused p tau r).1

pub runs_end : RunsEnd
unfolding run
runs_end x r e = let p = fixed x in rw e (reaches p x.tau r, λ h. meets_end p x.tau h.1)

-- an end that is no vector, by its cause
by_cause : (x : RunInput) (r : Ended) (C : Type 0) → ((w o : List Float) (s : ℕ) → vector w o s ≡ r → ◌≡◌ {A = ℕ} 0 1)
    → (Ends (fixed x) x.tau r ↔ C) → (run x ≡ r) ↔ ((lt 0ᶠ x.tau ≡ true) × C)
unfolding run run_from
by_cause x r C other cause = (go (lt 0ᶠ x.tau) refl, λ h. (runs_end x r h.0).1 (cause.1 h.1))
  where
    go : (t : Bool) → lt 0ᶠ x.tau ≡ t → run_for t (fixed x) x.tau ≡ r → (lt 0ᶠ x.tau ≡ true) × C
    go true e i = (e, cause.0 (reaches (fixed x) x.tau r i))
    go false e i = let z = other _ _ _ i in absurd (omega arith)

pub runs_fail : RunsFail
runs_fail x s = let p = fixed x in by_cause x (failed s) (RunFails p x.tau s) (λ w o n e. cc) (λ h. (caused p x.tau h.1).1, fails p x.tau)

pub cap_reports : CapReports
cap_reports x need b =
    let p = fixed x in by_cause x (over_cap need b) (CapReported p x.tau need b) (λ w o n e. cc) (λ h. (caused p x.tau h.1).1, reports p x.tau)
