-- What a run makes of its first plan. Assumes nothing.
use mathlib.Core.Path.{◌≡◌, refl, sym, ap, subst, ◌∙◌}
use Prim.Native.Nat.{ℕ, zero, suc, ◌^◌, ◌≤◌, ◌<◌}
use native.Mathlib.Nat.{le_refl, le_trans, le_of_eq}
use native.Mathlib.Omega.{arith}
use mathlib.Core.Bool.{Bool, true, false}
use mathlib.Core.List.{List}
use lib.IntN.{pos}
use lib.Dec.{T, lit<}
use lib.Ieee.{Float, lt, le, to_unsigned}
use Rattle.elementary.specs.Float.{◌⊘◌, whole, 0ᶠ, 1ᶠ, positive}
use Rattle.series.specs.Refusals.{numerical}
use Rattle.operator.specs.Vectors.{tab, fill}
use Rattle.operator.specs.Operator.{left_at, right_at, rows}
use Rattle.plan.specs.Plan.{Ended, over_cap, failed, Fixed, Turn, ended, cap, needed, start, diagonal_finite, first_if, first_turn, fixed}
use Rattle.vector.specs.Run.{run_on, run, spent, run_from}
use Rattle.plan.specs.Count.{plan_in, plan_when, first_size, over, FirstGoes, plan_ahead}
use Rattle.vector.specs.Causes.{Reached, first, later, Planning, at_first, again, factors_finite, times_norm, CapReported}
use Rattle.plan.specs.declared.RunInput.{RunInput}
use Rattle.plan.specs.declared.FirstPlan.{FirstPlan}
use Rattle.plan.proofs.Plans.{planned_some, planned_within, planned_same}
use Rattle.plan.proofs.Ahead.{begun, first_begins, first_when}
use Rattle.vector.proofs.RunLaws.{on_ended}

module _ (x : RunInput) where
  abbrev p : Fixed
  p = fixed x

  abbrev tau : Float
  tau = x.tau

  abbrev size : Float
  size = first_size x

  -- none where no time is left; a plan of some steps is where the run begins; a report or 11 is its end
  abbrev pub Tied : FirstPlan → Type 0
  Tied (FirstPlan.Steps zero) = (lt 0ᶠ tau ≡ false) × (spent (run x) ≡ 0)
  Tied (FirstPlan.Steps (suc n)) = FirstGoes x (suc n)
  Tied (FirstPlan.OverCap need left) = (run x ≡ over_cap need left) × (left ≡ cap)
  Tied (FirstPlan.Refused n) = (n.0 ≡ numerical) × (run x ≡ failed 0)

  pub run_first : lt 0ᶠ tau ≡ true → run x ≡ run_on cap p (first_turn p tau)
  unfolding run run_from
  run_first l = rw l

  ended_at : (r : Ended) → lt 0ᶠ tau ≡ true → first_turn p tau ≡ ended r → run x ≡ r
  ended_at r l e = run_first l ∙ ap (run_on cap p) e ∙ on_ended p cap r

  goes : (n : ℕ) → lt 0ᶠ tau ≡ true → diagonal_finite p ≡ true → positive size ≡ true → le (needed size) (whole (pos cap)) ≡ true → to_unsigned 32 (needed size) ≡ n → Tied (FirstPlan.Steps n)
  unfolding start fixed
  goes zero l ed et ec e = let some = planned_some size cap ec in absurd (omega arith)
  goes (suc n) l ed et ec e =
      let few : cap < 2 ^ 32 = lit< tt in
      record {
        time = l;
        plan = record {
          w = fill (rows x.bound) 1ᶠ;
          o = fill (rows x.bound) 0ᶠ;
          left = tab (rows x.bound) (left_at (fill (rows x.bound) 0ᶠ));
          right = tab (rows x.bound) (right_at (rows x.bound) (fill (rows x.bound) 0ᶠ));
          dt = tau ⊘ needed size;
          remaining = tau;
          steps = to_unsigned 32 (needed size);
        };
        first = first_begins p tau ed true et ∙ ap (begun p tau true) ec;
        steps = e;
        within = le_trans (le_of_eq (sym e ∙ sym (planned_same size cap ec few))) (planned_within size cap ec few);
      }

  pub tied : (r : FirstPlan) → plan_ahead x ≡ r → Tied r
  unfolding plan_ahead plan_when start plan_in first_if run run_from spent
  tied r h = subst Tied h (go (lt 0ᶠ tau) (diagonal_finite p) (positive size) (le (needed size) (whole (pos cap))) refl refl refl refl)
    where
      go : (l d t c : Bool) → lt 0ᶠ tau ≡ l → diagonal_finite p ≡ d → positive size ≡ t → le (needed size) (whole (pos cap)) ≡ c → Tied (plan_when l (first_turn p tau))
      go false d t c el ed et ec = (el, rw el)
      go true false t c el ed et ec = rw ed (refl, ended_at (failed 0) el (rw ed))
      go true true false c el ed et ec = rw (first_begins p tau ed false et) (refl, ended_at (failed 0) el (first_begins p tau ed false et))
      go true true true false el ed et ec = rw (first_begins p tau ed true et, ec) (ended_at (over_cap (needed size) cap) el (first_begins p tau ed true et ∙ ap (begun p tau true) ec), refl)
      go true true true true el ed et ec = rw (first_begins p tau ed true et, ec) (goes _ el ed et ec refl)

  -- ---- a report with the whole budget left is that of the first plan
  reached_within : {l : ℕ} {t : Turn} → Reached p tau l t → l ≤ cap
  reached_within first = le_refl cap
  reached_within (later r) = let h = reached_within r in omega arith

  pub whole_budget : (need : Float) → lt 0ᶠ tau ≡ true → CapReported p tau need cap → plan_ahead x ≡ FirstPlan.OverCap need cap
  whole_budget need l h = go h.plan refl h.factors h.size h.steps h.above
    where
      go : {left : ℕ} {o : List Float} {rest : Float} → Planning p tau left o rest → left ≡ cap → factors_finite p o ≡ true → positive (times_norm p o rest) ≡ true
          → need ≡ needed (times_norm p o rest) → T (lt (whole (pos cap)) need) → plan_ahead x ≡ FirstPlan.OverCap need cap
      go (at_first d) e f s n above = rw n ((first_when x _).1 (over l d s (rw n at above)))
      go (again r w) e f s n above = let k = reached_within r.reached in absurd (omega arith)
