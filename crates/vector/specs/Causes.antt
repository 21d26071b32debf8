-- Which runs end in 11, and which in a cap report, by the states that they reach: named statements, each proved once, in proofs/. Definitions only.
use Rattle.std.specs.Prelude.{◌≡◌, ◌↔◌, ℕ, suc, ◌-◌, ◌≤◌, Bool, true, false, ◌&&◌, List, pos, T, Float}
use Rattle.std.specs.Float.{inf}
use Rattle.std.specs.Float.Ieee.{lt}
use Rattle.elementary.specs.Float.{◌⊕◌, ◌⊖◌, ◌⊗◌, whole, 0ᶠ, finite, positive}
use Rattle.elementary.specs.Reply.{Reply, value}
use Rattle.elementary.specs.Elementary.{LN, or_nan}
use Rattle.operator.specs.Vectors.{tab, at, fill, every, fold, smaller}
use Rattle.operator.specs.Operator.{left_at, right_at}
use Rattle.series.specs.Series.{taylor_step}
use Rattle.series.specs.Causes.{SeriesFails}
use Rattle.plan.specs.Plan.{Ended, over_cap, failed, Fixed, Going, Turn, going, ended, cap, norm, needed, diagonal_finite, first_turn, fixed}
use Rattle.vector.specs.Run.{divided, rebalances, step_operator, turn, run}
use Rattle.plan.specs.declared.RunInput.{RunInput}

-- what a run over tau meets: its states, each with the budget left
pub data Reached (p : Fixed) (tau : Float) : ℕ → Turn → Type 0 where
  first : Reached p tau cap (first_turn p tau)
  later : {b : ℕ} {g : Going} → Reached p tau (suc b) (going g) → Reached p tau b (turn p b g)

-- a run that is going has steps to go, and no more than the budget left: so it never goes on without a budget
abbrev pub GoingKeeps : Type 0
GoingKeeps = (p : Fixed) (tau : Float) (b : ℕ) (g : Going) → Reached p tau b (going g) → (1 ≤ g.steps) × (g.steps ≤ b)

-- the result of a run is the end that it meets
abbrev pub RunsEnd : Type 0
RunsEnd = (x : RunInput) (r : Ended) → lt 0ᶠ x.tau ≡ true
    → (run x ≡ r) ↔ ((b : ℕ) × Reached (fixed x) x.tau b (ended r))

-- ---- a step of a run: its sum, or why there is none
abbrev pub step_sum : Fixed → Going → Reply (List Float)
step_sum p g = taylor_step (step_operator p g) (p.eta ⊗ g.dt) g.w

abbrev pub StepFails : Fixed → Going → Type 0
StepFails p g = SeriesFails (step_operator p g) (p.eta ⊗ g.dt) g.w

-- after a step from g whose sum is v, with b steps of the budget left: steps remain and the smallest weight is below 1e-200
pub record Rebalancing (p : Fixed) (tau : Float) (b : ℕ) (g : Going) (v : List Float) : Type 0 where
  pub reached : Reached p tau (suc b) (going g)
  pub summed : step_sum p g ≡ value v
  pub low : rebalances (fold smaller (inf false) (divided p.n v)) (g.steps - 1) ≡ true

-- is every weight, v divided, finite and positive; the offsets with their logarithms
abbrev pub weights_positive : Fixed → List Float → Bool
weights_positive p v = every p.n (λ i. positive (at (divided p.n v) i))

abbrev pub new_offsets : Fixed → List Float → List Float → List Float
new_offsets p o v = tab p.n (λ i. at o i ⊕ or_nan (LN (at (divided p.n v) i)))

-- ---- the plans of a run: the budget left, the offsets and the time that remains, at first, where the diagonal is finite, and at each rebalancing
pub data Planning (p : Fixed) (tau : Float) : ℕ → List Float → Float → Type 0 where
  at_first : diagonal_finite p ≡ true → Planning p tau cap (fill p.n 0ᶠ) tau
  again : {b : ℕ} {g : Going} {v : List Float} → Rebalancing p tau b g v → weights_positive p v ≡ true → Planning p tau b (new_offsets p g.o v) (g.remaining ⊖ g.dt)

-- over offsets o: is every factor finite; time × norm
abbrev pub factors_finite : Fixed → List Float → Bool
factors_finite p o = every p.n (λ i. finite (at (tab p.n (left_at o)) i) && finite (at (tab p.n (right_at p.n o)) i))

abbrev pub times_norm : Fixed → List Float → Float → Float
times_norm p o rest = rest ⊗ norm p (tab p.n (left_at o)) (tab p.n (right_at p.n o))

-- why a plan fails: a factor is not finite; else time × norm is not finite and positive
pub data PlanFails (p : Fixed) (o : List Float) (rest : Float) : Type 0 where
  by_factor : factors_finite p o ≡ false → PlanFails p o rest
  by_norm : factors_finite p o ≡ true → positive (times_norm p o rest) ≡ false → PlanFails p o rest

-- ---- why a run fails, after so many finished steps: an entry of the diagonal is not finite; or a plan, a step's series, or a weight at a rebalancing does
pub data RunFails (p : Fixed) (tau : Float) : ℕ → Type 0 where
  by_diagonal : diagonal_finite p ≡ false → RunFails p tau 0
  by_plan : {b : ℕ} {o : List Float} {rest : Float} → Planning p tau b o rest → PlanFails p o rest → RunFails p tau (cap - b)
  by_series : {b : ℕ} {g : Going} → Reached p tau (suc b) (going g) → StepFails p g → RunFails p tau (cap - suc b)
  by_weight : {b : ℕ} {g : Going} {v : List Float} → Rebalancing p tau b g v → weights_positive p v ≡ false → RunFails p tau (cap - b)

abbrev pub RunsFail : Type 0
RunsFail = (x : RunInput) (s : ℕ) → (run x ≡ failed s) ↔ ((lt 0ᶠ x.tau ≡ true) × RunFails (fixed x) x.tau s)

-- ---- why a run reports the cap: a plan does not fail, and the steps that it needs, those reported, are above the budget left
pub record CapReported (p : Fixed) (tau need : Float) (b : ℕ) : Type 0 where
  pub offsets : List Float
  pub rest : Float
  pub plan : Planning p tau b offsets rest
  pub factors : factors_finite p offsets ≡ true
  pub size : positive (times_norm p offsets rest) ≡ true
  pub steps : need ≡ needed (times_norm p offsets rest)
  pub above : T (lt (whole (pos b)) need)

abbrev pub CapReports : Type 0
CapReports = (x : RunInput) (need : Float) (b : ℕ)
    → (run x ≡ over_cap need b) ↔ ((lt 0ᶠ x.tau ≡ true) × CapReported (fixed x) x.tau need b)
