-- Document 01, module 3: the run that gives the value vector. Definitions only.
use Rattle.std.specs.Prelude.{ℕ, zero, suc, ◌-◌, Bool, true, false, ◌&&◌, List, ltb, Float}
use Rattle.std.specs.Float.{inf}
use Rattle.std.specs.Float.Ieee.{lt}
use Rattle.elementary.specs.Float.{◌⊕◌, ◌⊖◌, ◌⊗◌, ◌⊘◌, hex, 0ᶠ, 1ᶠ, positive}
use Rattle.elementary.specs.Reply.{Reply, value, refusal}
use Rattle.elementary.specs.Elementary.{LN, or_nan}
use Rattle.operator.specs.Vectors.{tab, at, fill, every, fold, larger, smaller}
pub use Rattle.operator.specs.Operator.{rows}
use Rattle.series.specs.Series.{Operator, taylor_step}
pub use Rattle.plan.specs.Plan.{Ended, vector, over_cap, failed, going, cap, bound_ok}
unfoldable pub use Rattle.plan.specs.Plan.{fixed}
use Rattle.plan.specs.Plan.{Fixed, Going, Turn, ended, begin, first_turn}
use Rattle.plan.specs.declared.RunInput.{RunInput}

-- ---- a step
unfoldable pub divided : ℕ → List Float → List Float
divided n v = let m = fold larger 0ᶠ v in tab n (λ i. at v i ⊘ m)

-- rebalancing: steps remain and the smallest weight is below 1e-200
abbrev pub floor : Float
floor = hex 0x16687E92154EF7AC

unfoldable pub rebalances : Float → ℕ → Bool
rebalances smallest steps = ltb 0 steps && lt smallest floor

-- each weight, all of them positive, goes into its offset
unfoldable pub rebalance : Bool → Fixed → ℕ → List Float → List Float → Float → Turn
rebalance false p b w o rest = ended (failed (cap - b))
rebalance true p b w o rest = begin p b (fill p.n 1ᶠ) (tab p.n (λ i. at o i ⊕ or_nan (LN (at w i)))) rest

-- after a step, b steps of the budget left and so many of the plan: does it rebalance
unfoldable pub next : ℕ → Bool → Fixed → ℕ → Going → List Float → Turn
next zero c p b g w = ended (vector w g.o (cap - b))
next (suc s) false p b g w =
    going (record { w = w; o = g.o; left = g.left; right = g.right; dt = g.dt; remaining = g.remaining ⊖ g.dt; steps = suc s })
next (suc s) true p b g w = rebalance (every p.n (λ i. positive (at w i))) p b w g.o (g.remaining ⊖ g.dt)

unfoldable pub stepped : Fixed → ℕ → Going → Reply (List Float) → Turn
stepped p b g (refusal r) = ended (failed (cap - suc b))
stepped p b g (value v) =
    let w = divided p.n v in
    next (g.steps - 1) (rebalances (fold smaller (inf false) w) (g.steps - 1)) p b g w

unfoldable pub step_operator : Fixed → Going → Operator
step_operator p g = record { n = p.n; diagonal = tab p.n (λ i. at p.diagonal i ⊗ g.dt); left = g.left; right = g.right }

-- one step, b being the budget after it: the Taylor sum of the weights before it
unfoldable pub turn : Fixed → ℕ → Going → Turn
turn p b g = stepped p b g (taylor_step (step_operator p g) (p.eta ⊗ g.dt) g.w)

-- ---- the run
-- A plan keeps the budget, so a run that is going has some left.
unfoldable pub run_on : ℕ → Fixed → Turn → Ended
run_on zero p (ended r) = r
run_on (suc b) p (ended r) = r
run_on zero p (going g) = failed cap
run_on (suc b) p (going g) = run_on b p (turn p b g)

-- is there time left; and where the run then begins
unfoldable pub run_from : Bool → Fixed → Turn → Ended
run_from false p t = vector (fill p.n 1ᶠ) (fill p.n 0ᶠ) 0
run_from true p t = run_on cap p t

abbrev pub run_for : Bool → Fixed → Float → Ended
run_for later p tau = run_from later p (first_turn p tau)

-- time is left where tau is above zero
unfoldable pub run : RunInput → Ended
run x = run_for (lt 0ᶠ x.tau) (fixed x) x.tau

-- the finished steps, under a report and a refusal too
unfoldable pub spent : Ended → ℕ
spent (vector w o s) = s
spent (over_cap need b) = cap - b
spent (failed s) = s
