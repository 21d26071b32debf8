-- Change request 7: at drift 0 the float entry and the count are those that are reckoned without any beta. The statement is proved once, in proofs/. Definitions only.
use Rattle.std.specs.Prelude.{◌≡◌, ℕ, true, ℤ, neg_ℤ, Float}
use Rattle.std.specs.Float.Ieee.{eq}
use Rattle.elementary.specs.Float.{0ᶠ}
use Rattle.plan.specs.Drift.{driftless_plan, driftless_input}
use Rattle.vector.specs.Drift.{driftless_run}
use Rattle.plan.specs.declared.RunInput.{RunInput}
use Rattle.plan.specs.declared.FirstPlan.{FirstPlan}
use Rattle.distances.specs.FloatEntry.{entry_over, float_entry, steps_over, float_steps}
use Rattle.distances.specs.Count.{count_over, step_count}
use Rattle.distances.specs.declared.FloatAnswer.{FloatAnswer}

-- from k, base, alpha, eta, the bound, tau and q: over the driftless run, and over its plan
unfoldable pub driftless_entry : Float → Float → Float → Float → ℕ → Float → ℤ → FloatAnswer
driftless_entry k base alpha eta bound tau q = entry_over (driftless_run alpha eta bound tau) k base (driftless_input alpha eta bound tau) q

unfoldable pub driftless_steps : Float → Float → Float → Float → ℕ → Float → ℤ → ℕ
driftless_steps k base alpha eta bound tau q = steps_over (driftless_run alpha eta bound tau) k base (driftless_input alpha eta bound tau) q

unfoldable pub driftless_count : Float → Float → Float → Float → ℕ → Float → ℤ → FirstPlan
driftless_count k base alpha eta bound tau q = count_over (driftless_plan alpha eta bound tau) k base (driftless_input alpha eta bound tau) q

-- ---- either zero, from any other numbers
pub record DriftZero : Type 0 where
  pub entry : (k base : Float) (x : RunInput) (q : ℤ) → eq x.beta 0ᶠ ≡ true → float_entry k base x q ≡ driftless_entry k base x.alpha x.eta x.bound x.tau q
  pub steps : (k base : Float) (x : RunInput) (q : ℤ) → eq x.beta 0ᶠ ≡ true → float_steps k base x q ≡ driftless_steps k base x.alpha x.eta x.bound x.tau q
  pub count : (k base : Float) (x : RunInput) (q : ℤ) → eq x.beta 0ᶠ ≡ true → step_count k base x q ≡ driftless_count k base x.alpha x.eta x.bound x.tau q
  -- and the two holdings of the mirror have one vector
  pub vector : (k base : Float) (x : RunInput) (q : ℤ) → eq x.beta 0ᶠ ≡ true → (float_entry k base x (neg_ℤ q)).vector ≡ (float_entry k base x q).vector
