-- What each step of a run keeps, its end has; a run spends at most the cap, and a cap report leaves at most the whole budget. Assumes nothing.
use mathlib.Core.Path.{subst}
use Prim.Native.Nat.{ℕ, zero, suc, ◌≤◌}
use native.Mathlib.Nat.{le_refl, le_trans}
use native.Mathlib.Omega.{arith}
use mathlib.Core.Bool.{Bool, true, false}
use mathlib.Core.List.{List}
use lib.Ieee.{Float, lt}
use Rattle.elementary.specs.Float.{0ᶠ, 1ᶠ}
use Rattle.operator.specs.Vectors.{fill}
use Rattle.plan.specs.Plan.{Ended, vector, over_cap, failed, Fixed, Going, Turn, going, ended, cap, fixed, first_if}
use Rattle.vector.specs.Run.{turn, run_on, run_for, run_from, run, spent}
use Rattle.vector.specs.Promises.{StepsWithin, BudgetWithin, SumOf}
use Rattle.plan.specs.declared.RunInput.{RunInput}
use Rattle.plan.proofs.Begun.{Any, EndOk, TurnOk, begin_ok}
use Rattle.vector.proofs.Turns.{turn_ok}

-- ---- what the first weights and offsets of a run have, and each step keeps, those at its end have
module _ (P : List Float → List Float → Type 0) (first : (n : ℕ) → P (fill n 1ᶠ) (fill n 0ᶠ)) (keeps : (p : Fixed) (g : Going) (w o : List Float) → P g.w g.o → SumOf p g w o → P w o) where
  -- where the run has ended, Q being what its weights and offsets have
  end_ok : (Q : List Float → List Float → Type 0) → ((w o : List Float) → Q w o → P w o) → (b : ℕ) (r : Ended) → b ≤ cap → EndOk b Q r → EndOk cap P r
  end_ok Q f b (vector w o s) h e = (f w o e.0, e.1)
  end_ok Q f b (over_cap need c) h e = (le_trans e.0 h, e.1)
  end_ok Q f b (failed s) h e = e

  -- where it goes on, with b steps of the budget left
  on_ok : (Q : List Float → List Float → Type 0) → ((w o : List Float) → Q w o → P w o) → (b : ℕ) (p : Fixed) (t : Turn) → b ≤ cap → TurnOk b Q t → EndOk cap P (run_on b p t)
  unfolding run_on
  on_ok Q f zero p (ended r) h e = end_ok Q f 0 r h e
  on_ok Q f (suc b) p (ended r) h e = end_ok Q f (suc b) r h e
  on_ok Q f zero p (going g) h e = le_refl cap
  on_ok Q f (suc b) p (going g) h e = on_ok (SumOf p g) (λ w o. keeps p g w o (f g.w g.o e)) b p (turn p b g) (omega arith) (turn_ok p b g)

  -- a first turn, whatever the diagonal
  first_ok : (d : Bool) (p : Fixed) (tau : Float) → TurnOk cap P (first_if d p tau)
  unfolding first_if
  first_ok false p tau = omega arith
  first_ok true p tau = begin_ok P p cap _ _ tau (first p.n)

  -- the whole run
  pub run_ok : (x : RunInput) → EndOk cap P (run x)
  unfolding run run_from
  run_ok x = go (lt 0ᶠ x.tau)
    where
      go : (later : Bool) → EndOk cap P (run_for later (fixed x) x.tau)
      go false = (first (fixed x).n, omega arith)
      go true = on_ok P (λ w o e. e) cap _ _ (le_refl cap) (first_ok _ _ x.tau)

-- ---- the steps, of whatever weights
any_ok : (x : RunInput) → EndOk cap Any (run x)
any_ok = run_ok Any (λ n. tt) (λ p g w o h s. tt)

spent_within : (r : Ended) → EndOk cap Any r → spent r ≤ cap
unfolding spent
spent_within (vector w o s) e = e.1
spent_within (over_cap need b) e = omega arith
spent_within (failed s) e = e

pub steps_within : StepsWithin
steps_within x = spent_within (run x) (any_ok x)

pub budget_within : BudgetWithin
budget_within x need b e = (subst (EndOk cap Any) e (any_ok x)).0
