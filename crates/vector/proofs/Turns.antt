-- A turn of the run: its weights come from its own Taylor sum. Assumes nothing.
use mathlib.Core.Path.{◌≡◌, refl, subst}
use Prim.Native.Nat.{ℕ, zero, suc}
use native.Mathlib.Nat.{sub-le}
use native.Mathlib.Omega.{arith}
use mathlib.Core.Bool.{Bool, true, false}
use mathlib.Core.List.{List}
use lib.Ieee.{Float}
use Rattle.elementary.specs.Float.{◌⊗◌}
use Rattle.elementary.specs.Reply.{Reply, value, refusal}
use Rattle.series.specs.Series.{taylor_step}
use Rattle.plan.specs.Plan.{Fixed, Going, Turn, cap}
use Rattle.vector.specs.Run.{divided, rebalance, next, stepped, step_operator, turn}
use Rattle.vector.specs.Promises.{divided_only, rebalanced, SumOf, OwnSum}
use Rattle.plan.proofs.Begun.{TurnOk, begin_ok}

-- ---- a step whose Taylor sum is v
module _ (p : Fixed) (b : ℕ) (g : Going) (v : List Float) (e : taylor_step (step_operator p g) (p.eta ⊗ g.dt) g.w ≡ value v) where
  rebalance_ok : (t : Bool) (rest : Float) → TurnOk b (SumOf p g) (rebalance t p b (divided p.n v) g.o rest)
  unfolding rebalance
  rebalance_ok false rest = sub-le cap b
  rebalance_ok true rest = begin_ok (SumOf p g) p b _ _ rest (v, e, rebalanced refl refl)

  next_ok : (s : ℕ) (c : Bool) → TurnOk b (SumOf p g) (next s c p b g (divided p.n v))
  unfolding next
  next_ok zero c = ((v, e, divided_only refl refl), omega arith)
  next_ok (suc s) false = (v, e, divided_only refl refl)
  next_ok (suc s) true = rebalance_ok _ _

pub turn_ok : (p : Fixed) (b : ℕ) (g : Going) → TurnOk b (SumOf p g) (turn p b g)
unfolding turn stepped
turn_ok p b g = go (taylor_step (step_operator p g) (p.eta ⊗ g.dt) g.w) refl
  where
    go : (r : Reply (List Float)) → taylor_step (step_operator p g) (p.eta ⊗ g.dt) g.w ≡ r → TurnOk b (SumOf p g) (stepped p b g r)
    go (refusal n) e = sub-le cap (suc b)
    go (value v) e = next_ok p b g v e _ _

pub own_sum : OwnSum
own_sum p b g = (λ g' e. ok e, λ w o s e. (ok e).0)
  where
    ok : {t : Turn} → turn p b g ≡ t → TurnOk b (SumOf p g) t
    ok e = subst (TurnOk b (SumOf p g)) e (turn_ok p b g)
