-- The first row has no row before it. Assumes nothing.
use mathlib.Core.Path.{◌≡◌, refl, ap, ◌∙◌}
use mathlib.Core.List.{List}
use Prim.Native.Nat.{ℕ, zero, suc, ◌-◌, ◌<◌}
use native.Mathlib.Omega.{arith}
use lib.Ieee.{Float}
use Rattle.elementary.specs.Float.{◌⊖◌, 0ᶠ}
use Rattle.elementary.specs.Elementary.{EXP, or_nan}
use Rattle.operator.specs.Vectors.{at}
use Rattle.operator.specs.Operator.{left_at}
use Rattle.operator.proofs.factors.left_factor.Goals as goal

first : (o : List Float) (i : ℕ) → i ≡ 0 → 0ᶠ ≡ left_at o i
unfolding left_at
first o zero h = refl
first o (suc i) h = absurd (omega arith)

later : (o : List Float) (i : ℕ) → 0 < i → or_nan (EXP (at o (i - 1) ⊖ at o i)) ≡ left_at o i
unfolding left_at
later o zero h = absurd (omega arith)
later o (suc i) h = ap (λ (k : ℕ). or_nan (EXP (at o k ⊖ at o (suc i)))) (omega arith)

pub returns-then-i-eq0 : goal.returns-then-i-eq0
returns-then-i-eq0 c = first _ _ c.if-i-eq0.true

pub returns : goal.returns
returns c = c.factor.ensures ∙ later _ _ (omega arith)
