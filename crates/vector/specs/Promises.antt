-- What holds of every run, as named statements. Each is proved once, in proofs/. Definitions only.
use Rattle.std.specs.Prelude.{◌≡◌, ℕ, ◌≤◌, Bool, true, List, T, length, Float}
use Rattle.std.specs.Float.{binary64}
use Rattle.std.specs.Float.Ieee.{neg, fits}
use Rattle.elementary.specs.Float.{◌⊕◌, ◌⊗◌, 1ᶠ}
use Rattle.elementary.specs.Reply.{value}
use Rattle.elementary.specs.Elementary.{LN, or_nan}
use Rattle.operator.specs.Vectors.{at, tab, fill}
unfoldable pub use Rattle.operator.specs.Vectors.{Mirror}
use Rattle.series.specs.Series.{taylor_step}
use Rattle.operator.specs.Operator.{rows}
use Rattle.plan.specs.Plan.{Ended, vector, over_cap, failed, Fixed, fixed_over, Going, going, ended, cap, bound_ok}
use Rattle.vector.specs.Run.{run, run_for, turn, step_operator, divided, spent}
use Rattle.vector.specs.Values.{value_vector}
use Rattle.plan.specs.Input.{rates_ok}
use Rattle.plan.specs.declared.RunInput.{RunInput}

-- ---- the steps: never more than 11,000
abbrev pub StepsWithin : Type 0
StepsWithin = (x : RunInput) → spent (run x) ≤ cap

-- a report leaves no more than the whole budget
abbrev pub BudgetWithin : Type 0
BudgetWithin = (x : RunInput) (need : Float) (b : ℕ) → run x ≡ over_cap need b → b ≤ cap

-- ---- a finished run has a weight and an offset for each row
abbrev pub FullLength : Type 0
FullLength = (x : RunInput) (w o : List Float) (s : ℕ) → run x ≡ vector w o s → (length w ≡ rows x.bound) × (length o ≡ rows x.bound)

-- ---- each weight and each offset of a value vector, and what an index past its end reads, is a binary64: its bits give it back
abbrev pub FitVector : Type 0
FitVector = (x : RunInput) (i : ℕ) → T (fits binary64 (at (value_vector x).vector.w i)) × T (fits binary64 (at (value_vector x).vector.log_offset i))

-- ---- each step is the Taylor sum of the weights before it, divided by its largest entry
-- the weights and offsets after a step whose sum is v: as divided, or rebalanced
pub data After (p : Fixed) (o v : List Float) (w' o' : List Float) : Type 0 where
  divided_only : w' ≡ divided p.n v → o' ≡ o → After p o v w' o'
  rebalanced : w' ≡ fill p.n 1ᶠ → o' ≡ tab p.n (λ i. at o i ⊕ or_nan (LN (at (divided p.n v) i))) → After p o v w' o'

abbrev pub SumOf : Fixed → Going → List Float → List Float → Type 0
SumOf p g w' o' = (v : List Float) × (taylor_step (step_operator p g) (p.eta ⊗ g.dt) g.w ≡ value v) × After p g.o v w' o'

abbrev pub OwnSum : Type 0
OwnSum = (p : Fixed) (b : ℕ) (g : Going)
    → ((g' : Going) → turn p b g ≡ going g' → SumOf p g g'.w g'.o) × ((w o : List Float) (s : ℕ) → turn p b g ≡ ended (vector w o s) → SumOf p g w o)

-- ---- the mirror
unfoldable pub MirrorEnd : ℕ → Ended → Ended → Type 0
MirrorEnd n (vector w o s) (vector w' o' s') = Mirror n w w' × Mirror n o o' × (s ≡ s')
MirrorEnd n (vector w o s) (over_cap need b) = ⊥
MirrorEnd n (vector w o s) (failed s') = ⊥
MirrorEnd n (over_cap need b) (vector w o s) = ⊥
MirrorEnd n (over_cap need b) (over_cap need' b') = (need ≡ need') × (b ≡ b')
MirrorEnd n (over_cap need b) (failed s) = ⊥
MirrorEnd n (failed s) (vector w o s') = ⊥
MirrorEnd n (failed s) (over_cap need b) = ⊥
MirrorEnd n (failed s) (failed s') = s ≡ s'

-- two runs whose diagonals mirror each other end alike: weights and offsets mirrored, steps, reports and refusals equal
abbrev pub MirrorRuns : Type 0
MirrorRuns = (n : ℕ) (d d' : List Float) (eta : Float) → Mirror n d d' → (later : Bool) (tau : Float)
    → MirrorEnd n (run_for later (fixed_over n d eta) tau) (run_for later (fixed_over n d' eta) tau)

-- the drift turned: minus beta
abbrev pub turned_input : RunInput → RunInput
turned_input x = record { alpha = x.alpha; beta = neg x.beta; eta = x.eta; bound = x.bound; tau = x.tau }

-- the diagonal at q lots and beta is that at minus q and minus beta, so a run and the one with the drift turned are mirror images
abbrev pub TurnedMirror : Type 0
TurnedMirror = (x : RunInput) → bound_ok x.bound ≡ true → rates_ok x ≡ true → MirrorEnd (rows x.bound) (run x) (run (turned_input x))
