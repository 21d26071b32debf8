-- What the crate's own functions hand each other. No public contract cites this file. Definitions only.
use Rattle.std.specs.Prelude.{◌≡◌, ℕ, zero, suc, ◌+◌, ◌-◌, ◌≤◌, Bool, true, false, List, Float}
use Rattle.std.specs.Float.{inf}
use Rattle.elementary.specs.Float.{◌⊕◌, ◌⊖◌, ◌⊗◌, 1ᶠ, positive}
use Rattle.elementary.specs.Elementary.{LN, or_nan}
use Rattle.series.specs.Refusals.{numerical}
use Rattle.operator.specs.Vectors.{tab, at, fill, every, fold, smaller}
use Rattle.plan.specs.Plan.{Ended, vector, over_cap, failed, Fixed, fixed_over, Going, going, cap, begin}
use Rattle.vector.specs.Run.{rebalances, run_on}
use Rattle.vector.specs.declared.Outcome.{Outcome}
use Rattle.plan.specs.declared.plan.Planned.{Planned}
use Rattle.vector.specs.declared.run.Steps.{Steps}
use Rattle.vector.specs.declared.run.Next.{Next}
use Rattle.vector.specs.declared.run.Pace.{Pace}
use Rattle.elementary.specs.Checks.{by}

abbrev pub going_over : List Float → List Float → List Float → List Float → Float → Float → ℕ → Going
going_over w o left right dt remaining steps = record { w = w; o = o; left = left; right = right; dt = dt; remaining = remaining; steps = steps }

-- ---- the paces that the code makes
abbrev pub asked_of : ℕ → Float → Pace
asked_of b rest = Pace.Behind (Next.Plan b rest)

abbrev pub stopped_of : Outcome → Pace
stopped_of r = Pace.Behind (Next.Over r)

abbrev pub refused_pace : Pace
refused_pace = stopped_of (Outcome.Refused (by numerical))

abbrev pub paced_of : ℕ → ℕ → Float → Float → Pace
paced_of zero b rest dt = stopped_of (Outcome.Done (cap - b))
paced_of (suc s) zero rest dt = refused_pace
paced_of (suc s) (suc b) rest dt = Pace.Going (record { steps = suc s; budget = suc b; remaining = rest; dt = dt })

-- what the code answers for a plan, b being the budget left
abbrev pub told : ℕ → Float → Planned → Pace
told b rest (Planned.Steps s dt) = paced_of s b rest dt
told b rest (Planned.OverCap need) = stopped_of (Outcome.OverCap need b (cap - b))
told b rest Planned.Refused = refused_pace

-- steps to make have a budget for one at least
abbrev pub Sound : Steps → Type 0
Sound a = (1 ≤ a.steps) × (1 ≤ a.budget) × (a.budget ≤ cap)

abbrev pub SoundPace : Pace → Type 0
SoundPace (Pace.Going a) = Sound a
SoundPace (Pace.Behind q) = Unit {0}

-- ---- the end of a run
unfoldable pub EndIs : Ended → Outcome → List Float → List Float → Type 0
EndIs (vector w' o' s) r w o = (r ≡ Outcome.Done s) × (w ≡ w') × (o ≡ o')
EndIs (over_cap need b) r w o = r ≡ Outcome.OverCap need b (cap - b)
EndIs (failed s) r w o = r ≡ Outcome.Refused (by numerical)

-- ---- after a step, w being its weights divided: was it good, is there rebalancing, is each weight positive
unfoldable pub AfterBy : Bool → Bool → Bool → ℕ → Steps → List Float → List Float → Pace → List Float → List Float → Type 0
AfterBy false c e n a w o r w' o' = r ≡ refused_pace
AfterBy true false e n a w o r w' o' = (r ≡ paced_of (a.steps - 1) (a.budget - 1) (a.remaining ⊖ a.dt) a.dt) × (w' ≡ w) × (o' ≡ o)
AfterBy true true false n a w o r w' o' = r ≡ refused_pace
AfterBy true true true n a w o r w' o' = (r ≡ asked_of (a.budget - 1) (a.remaining ⊖ a.dt)) × (w' ≡ fill n 1ᶠ) × (o' ≡ tab n (λ i. at o i ⊕ or_nan (LN (at w i))))

abbrev pub AfterIs : Bool → ℕ → Steps → List Float → List Float → Pace → List Float → List Float → Type 0
AfterIs good n a w o r w' o' = AfterBy good (rebalances (fold smaller (inf false) w) (a.steps - 1)) (every n (λ i. positive (at w i))) n a w o r w' o'

-- ---- a run that ends in r, by what follows the steps of a plan
abbrev pub NextIs : Fixed → Ended → List Float → List Float → Next → Type 0
NextIs p r w o (Next.Plan b rest) = (b ≤ cap) × (w ≡ fill p.n 1ᶠ) × (run_on b p (begin p b (fill p.n 1ᶠ) o rest) ≡ r)
NextIs p r w o (Next.Over q) = EndIs r q w o

-- and by where it stands
abbrev pub Standing : Fixed → Ended → List Float → List Float → List Float → List Float → List Float → Pace → Type 0
Standing p r w o left right diag (Pace.Going a) =
    (diag ≡ tab p.n (λ i. at p.diagonal i ⊗ a.dt)) × (run_on a.budget p (going (going_over w o left right a.dt a.remaining a.steps)) ≡ r)
Standing p r w o left right diag (Pace.Behind q) = NextIs p r w o q

-- the budget, and one more where a plan is asked for
abbrev pub weight : Next → ℕ
weight (Next.Plan b rest) = b + 1
weight (Next.Over q) = 0

abbrev pub pace_weight : Pace → ℕ
pace_weight (Pace.Going a) = a.budget
pace_weight (Pace.Behind q) = weight q

-- a plan for the rest of the time
pub record BegunIs (p : Fixed) (b : ℕ) (rest : Float) (o left right diag : List Float) (a : Pace) : Type 0 where
  pub stands : Standing p (run_on b p (begin p b (fill p.n 1ᶠ) o rest)) (fill p.n 1ᶠ) o left right diag a
  pub sound : SoundPace a
  pub less : pace_weight a ≤ b

-- after the steps of a plan over n rows, whatever the diagonal and the run's end
pub record PlanSpent (n : ℕ) (eta : Float) (w o left right diag : List Float) (a : Pace) (w' o' : List Float) (q : Next) : Type 0 where
  pub keeps : (d : List Float) (r : Ended) → Standing (fixed_over n d eta) r w o left right diag a → NextIs (fixed_over n d eta) r w' o' q
  pub less : weight q ≤ pace_weight a
