-- With time left the rows that stand for all of them are run. Assumes nothing.
use mathlib.Core.Path.{◌≡◌}
use native.Mathlib.Nat.{le_refl}
use native.Mathlib.Omega.{arith}
use mathlib.Core.Bool.{false}
use lib.Ieee.{lt}
use Rattle.elementary.specs.Float.{0ᶠ, 1ᶠ}
use Rattle.operator.specs.Vectors.{fill}
use Rattle.operator.specs.Operator.{rows}
use Rattle.plan.specs.Plan.{fixed}
use Rattle.vector.specs.Run.{run, run_from}
use Rattle.vector.specs.Values.{vector_of, vector_by}
use Rattle.plan.specs.declared.RunInput.{RunInput}
use Rattle.vector.specs.declared.ValueVector.{ValueVector}
use Rattle.vector.specs.declared.Outcome.TheVariants as Outcome
use Rattle.plan.proofs.Bounds.{bound_range}
use Rattle.vector.proofs.Stands.{all_stand, half_stands}
use Rattle.vector.proofs.run.run_vector.Goals as goal

-- no time is left
at_once : (x : RunInput) (v : ValueVector) → lt 0ᶠ x.tau ≡ false → v ≡ vector_of (rows x.bound) (fill (rows x.bound) 1ᶠ) (fill (rows x.bound) 0ᶠ)
    → record { outcome = Outcome.Done 0; vector = v } ≡ vector_by (rows x.bound) (run x)
unfolding run run_from fixed vector_by
at_once x v h e = rw (h, e)

pub run_back-requires : goal.run_back-requires
run_back-requires c =
    let p = c.requires in
    let r = bound_range c.args.input.bound p.0 in
    record { start = (omega (arith, r.0), omega (arith, r.0), r.1, c.if-input.true, c.at_end.ensures); rows_stand = half_stands _ _ _ _ p.0 p.1 p.2 c.if-input-2.true }

pub run_back-requires-then-input : goal.run_back-requires-then-input
run_back-requires-then-input c =
    let r = bound_range c.args.input.bound c.requires.0 in
    record { start = (omega (arith, r.0), le_refl _, r.1, c.if-input.true, c.at_end-then-input.ensures); rows_stand = all_stand _ _ _ _ }

pub returns : goal.returns
returns c = at_once _ _ c.if-input.false c.at_end-2.ensures
