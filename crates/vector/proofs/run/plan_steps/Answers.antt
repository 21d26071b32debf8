-- A run that ends in r from the plan ends in r from where the steps have come. Assumes nothing.
use mathlib.Core.Path.{refl, sym, subst, ◌∙◌}
use native.Mathlib.Omega.{arith}
use native.Mathlib.Nat.{le_refl, le_trans}
use lib.ListN.{length}
use Rattle.elementary.specs.Float.{◌⊗◌}
use Rattle.series.specs.Series.{taylor_step}
use Rattle.series.specs.Slices.{SliceSum, Sizes, Fit}
use Rattle.series.specs.Half.{full_size, full, full_operator, SumIs, StandsFor}
use Rattle.operator.proofs.Slices.{ones_between_lem}
use Rattle.series.proofs.Steps.{step_stands}
use Rattle.vector.specs.Inner.{Sound}
use Rattle.vector.proofs.FullRun.{after_step_full}
use Rattle.vector.proofs.RunLaws.{stands_on, after_less}
use Rattle.vector.proofs.run.plan_steps.Goals as goal

pub loop-pace-init : goal.loop-pace-init
loop-pace-init c = (refl, refl, refl, c.requires.start.2, le_refl _, λ d r s. s)

pub loop-pace-smaller : goal.loop-pace-smaller
loop-pace-smaller c =
    let sound : Sound c.in-Going.going = rw c.in-Going.is at c.loop-pace.invariant.3 in
    rw c.in-Going.is (after_less _ _ _ _ _ _ _ sound _ _ _ c.after_step-pace.ensures).0

pub loop-pace-preserved : goal.loop-pace-preserved
loop-pace-preserved c =
    let going = c.in-Going.going in
    let a = c.args in
    let i = c.loop-pace.invariant in
    let t = c.taylor_step-settled in
    let p = c.requires.start in
    let z = c.requires.sizes in
    let plain = c.all_ones-plain in
    let stood : SumIs (full_size a.half (length a.w.now)) t.result (full a.half (length a.w.now) t.new.v) (taylor_step (full_operator a.half (length a.w.now) a.diag.now a.left.now a.right.now) (a.eta ⊗ going.dt) (full a.half (length a.w.now) c.loop-pace.w)) × Fit t.new.v =
    let sizes : Sizes (length a.w.now) a.diag.now a.left.now a.right.now c.loop-pace.term = record { diag_n = z.diag_n; left_n = z.left_n; right_n = z.right_n; term_n = i.2 ∙ z.term_n } in
    let step = step_stands a.half plain.result c.loop-pace.w a.diag.now a.left.now a.right.now c.loop-pace.term (a.eta ⊗ going.dt) (rw i.0 p.0) (rw i.0 sizes) (rw i.0 p.3)
    (λ e. ones_between_lem _ _ _ (z.left_n ∙ sym i.0) (sym plain.ensures ∙ e)) in
    rw i.0 at (subst (λ (r : SliceSum). StandsFor a.half c.loop-pace.w a.diag.now (a.eta ⊗ going.dt) a.left.now a.right.now r × Fit r.sum) (sym t.ensures) step) in
    let sound : Sound going = rw c.in-Going.is at i.3 in
    let after = c.after_step-pace in
    let less = after_less _ _ _ _ _ _ _ sound _ _ _ after.ensures in
    let n = t.auto.v ∙ i.0 in (
      after.auto.w ∙ n,
      after.auto.o ∙ i.1,
      t.auto.term ∙ i.2,
      less.2,
      le_trans less.1 (rw c.in-Going.is at i.4),
      λ d r s. stands_on _ _ _ _ _ _ _ _ _ _ _ _ _ sound stood.0 (after_step_full a.half (length a.w.now) (omega (arith, p.0)) going _ _ _ _ _ n stood.1 t.result (rw n at after.ensures)) (rw c.in-Going.is at (i.5 d r s)),
    )

pub returns-in-Behind : goal.returns-in-Behind
returns-in-Behind c =
    let i = c.loop-pace.invariant in
    record { keeps = λ d r s. rw c.in-Behind.is at (i.5 d r s); less = rw c.in-Behind.is at i.4 }
