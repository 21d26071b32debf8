-- Two rows are taken into locals. Assumes nothing.
use mathlib.Core.Path.{◌≡◌, refl, sym, ◌∙◌}
use mathlib.Core.Bool.{true}
use Rattle.series.specs.Slices.{step_fits, step_if}
use Rattle.series.proofs.Pairs.{same_series}
use Rattle.series.proofs.taylor.taylor_step.Goals as goal

pub returns-then-not-step_fits : goal.returns-then-not-step_fits
unfolding step_if
returns-then-not-step_fits c = rw (sym c.step_fits.ensures ∙ c.if-not-step_fits.true) refl

pub returns-then-v-eq2 : goal.returns-then-v-eq2
unfolding step_if
returns-then-v-eq2 c =
    let a = c.args in
    let fitting : step_fits a.v.now a.diag.now a.left.now a.right.now a.term.now ≡ true = sym c.step_fits.ensures ∙ c.if-not-step_fits.false in
    rw (fitting, c.if-half.true, c.if-v-eq2.true) (c.taylor_pair.ensures ∙ same_series a.diag.now a.left.now a.right.now a.eta_dt a.plain a.v.now)

pub returns : goal.returns
unfolding step_if
returns c =
    let a = c.args in
    let fitting : step_fits a.v.now a.diag.now a.left.now a.right.now a.term.now ≡ true = sym c.step_fits.ensures ∙ c.if-not-step_fits.false in
    rw fitting c.taylor_rows.ensures
