-- k and base, the numbers of the run, the holding. Assumes nothing.
use mathlib.Core.Path.{◌≡◌, sym, ap, ◌∙◌}
use lib.IntN.{ℤ, nat_abs}
use lib.Dec.{leb}
use mir.Facts.{to_z-of_z}
use Rattle.elementary.specs.Checks.{passes, verdict, first_of, first_failing, check_of}
use Rattle.elementary.proofs.Checks.{check_passes, check_refused}
use Rattle.elementary.proofs.Results.{handed_on}
use Rattle.plan.specs.Input.{input_checks}
use Rattle.distances.proofs.Checked.{entry_next, scale_refused}
use Rattle.distances.proofs.entry.check_entry.Goals as goal

pub returns-in_err-check_input : goal.returns-in_err-check_input
unfolding first_of check_of
returns-in_err-check_input c =
    let r = check_refused (first_failing (input_checks c.args.input)) _ (sym c.in_err-check_input.was ∙ c.check_input.ensures) in
    rw (handed_on c.from_residual.result c.in_err-check_input.field-0.0 c.from_residual.ensures.1, entry_next _ _ _ _ (sym c.scale_fits.ensures ∙ c.if-scale_fits.true), r)

pub returns-then-within : goal.returns-then-within
unfolding first_failing first_of verdict check_of
returns-then-within c =
    let input-is : first_failing (input_checks c.args.input) ≡ passes = check_passes _ (sym c.in_ok-check_input.was ∙ c.check_input.ensures) in
    let held : let a = c.args in leb (nat_abs a.q) a.input.bound ≡ c.within.result = sym (c.within.ensures ∙ ap (λ (z : ℤ). leb (nat_abs z) c.args.input.bound) (to_z-of_z c.ranges.q)) in
    rw (entry_next _ _ _ _ (sym c.scale_fits.ensures ∙ c.if-scale_fits.true), input-is, held, c.if-within.true)

pub returns-then-scale_fits : goal.returns-then-scale_fits
unfolding first_failing first_of verdict check_of
returns-then-scale_fits c =
    let input-is : first_failing (input_checks c.args.input) ≡ passes = check_passes _ (sym c.in_ok-check_input.was ∙ c.check_input.ensures) in
    let held : let a = c.args in leb (nat_abs a.q) a.input.bound ≡ c.within.result = sym (c.within.ensures ∙ ap (λ (z : ℤ). leb (nat_abs z) c.args.input.bound) (to_z-of_z c.ranges.q)) in
    rw (entry_next _ _ _ _ (sym c.scale_fits.ensures ∙ c.if-scale_fits.true), input-is, held, c.if-within.false)

pub returns : goal.returns
unfolding check_of
returns c = rw (scale_refused _ _ _ _ (sym c.scale_fits.ensures ∙ c.if-scale_fits.false))
