use mathlib.Core.Path.{◌∙◌}
use Rattle.elementary.proofs.Results.{handed_on}
use Rattle.sheet.specs.Inner.{stepped_by}
use Rattle.sheet.proofs.text.stepped.Goals as goal

pub returns : goal.returns
unfolding stepped_by
returns c = rw c.in_ok-written.was

pub returns-in_err-written : goal.returns-in_err-written
unfolding stepped_by
returns-in_err-written c =
    handed_on c.from_residual.result c.in_err-written.field-0.0 c.from_residual.ensures.1 ∙ rw c.in_err-written.was
