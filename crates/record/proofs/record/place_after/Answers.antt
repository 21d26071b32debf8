use Rattle.record.specs.Inner.{NumberIs}
use Rattle.record.proofs.Reading.{passed_none, passed_more, answer_refused, answer_taken}
use Rattle.record.proofs.record.place_after.Goals as goal
use Rattle.elementary.proofs.Results.{handed_on}
use mathlib.Core.Path.{◌∙◌}

pub loop-init : goal.loop-init
loop-init c = (_, passed_none _ _ _ _ c.place_in-next.ensures)

pub returns-in_err-place : goal.returns-in_err-place
unfolding NumberIs
returns-in_err-place c =
    let r = rw c.in_err-place.was at c.read_number.ensures in
    handed_on c.from_residual.result c.in_err-place.field-0.0 c.from_residual.ensures.1
    ∙ answer_refused _ _ _ _ _ _ c.loop.invariant.1 _ c.loop-test.true r.0

pub loop-preserved : goal.loop-preserved
unfolding NumberIs
loop-preserved c =
    let r = rw c.in_ok-place.was at c.read_number.ensures in
    (_, passed_more _ _ _ _ _ _ _ _ c.loop.invariant.1 c.loop-test.true r.0 r.1)

pub returns : goal.returns
returns c = answer_taken _ _ _ _ _ _ c.loop.invariant.1 c.loop-test.false
