use mathlib.Core.Path.{sym, ◌∙◌}
use Prim.Native.Nat.{◌<◌, ◌≤◌}
use native.Mathlib.Numerals.{add-one}
use native.Mathlib.Omega.{arith}
use lib.ListN.{length}
use lib.Seq.{take_all, take-suc-set}
use Rattle.record.specs.Inner.{NumberIs, Stored}
use Rattle.record.proofs.Reading.{passed_none, passed_more, passed_refused, passed_all, answer_refused, answer_taken}
use Rattle.record.proofs.record.take_numbers.Goals as goal
use Rattle.elementary.proofs.Results.{handed_on}

pub loop-slot-init : goal.loop-slot-init
loop-slot-init c = passed_none _ _ _ _ c.place_in-next.ensures

pub returns-in_err-value : goal.returns-in_err-value
unfolding NumberIs Stored
returns-in_err-value c =
    let l = c.loop-slot in
    let r = rw c.in_err-value.was at c.read_number.ensures in
    let h = c.loop-slot-test.true in
    record { value = handed_on c.from_residual.result c.in_err-value.field-0.0 c.from_residual.ensures.1 ∙ answer_refused _ _ _ _ _ _ l.invariant _ h r.0; stored = rw (passed_refused _ _ _ _ _ _ l.invariant _ h r.0) tt }

pub loop-slot-preserved : goal.loop-slot-preserved
unfolding NumberIs
loop-slot-preserved c =
    let l = c.loop-slot in
    let r = rw c.in_ok-value.was at c.read_number.ensures in
    let h : l.slot-index < length l.out = omega arith in
    rw (add-one l.slot-index, take-suc-set l.out l.slot-index _ h) (rw (add-one l.slot-index) at (passed_more _ _ _ _ _ _ _ _ l.invariant c.loop-slot-test.true r.0 r.1))

pub returns : goal.returns
unfolding Stored
returns c =
    let l = c.loop-slot in
    let h = c.loop-slot-test.false in
    let whole : length l.out ≤ l.slot-index = omega arith in
    record { value = answer_taken _ _ _ _ _ _ l.invariant h; stored = rw (passed_all _ _ _ _ _ _ l.invariant h) (sym (take_all l.slot-index l.out whole)) }
