-- The letter's place, the float's and the numbers', one after the other. Assumes nothing.
use Rattle.desk.specs.Lines.{fields, after_fields, lined, after_lined}
use Rattle.desk.proofs.line.put_cap.Goals as goal

pub returns : goal.returns
unfolding lined after_lined fields after_fields
returns c =
    let p = c.put-at.ensures in
    rw (← p.out_after, ← p.value, ← c.put_float-at.ensures.out_after, ← c.put_float-at.ensures.value, ← c.from.ensures, ← c.put_number-at.ensures.out_after, ← c.put_number-at.ensures.value, ← c.from-2.ensures) (record { out_after = c.put_number.ensures.out_after; value = c.put_number.ensures.value })
