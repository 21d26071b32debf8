-- The place after bid and ask, and the steps'. Assumes nothing.
use Rattle.desk.specs.Lines.{fields, after_fields, lined, after_lined}
use Rattle.desk.proofs.line.put_counted.Goals as goal

pub returns : goal.returns
unfolding lined after_lined fields after_fields
returns c =
    let q = c.put_quotes-at.ensures in
    rw (← q.out_after, ← q.value, ← c.from.ensures) (record { out_after = c.put_number.ensures.out_after; value = c.put_number.ensures.value })
