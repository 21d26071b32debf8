-- The letter's place, the float's and the number's, one after the other. Assumes nothing.
use Rattle.harness.specs.Texts.{lettered, after_lettered, capped, after_capped}
use Rattle.harness.proofs.text.put_cap.Goals as goal

pub returns : goal.returns
unfolding capped after_capped lettered after_lettered
returns c =
    let p = c.put-next.ensures in
    rw (← p.out_after, ← p.value, ← c.put_float-next.ensures.out_after, ← c.put_float-next.ensures.value, ← c.from.ensures) (record { out_after = c.put_number.ensures.out_after; value = c.put_number.ensures.value })
