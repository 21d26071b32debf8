-- The space's place and the text's, one after the other. Assumes nothing.
use Rattle.harness.specs.Texts.{spaced, after_spaced}
use Rattle.desk.proofs.line.put_field.Goals as goal

pub returns : goal.returns
unfolding spaced after_spaced
returns c =
    let p = c.put-next.ensures in
    rw (← p.out_after, ← p.value) (record { out_after = c.put.ensures.out_after; value = c.put.ensures.value })
