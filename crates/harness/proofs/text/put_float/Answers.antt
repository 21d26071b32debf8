-- `harness::text::put_float` meets its contract: the space's place and the text's, one after the other. Assumes nothing.
use Rattle.harness.specs.Texts.{spaced, after_spaced}
use Rattle.harness.proofs.text.put_float.Goals as goal

pub returns : goal.returns
unfolding spaced after_spaced
returns c =
    let p = c.put-next.ensures in
    rw (← p.out_after, ← p.value, ← c.bits_of.ensures) (record { out_after = c.put_hex.ensures.out_after; value = c.put_hex.ensures.value })
