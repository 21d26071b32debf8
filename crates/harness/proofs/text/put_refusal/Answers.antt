-- `harness::text::put_refusal` meets its contract: the letter's place and the number's, one after the other. Assumes nothing.
use Rattle.harness.specs.Texts.{lettered, after_lettered}
use Rattle.harness.proofs.text.put_refusal.Goals as goal

pub returns : goal.returns
unfolding lettered after_lettered
returns c =
    let p = c.put-next.ensures in
    rw (← p.out_after, ← p.value, ← c.from.ensures) (record { out_after = c.put_number.ensures.out_after; value = c.put_number.ensures.value })
