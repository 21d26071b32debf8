-- `harness::text::put_signed` meets its contract: the sign's place, where there is one, and the digits'. Assumes nothing.
use mir.Facts.{to_z-of_z}
use Rattle.harness.specs.Texts.{signed_by, after_signed}
use Rattle.harness.proofs.text.put_signed.Goals as goal

pub returns-then-n-lt0 : goal.returns-then-n-lt0
unfolding signed_by after_signed
returns-then-n-lt0 c =
    let p = c.put-next.ensures in
    let t = rw (to_z-of_z c.ranges.n) at c.if-n-lt0.true in
    let z = rw (to_z-of_z c.ranges.n) at c.unsigned_abs.ensures.value in
    rw (t, ← z, ← p.out_after, ← p.value) (record { out_after = c.put_count.ensures.out_after; value = c.put_count.ensures.value })

pub returns : goal.returns
unfolding signed_by after_signed
returns c =
    let t = rw (to_z-of_z c.ranges.n) at c.if-n-lt0.false in
    let z = rw (to_z-of_z c.ranges.n) at c.unsigned_abs-2.ensures.value in
    rw (t, ← z) (record { out_after = c.put_count-2.ensures.out_after; value = c.put_count-2.ensures.value })
