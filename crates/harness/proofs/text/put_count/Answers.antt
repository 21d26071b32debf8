-- `harness::text::put_count` meets its contract: the fewest digits are the count's. Assumes nothing.
use mathlib.Core.Path.{sym, ◌∙◌}
use native.Mathlib.Omega.{arith}
use Rattle.harness.proofs.Counting.{count_is}
use Rattle.harness.proofs.text.put_count.Goals as goal

pub returns : goal.returns
returns c =
    let e = c.decimal-k.ensures.digits ∙ count_is _ _ (omega (arith, c.ranges.n)) c.decimal-k.ensures.len in
    rw (sym e) (record { out_after = c.put.ensures.out_after; value = c.put.ensures.value })
