-- `harness::standard::put_cut` meets its contract: the line stands where there is room for it. Assumes nothing.
use borrow.Author.Tests.{ne_eqb}
use mathlib.Core.Path.{refl}
use Rattle.harness.specs.Texts.{cut_by, after_cut}
use Rattle.harness.proofs.standard.put_cut.Goals as goal

pub returns-then-left-eq0 : goal.returns-then-left-eq0
unfolding cut_by after_cut
returns-then-left-eq0 c = rw c.if-left-eq0.true (record { out_after = refl; value = refl })

pub returns : goal.returns
unfolding cut_by after_cut
returns c =
    rw (ne_eqb c.args.left 0 c.if-left-eq0.false, ← c.make_room-at.ensures) (record { out_after = c.put.ensures.out_after; value = c.put.ensures.value })
