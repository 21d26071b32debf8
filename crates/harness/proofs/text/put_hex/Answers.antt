use Rattle.std.proofs.Common.{sym, ◌∙◌, arith}
use Rattle.harness.specs.Texts.{hex}
use Rattle.harness.proofs.Placing.{placed_none, copied_none}
use Rattle.harness.proofs.Hex.{hex_more, hex_all}
use Rattle.harness.proofs.text.put_hex.Goals as goal

pub returns-then-not-has_room : goal.returns-then-not-has_room
unfolding hex
returns-then-not-has_room c = let p = placed_none _ _ _ (sym c.has_room.ensures ∙ c.if-not-has_room.true) in record { out_after = p.0; value = p.1 }

pub loop-i-init : goal.loop-i-init
unfolding hex
loop-i-init c = copied_none _ _ _ (sym c.has_room.ensures ∙ c.if-not-has_room.false)

pub bounds-out-at : goal.bounds-out-at
unfolding hex
bounds-out-at c = omega (arith, c.loop-i.invariant.room, c.loop-i.invariant.size)

pub loop-i-preserved : goal.loop-i-preserved
loop-i-preserved c = hex_more _ _ _ _ _ _ c.loop-i.invariant c.loop-i-test.true c.digit.ensures

pub returns : goal.returns
returns c =
    let p = hex_all _ _ _ _ _ c.loop-i.invariant (omega (arith, c.loop-i.auto.i-end, c.loop-i-test.false)) in
    record { out_after = p.0; value = p.1 }
