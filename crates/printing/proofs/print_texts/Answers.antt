use mathlib.Core.Path.{sym, ap, ◌∙◌, subst}
use Prim.Native.Nat.{◌+◌, ◌<◌, ◌≤◌}
use native.Mathlib.Omega.{arith}
use lib.ListN.{length, take}
use Rattle.sheet.proofs.Texts.{room_most}
use Rattle.sheet.proofs.Fills.{fills_move}
use Rattle.printing.specs.Printing.{Next, Counted}
use Rattle.printing.proofs.Handing.{handed_on, Handing, handing_none, handing_next, handing_all}
use Rattle.printing.proofs.print_texts.Goals as goal

pub loop-at-init : goal.loop-at-init
loop-at-init c = (subst (Handing _ _ 0) (sym c.none_done-done.ensures) (handing_none _ _), c.large_buffer-out.ensures, omega arith)

pub fill-texts-requires : goal.fill-texts-requires
fill-texts-requires c = omega (arith, c.loop-at.invariant.1, room_most c.args.kind)

pub hand_on-requires : goal.hand_on-requires
hand_on-requires c =
    let next : let a = c.args in Next a.kind a.s.now c.loop-at.done.count c.first.result.now × Handing a.kind a.s.now c.fill-texts.result.next (c.loop-at.done.count + length c.first.result.now) = let a = c.args in
    handing_next a.kind a.s.now c.loop-at.at c.loop-at.done.count c.loop-at.invariant.0 c.loop-at.out c.first.result.now c.fill-texts.result.count c.fill-texts.result.next c.fill-texts.ensures.filled
    (c.first.ensures ∙ ap (take c.fill-texts.result.count) c.fill-texts.ensures.out_after) in
    next.0

pub returns-in-Err : goal.returns-in-Err
unfolding Counted
returns-in-Err c = tt

pub loop-at-smaller : goal.loop-at-smaller
loop-at-smaller c =
    let moves : (c.loop-at.at < c.fill-texts.result.next) × (c.fill-texts.result.next ≤ length c.args.s.now) = let a = c.args in
    fills_move a.kind a.s.now c.loop-at.at c.loop-at.out _ _ c.fill-texts.ensures.filled c.loop-at-test.true in
    omega (arith, moves)

pub loop-at-preserved : goal.loop-at-preserved
loop-at-preserved c =
    let next : let a = c.args in Next a.kind a.s.now c.loop-at.done.count c.first.result.now × Handing a.kind a.s.now c.fill-texts.result.next (c.loop-at.done.count + length c.first.result.now) = let a = c.args in
    handing_next a.kind a.s.now c.loop-at.at c.loop-at.done.count c.loop-at.invariant.0 c.loop-at.out c.first.result.now c.fill-texts.result.count c.fill-texts.result.next c.fill-texts.ensures.filled
    (c.first.ensures ∙ ap (take c.fill-texts.result.count) c.fill-texts.ensures.out_after) in
    let moves : (c.loop-at.at < c.fill-texts.result.next) × (c.fill-texts.result.next ≤ length c.args.s.now) = let a = c.args in
    fills_move a.kind a.s.now c.loop-at.at c.loop-at.out _ _ c.fill-texts.ensures.filled c.loop-at-test.true in
    let n = handed_on _ _ _ c.in-Ok.is c.hand_on.ensures in
    (subst (Handing _ _ _) (sym n) next.1, c.loop-at.invariant.1 ∙ sym c.fill-texts.auto.out, moves.1)

pub returns : goal.returns
unfolding Counted
returns c = c.count_of.ensures ∙ handing_all _ _ _ _ c.loop-at.invariant.0 c.loop-at-test.false
