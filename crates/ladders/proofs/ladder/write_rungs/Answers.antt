use Rattle.std.specs.Prelude.{Ok}
use mathlib.Core.Path.{◌≡◌, sym, ap, ◌∙◌, subst}
use Prim.Native.Nat.{◌+◌, ◌-◌, ◌<◌, ◌≤◌}
use native.Mathlib.Omega.{arith}
use lib.IntN.{ℤ}
use lib.ListN.{length}
use mir.Syntax.{w64}
use mir.Val.{SFits, to_z, of_z}
use mir.Facts.{to_z-of_z}
use borrow.Rule.Slice.PartMut.{mid_of, put_mid}
use Rattle.lots.specs.Reckoning.{reckoning, quotes_of_lots}
use Rattle.quote.specs.Replies.{ReplyKept}
use Rattle.ladders.specs.Ladder.{rungs, lot_at, ladder_line, ladder_lines, ladder}
use Rattle.lots.specs.declared.Reckoning.{Reckoning}
use Rattle.lines.proofs.Written.{line_there, same_written, never_refused}
use Rattle.lines.specs.Lines.{answer_line, least_room}
use Rattle.buffers.specs.Over.{over}
use Rattle.buffers.proofs.Texts.{part_room, wrote_as}
use Rattle.ladders.proofs.Rungs.{bound_checked, rung_kept, Laying, laying_none, laying_length, laying_room, laying_more}
use Rattle.ladders.proofs.ladder.write_rungs.Goals as goal

pub rungs_of-i-end-requires : goal.rungs_of-i-end-requires
rungs_of-i-end-requires c = bound_checked c.args.mid_price c.args.config c.args.volatility c.args.current_time c.requires.checked

pub loop-i-init : goal.loop-i-init
loop-i-init c = laying_none _ _ _ _

pub lot_at-lot-requires : goal.lot_at-lot-requires
lot_at-lot-requires c =
    let line-due : c.loop-i.i < rungs c.args.config = rw (← c.rungs_of-i-end.ensures) c.loop-i-test.true in
    let bounded : c.args.config.max_inventory_lots ≤ 200 = bound_checked c.args.mid_price c.args.config c.args.volatility c.args.current_time c.requires.checked in
    (bounded, omega (arith, bounded, line-due))

pub slice_bounds-write_answer-count : goal.slice_bounds-write_answer-count
slice_bounds-write_answer-count c =
    let line-due : c.loop-i.i < rungs c.args.config = rw (← c.rungs_of-i-end.ensures) c.loop-i-test.true in
    let room-left : let l = c.loop-i in (l.at + least_room ≤ length l.out) × (length l.out ≡ length c.args.out.now) = let l = c.loop-i in
    let p = c.requires.room in
    let e = laying_length _ _ _ _ _ _ _ l.invariant p in
    (rw e (laying_room _ _ _ _ _ _ _ l.invariant p line-due), e) in
    omega (arith, room-left)

pub slice_bounds-write_answer-start : goal.slice_bounds-write_answer-start
slice_bounds-write_answer-start c =
    let line-due : c.loop-i.i < rungs c.args.config = rw (← c.rungs_of-i-end.ensures) c.loop-i-test.true in
    let room-left : let l = c.loop-i in (l.at + least_room ≤ length l.out) × (length l.out ≡ length c.args.out.now) = let l = c.loop-i in
    let p = c.requires.room in
    let e = laying_length _ _ _ _ _ _ _ l.invariant p in
    (rw e (laying_room _ _ _ _ _ _ _ l.invariant p line-due), e) in
    omega (arith, room-left)

pub returns-in_default : goal.returns-in_default
unfolding ladder_line
returns-in_default c =
    let line-due : c.loop-i.i < rungs c.args.config = rw (← c.rungs_of-i-end.ensures) c.loop-i-test.true in
    let answer-is : let a = c.args in c.quotes_in-answer.result ≡ quotes_of_lots (to_z w64 (of_z w64 a.mid_price)) a.config c.reckon-r.result (lot_at a.config c.loop-i.i) = let a = c.args in
    let f : SFits w64 c.lot_at-lot.result = record { sfits = c.lot_at-lot.type_inv } in
    c.quotes_in-answer.ensures ∙ ap (quotes_of_lots (to_z w64 (of_z w64 a.mid_price)) a.config c.reckon-r.result) (to_z-of_z f ∙ c.lot_at-lot.ensures) in
    let written : let l = c.loop-i in let a = c.args in let u = ladder_line (to_z w64 (of_z w64 a.mid_price)) a.config c.reckon-r.result l.i in (c.write_answer.result ≡ Ok (length u)) × (c.write_answer.new.line ≡ over u (mid_of l.at (length l.out - l.at) l.out)) = let l = c.loop-i in
    let e = c.write_answer.ensures in
    let there = line_there (answer_line c.quotes_in-answer.result) _ (part_room _ _ _ _ _ l.invariant.wrote (laying_room _ _ _ _ _ _ _ l.invariant c.requires.room line-due)) in
    rw (← answer-is) (e.value ∙ there.0, e.line_after ∙ there.1) in
    let none-refused : ⊥ = never_refused (sym c.in_default.is ∙ written.0) in
    absurd none-refused

pub overflow_add-at : goal.overflow_add-at
unfolding ladder_line
overflow_add-at c =
    let line-due : c.loop-i.i < rungs c.args.config = rw (← c.rungs_of-i-end.ensures) c.loop-i-test.true in
    let bounded : c.args.config.max_inventory_lots ≤ 200 = bound_checked c.args.mid_price c.args.config c.args.volatility c.args.current_time c.requires.checked in
    let reckoned : let a = c.args in c.reckon-r.result ≡ reckoning a.config a.volatility a.current_time = c.reckon-r.ensures ∙ ap (λ (z : ℤ). reckoning c.args.config z c.args.current_time) (to_z-of_z c.ranges.volatility) in
    let answer_kept : let a = c.args in ReplyKept (quotes_of_lots (to_z w64 (of_z w64 a.mid_price)) a.config c.reckon-r.result (lot_at a.config c.loop-i.i)) = let a = c.args in
    let i = c.loop-i.i in
    let q = lot_at a.config i in
    let k = rung_kept a.mid_price a.config a.volatility a.current_time c.requires.checked i line-due in
    subst (λ (z : ℤ). ReplyKept (quotes_of_lots z a.config c.reckon-r.result q)) (sym (to_z-of_z c.ranges.mid_price))
    (subst (λ (r : Reckoning). ReplyKept (quotes_of_lots a.mid_price a.config r q)) (sym reckoned) k) in
    let answer-is : let a = c.args in c.quotes_in-answer.result ≡ quotes_of_lots (to_z w64 (of_z w64 a.mid_price)) a.config c.reckon-r.result (lot_at a.config c.loop-i.i) = let a = c.args in
    let f : SFits w64 c.lot_at-lot.result = record { sfits = c.lot_at-lot.type_inv } in
    c.quotes_in-answer.ensures ∙ ap (quotes_of_lots (to_z w64 (of_z w64 a.mid_price)) a.config c.reckon-r.result) (to_z-of_z f ∙ c.lot_at-lot.ensures) in
    let written : let l = c.loop-i in let a = c.args in let u = ladder_line (to_z w64 (of_z w64 a.mid_price)) a.config c.reckon-r.result l.i in (c.write_answer.result ≡ Ok (length u)) × (c.write_answer.new.line ≡ over u (mid_of l.at (length l.out - l.at) l.out)) = let l = c.loop-i in
    let e = c.write_answer.ensures in
    let there = line_there (answer_line c.quotes_in-answer.result) _ (part_room _ _ _ _ _ l.invariant.wrote (laying_room _ _ _ _ _ _ _ l.invariant c.requires.room line-due)) in
    rw (← answer-is) (e.value ∙ there.0, e.line_after ∙ there.1) in
    let line-added : let l = c.loop-i in let a = c.args in let k = c.in-Ok.k in (k ≤ least_room) × Laying (to_z w64 (of_z w64 a.mid_price)) a.config c.reckon-r.result a.out.now (put_mid l.at (length l.out - l.at) l.out c.write_answer.new.line) (l.at + k) (l.i + 1) = let l = c.loop-i in
    let e = written in
    laying_more _ _ _ _ _ _ _ l.invariant c.requires.room _ _ line-due answer_kept e.1 (same_written (sym c.in-Ok.is ∙ e.0)) in
    omega (arith, bounded, line-due, c.loop-i.invariant.room, line-added.0)

pub loop-i-preserved : goal.loop-i-preserved
unfolding ladder_line
loop-i-preserved c =
    let line-due : c.loop-i.i < rungs c.args.config = rw (← c.rungs_of-i-end.ensures) c.loop-i-test.true in
    let reckoned : let a = c.args in c.reckon-r.result ≡ reckoning a.config a.volatility a.current_time = c.reckon-r.ensures ∙ ap (λ (z : ℤ). reckoning c.args.config z c.args.current_time) (to_z-of_z c.ranges.volatility) in
    let answer_kept : let a = c.args in ReplyKept (quotes_of_lots (to_z w64 (of_z w64 a.mid_price)) a.config c.reckon-r.result (lot_at a.config c.loop-i.i)) = let a = c.args in
    let i = c.loop-i.i in
    let q = lot_at a.config i in
    let k = rung_kept a.mid_price a.config a.volatility a.current_time c.requires.checked i line-due in
    subst (λ (z : ℤ). ReplyKept (quotes_of_lots z a.config c.reckon-r.result q)) (sym (to_z-of_z c.ranges.mid_price))
    (subst (λ (r : Reckoning). ReplyKept (quotes_of_lots a.mid_price a.config r q)) (sym reckoned) k) in
    let answer-is : let a = c.args in c.quotes_in-answer.result ≡ quotes_of_lots (to_z w64 (of_z w64 a.mid_price)) a.config c.reckon-r.result (lot_at a.config c.loop-i.i) = let a = c.args in
    let f : SFits w64 c.lot_at-lot.result = record { sfits = c.lot_at-lot.type_inv } in
    c.quotes_in-answer.ensures ∙ ap (quotes_of_lots (to_z w64 (of_z w64 a.mid_price)) a.config c.reckon-r.result) (to_z-of_z f ∙ c.lot_at-lot.ensures) in
    let written : let l = c.loop-i in let a = c.args in let u = ladder_line (to_z w64 (of_z w64 a.mid_price)) a.config c.reckon-r.result l.i in (c.write_answer.result ≡ Ok (length u)) × (c.write_answer.new.line ≡ over u (mid_of l.at (length l.out - l.at) l.out)) = let l = c.loop-i in
    let e = c.write_answer.ensures in
    let there = line_there (answer_line c.quotes_in-answer.result) _ (part_room _ _ _ _ _ l.invariant.wrote (laying_room _ _ _ _ _ _ _ l.invariant c.requires.room line-due)) in
    rw (← answer-is) (e.value ∙ there.0, e.line_after ∙ there.1) in
    let line-added : let l = c.loop-i in let a = c.args in let k = c.in-Ok.k in (k ≤ least_room) × Laying (to_z w64 (of_z w64 a.mid_price)) a.config c.reckon-r.result a.out.now (put_mid l.at (length l.out - l.at) l.out c.write_answer.new.line) (l.at + k) (l.i + 1) = let l = c.loop-i in
    let e = written in
    laying_more _ _ _ _ _ _ _ l.invariant c.requires.room _ _ line-due answer_kept e.1 (same_written (sym c.in-Ok.is ∙ e.0)) in
    line-added.1

pub returns : goal.returns
unfolding ladder
returns c =
    let reckoned : let a = c.args in c.reckon-r.result ≡ reckoning a.config a.volatility a.current_time = c.reckon-r.ensures ∙ ap (λ (z : ℤ). reckoning c.args.config z c.args.current_time) (to_z-of_z c.ranges.volatility) in
    let l = c.loop-i in
    let a = c.args in
    let n : l.i ≡ rungs a.config = omega (arith, c.rungs_of-i-end.ensures, c.loop-i-test, l.invariant.few) in
    let all : ladder_lines (to_z w64 (of_z w64 a.mid_price)) a.config c.reckon-r.result l.i ≡ ladder a.mid_price a.config a.volatility a.current_time =
    ap (λ (z : ℤ). ladder_lines z a.config c.reckon-r.result l.i) (to_z-of_z c.ranges.mid_price)
    ∙ ap (λ (r : Reckoning). ladder_lines a.mid_price a.config r l.i) reckoned
    ∙ ap (ladder_lines a.mid_price a.config (reckoning a.config a.volatility a.current_time)) n in
    let w = wrote_as _ _ (ladder a.mid_price a.config a.volatility a.current_time) _ _ l.invariant.wrote all in
    record { out_after = w.0; value = w.1 }
