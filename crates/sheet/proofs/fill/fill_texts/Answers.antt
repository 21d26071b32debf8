use mathlib.Core.Path.{sym, ◌∙◌, ap}
use Prim.Native.Nat.{◌+◌, ◌-◌, ◌<◌, ◌≤◌}
use native.Mathlib.Omega.{arith}
use lib.ListN.{length}
use borrow.Rule.Slice.PartMut.{put_mid}
use Rattle.lines.specs.Lines.{least_room}
use Rattle.sheet.specs.Kinds.{room_of}
use Rattle.sheet.proofs.Filling.{Filling, filling_none, filling_length, text_added, filling_end, filling_full, filling_goes_on, no_fill, short_fill}
use Rattle.sheet.proofs.fill.fill_texts.Goals as goal
use Rattle.std.specs.Prelude.{Ok}

pub returns-then-out-lt-LEAST_ROOM : goal.returns-then-out-lt-LEAST_ROOM
returns-then-out-lt-LEAST_ROOM c =
    let a = c.args in
    let p = no_fill a.kind a.sheet.now a.at a.out.now c.if-out-lt-LEAST_ROOM.true in record { value = p.0; out_after = p.1 }

pub returns-then-out-room : goal.returns-then-out-room
returns-then-out-room c =
    let a = c.args in
    let p = short_fill a.kind a.sheet.now a.at a.out.now c.if-out-lt-LEAST_ROOM.false (omega (arith, c.if-out-room.true, c.room_of-room.ensures)) in record { value = p.0; out_after = p.1 }

pub loop-out-init : goal.loop-out-init
loop-out-init c = filling_none _ _ _ _

pub overflow_sub-out : goal.overflow_sub-out
overflow_sub-out c = omega (arith, filling_length _ _ _ _ _ _ _ c.loop-out.invariant, c.loop-out.invariant.room)

pub slice_bounds-next_text-count : goal.slice_bounds-next_text-count
slice_bounds-next_text-count c =
    let within : c.loop-out.n ≤ length c.loop-out.out = omega (arith, filling_length _ _ _ _ _ _ _ c.loop-out.invariant, c.loop-out.invariant.room) in
    within

pub slice_bounds-next_text-start : goal.slice_bounds-next_text-start
slice_bounds-next_text-start c =
    let within : c.loop-out.n ≤ length c.loop-out.out = omega (arith, filling_length _ _ _ _ _ _ _ c.loop-out.invariant, c.loop-out.invariant.room) in
    within

pub overflow_add-n : goal.overflow_add-n
overflow_add-n c =
    let room : room_of c.args.kind ≤ length c.loop-out.out - c.loop-out.n = omega (arith, c.loop-out-test, c.room_of-room.ensures) in
    let more : let a = c.args in (c.loop-out.n + c.in-Some.k ≤ length a.out.now) × (c.loop-out.next < c.in-Some.place) × (c.in-Some.place ≤ length a.sheet.now) × Filling a.kind a.sheet.now a.at a.out.now (put_mid c.loop-out.n (length c.loop-out.out - c.loop-out.n) c.loop-out.out c.next_text.new.out) (c.loop-out.n + c.in-Some.k) c.in-Some.place = text_added _ _ _ _ _ _ _ c.loop-out.invariant _ _ _ _ room (sym (c.in_ok-k.was ∙ ap Ok c.in-Some.is) ∙ c.next_text.ensures.value) c.next_text.ensures.out_after in
    omega (arith, more.0)

pub loop-out-smaller : goal.loop-out-smaller
loop-out-smaller c =
    let room : room_of c.args.kind ≤ length c.loop-out.out - c.loop-out.n = omega (arith, c.loop-out-test, c.room_of-room.ensures) in
    let more : let a = c.args in (c.loop-out.n + c.in-Some.k ≤ length a.out.now) × (c.loop-out.next < c.in-Some.place) × (c.in-Some.place ≤ length a.sheet.now) × Filling a.kind a.sheet.now a.at a.out.now (put_mid c.loop-out.n (length c.loop-out.out - c.loop-out.n) c.loop-out.out c.next_text.new.out) (c.loop-out.n + c.in-Some.k) c.in-Some.place = text_added _ _ _ _ _ _ _ c.loop-out.invariant _ _ _ _ room (sym (c.in_ok-k.was ∙ ap Ok c.in-Some.is) ∙ c.next_text.ensures.value) c.next_text.ensures.out_after in
    let m = more in omega (arith, m.1, m.2)

pub loop-out-preserved : goal.loop-out-preserved
loop-out-preserved c =
    let room : room_of c.args.kind ≤ length c.loop-out.out - c.loop-out.n = omega (arith, c.loop-out-test, c.room_of-room.ensures) in
    let more : let a = c.args in (c.loop-out.n + c.in-Some.k ≤ length a.out.now) × (c.loop-out.next < c.in-Some.place) × (c.in-Some.place ≤ length a.sheet.now) × Filling a.kind a.sheet.now a.at a.out.now (put_mid c.loop-out.n (length c.loop-out.out - c.loop-out.n) c.loop-out.out c.next_text.new.out) (c.loop-out.n + c.in-Some.k) c.in-Some.place = text_added _ _ _ _ _ _ _ c.loop-out.invariant _ _ _ _ room (sym (c.in_ok-k.was ∙ ap Ok c.in-Some.is) ∙ c.next_text.ensures.value) c.next_text.ensures.out_after in
    more.3

pub shape_of-out : goal.shape_of-out
shape_of-out c = filling_length _ _ _ _ _ _ _ c.loop-out.invariant

pub returns : goal.returns
returns c =
    let rooms : let a = c.args in (least_room ≤ length a.out.now) × (room_of a.kind ≤ length a.out.now) = (c.if-out-lt-LEAST_ROOM.false, omega (arith, c.if-out-room.false, c.room_of-room.ensures)) in
    let h = rooms in
    let p = filling_full _ _ _ _ _ _ _ c.loop-out.invariant h.0 h.1 (omega (arith, c.loop-out-test, c.room_of-room.ensures)) in record { value = p.0; out_after = p.1 }

pub returns-in_default : goal.returns-in_default
returns-in_default c =
    let room : room_of c.args.kind ≤ length c.loop-out.out - c.loop-out.n = omega (arith, c.loop-out-test, c.room_of-room.ensures) in
    let rooms : let a = c.args in (least_room ≤ length a.out.now) × (room_of a.kind ≤ length a.out.now) = (c.if-out-lt-LEAST_ROOM.false, omega (arith, c.if-out-room.false, c.room_of-room.ensures)) in
    let h = rooms in
    let p = filling_end _ _ _ _ _ _ _ c.loop-out.invariant _ _ h.0 h.1 room (λ j m i. c.in_default.not-Some (j, m) (cc (c.in_ok-k.was, i))) c.next_text.ensures.value c.next_text.ensures.out_after in record { value = p.0; out_after = p.1 }

pub returns-in_err-k : goal.returns-in_err-k
returns-in_err-k c =
    let room : room_of c.args.kind ≤ length c.loop-out.out - c.loop-out.n = omega (arith, c.loop-out-test, c.room_of-room.ensures) in
    absurd (filling_goes_on _ _ _ _ _ _ _ c.loop-out.invariant _ room (sym c.in_err-k.was ∙ c.next_text.ensures.value))
