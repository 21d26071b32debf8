use mathlib.Core.Path.{◌≡◌, sym}
use Prim.Native.Nat.{◌+◌, ◌-◌, ◌≤◌, zero-le}
use native.Mathlib.Omega.{arith}
use lib.ListN.{length}
use borrow.Rule.Slice.PartMut.{put_mid}
use Rattle.record.specs.Save.{record_room}
use Rattle.record.specs.Promises.{Bytes}
use Rattle.buffers.proofs.Texts.{part_room}
use Rattle.resave.proofs.Keeping.{Keeping, keeping_none, keeping_room, keeping_less, keeping_more, keeping_all, kept_long}
use Rattle.resave.proofs.keep.Goals as goal

pub returns-then-s-gt-MOST_BYTES : goal.returns-then-s-gt-MOST_BYTES
returns-then-s-gt-MOST_BYTES c = record { out_after = sym (kept_long _ c.if-s-gt-MOST_BYTES.true); upper_bound = zero-le }

pub loop-at-init : goal.loop-at-init
loop-at-init c = keeping_none _ _

pub slice_bounds-keep_record-count : goal.slice_bounds-keep_record-count
slice_bounds-keep_record-count c =
    let room : let l = c.loop-at in let a = c.args in (l.n + record_room ≤ length a.out.now) × (length l.out ≡ length a.out.now) = keeping_room _ _ _ _ _ c.if-s-gt-MOST_BYTES.false c.requires c.loop-at.invariant in
    omega (arith, room)

pub slice_bounds-keep_record-start : goal.slice_bounds-keep_record-start
slice_bounds-keep_record-start c =
    let room : let l = c.loop-at in let a = c.args in (l.n + record_room ≤ length a.out.now) × (length l.out ≡ length a.out.now) = keeping_room _ _ _ _ _ c.if-s-gt-MOST_BYTES.false c.requires c.loop-at.invariant in
    omega (arith, room)

pub keep_record-k-requires : goal.keep_record-k-requires
keep_record-k-requires c =
    let room : let l = c.loop-at in let a = c.args in (l.n + record_room ≤ length a.out.now) × (length l.out ≡ length a.out.now) = keeping_room _ _ _ _ _ c.if-s-gt-MOST_BYTES.false c.requires c.loop-at.invariant in
    part_room _ _ _ _ record_room c.loop-at.invariant.wrote room.0

pub overflow_add-n : goal.overflow_add-n
overflow_add-n c =
    let bytes : Bytes c.args.s.now = λ i. omega (arith, c.shared_slice_known-1.given i) in
    let next : let a = c.args in Keeping a.s.now a.out.now (put_mid c.loop-at.n (length c.loop-at.out - c.loop-at.n) c.loop-at.out c.keep_record-k.new.out) (c.loop-at.n + c.keep_record-k.result.count) c.keep_record-k.result.next = let r = c.keep_record-k.ensures in
    keeping_more _ _ _ _ _ c.if-s-gt-MOST_BYTES.false c.requires c.loop-at.invariant bytes c.loop-at-test.true _ _ _ r.count_value r.next_value r.out_after in
    let g = next in
    record { fits = omega (arith, g.within, g.short, c.if-s-gt-MOST_BYTES.false) }

pub loop-at-smaller : goal.loop-at-smaller
loop-at-smaller c =
    let bytes : Bytes c.args.s.now = λ i. omega (arith, c.shared_slice_known-1.given i) in
    omega (arith, keeping_less _ _ _ _ _ c.if-s-gt-MOST_BYTES.false c.requires c.loop-at.invariant bytes c.loop-at-test.true _ c.keep_record-k.ensures.next_value)

pub loop-at-preserved : goal.loop-at-preserved
loop-at-preserved c =
    let bytes : Bytes c.args.s.now = λ i. omega (arith, c.shared_slice_known-1.given i) in
    let next : let a = c.args in Keeping a.s.now a.out.now (put_mid c.loop-at.n (length c.loop-at.out - c.loop-at.n) c.loop-at.out c.keep_record-k.new.out) (c.loop-at.n + c.keep_record-k.result.count) c.keep_record-k.result.next = let r = c.keep_record-k.ensures in
    keeping_more _ _ _ _ _ c.if-s-gt-MOST_BYTES.false c.requires c.loop-at.invariant bytes c.loop-at-test.true _ _ _ r.count_value r.next_value r.out_after in
    next

pub shape_of-out : goal.shape_of-out
shape_of-out c =
    (keeping_room _ _ _ _ _ c.if-s-gt-MOST_BYTES.false c.requires c.loop-at.invariant).1

pub returns : goal.returns
returns c =
    let p = keeping_all _ _ _ _ _ c.if-s-gt-MOST_BYTES.false c.requires c.loop-at.invariant c.loop-at-test.false in record { out_after = p.0; upper_bound = p.1 }
