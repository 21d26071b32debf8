-- `lines::line::write_price` meets its contract: the whole part, the point and the decimals follow each other. Assumes nothing.
use mathlib.Core.Path.{◌≡◌, sym, ap, ◌∙◌}
use Prim.Native.Nat.{ℕ, ◌+◌, ◌-◌, ◌/◌, ◌≤◌}
use native.Mathlib.Omega.{arith}
use mathlib.Core.List.{List, [], ◌∷◌, ◌++◌}
use lib.ListN.{length, set, length-set}
use lib.Seq.{append_snoc}
use lib.Dec.{lit<, lit≤}
use borrow.Rule.Slice.PartMut.{put_mid}
use Rattle.lines.specs.Lines.{digits, count, price}
use Rattle.buffers.specs.Over.{over}
use Rattle.buffers.proofs.Texts.{Wrote, wrote_length, wrote_byte, part_room, wrote_part}
use Rattle.lines.proofs.Digits.{length_digits}
use Rattle.lines.proofs.Widths.{length_price}
use Rattle.lines.proofs.line.write_price.Goals as goal

pub write_count-k-requires : goal.write_count-k-requires
write_count-k-requires c = omega (arith, length_price c.args.n)

pub bounds-out-k : goal.bounds-out-k
bounds-out-k c =
    let whole : let a = c.args in Wrote a.out.now (count (a.n / 1_000_000_000)) c.write_count-k.new.out c.write_count-k.result = record { is = c.write_count-k.ensures.out_after; up_to = c.write_count-k.ensures.value } in
    let room : let a = c.args in c.write_count-k.result + 10 ≤ length a.out.now = omega (arith, rw (length_price c.args.n) at c.requires, whole.up_to) in
    let counted : length c.write_count-k.new.out ≡ length c.args.out.now = wrote_length _ _ _ _ whole (omega (arith, room)) in
    omega (arith, room, counted)

pub overflow_add-at : goal.overflow_add-at
overflow_add-at c =
    let whole : let a = c.args in Wrote a.out.now (count (a.n / 1_000_000_000)) c.write_count-k.new.out c.write_count-k.result = record { is = c.write_count-k.ensures.out_after; up_to = c.write_count-k.ensures.value } in
    let room : let a = c.args in c.write_count-k.result + 10 ≤ length a.out.now = omega (arith, rw (length_price c.args.n) at c.requires, whole.up_to) in
    omega (arith, room)

pub slice_bounds-write_digits-count : goal.slice_bounds-write_digits-count
slice_bounds-write_digits-count c =
    let whole : let a = c.args in Wrote a.out.now (count (a.n / 1_000_000_000)) c.write_count-k.new.out c.write_count-k.result = record { is = c.write_count-k.ensures.out_after; up_to = c.write_count-k.ensures.value } in
    let room : let a = c.args in c.write_count-k.result + 10 ≤ length a.out.now = omega (arith, rw (length_price c.args.n) at c.requires, whole.up_to) in
    let counted : length c.write_count-k.new.out ≡ length c.args.out.now = wrote_length _ _ _ _ whole (omega (arith, room)) in
    simp length-set (omega (arith, room, counted))

pub slice_bounds-write_digits-start : goal.slice_bounds-write_digits-start
slice_bounds-write_digits-start c =
    let whole : let a = c.args in Wrote a.out.now (count (a.n / 1_000_000_000)) c.write_count-k.new.out c.write_count-k.result = record { is = c.write_count-k.ensures.out_after; up_to = c.write_count-k.ensures.value } in
    let room : let a = c.args in c.write_count-k.result + 10 ≤ length a.out.now = omega (arith, rw (length_price c.args.n) at c.requires, whole.up_to) in
    let counted : length c.write_count-k.new.out ≡ length c.args.out.now = wrote_length _ _ _ _ whole (omega (arith, room)) in
    simp length-set (omega (arith, room, counted))

pub write_digits-requires : goal.write_digits-requires
write_digits-requires c =
    let whole : let a = c.args in Wrote a.out.now (count (a.n / 1_000_000_000)) c.write_count-k.new.out c.write_count-k.result = record { is = c.write_count-k.ensures.out_after; up_to = c.write_count-k.ensures.value } in
    let room : let a = c.args in c.write_count-k.result + 10 ≤ length a.out.now = omega (arith, rw (length_price c.args.n) at c.requires, whole.up_to) in
    let pointed : let a = c.args in Wrote a.out.now (count (a.n / 1_000_000_000) ++ (46 ∷ [])) (set c.write_count-k.new.out c.write_count-k.result 46) (c.write_count-k.result + 1) = wrote_byte _ _ _ _ 46 whole (omega (arith, room)) in
    record { base_fits = (lit< tt, lit≤ tt); room = part_room _ _ _ _ 9 pointed (omega (arith, room)) }

pub overflow_add-result : goal.overflow_add-result
overflow_add-result c =
    let whole : let a = c.args in Wrote a.out.now (count (a.n / 1_000_000_000)) c.write_count-k.new.out c.write_count-k.result = record { is = c.write_count-k.ensures.out_after; up_to = c.write_count-k.ensures.value } in
    let room : let a = c.args in c.write_count-k.result + 10 ≤ length a.out.now = omega (arith, rw (length_price c.args.n) at c.requires, whole.up_to) in
    omega (arith, room)

pub shape_of-out : goal.shape_of-out
shape_of-out c =
    let whole : let a = c.args in Wrote a.out.now (count (a.n / 1_000_000_000)) c.write_count-k.new.out c.write_count-k.result = record { is = c.write_count-k.ensures.out_after; up_to = c.write_count-k.ensures.value } in
    let room : let a = c.args in c.write_count-k.result + 10 ≤ length a.out.now = omega (arith, rw (length_price c.args.n) at c.requires, whole.up_to) in
    let pointed : let a = c.args in Wrote a.out.now (count (a.n / 1_000_000_000) ++ (46 ∷ [])) (set c.write_count-k.new.out c.write_count-k.result 46) (c.write_count-k.result + 1) = wrote_byte _ _ _ _ 46 whole (omega (arith, room)) in
    let written : let a = c.args in let l = set c.write_count-k.new.out c.write_count-k.result 46 in Wrote a.out.now (count (a.n / 1_000_000_000) ++ (46 ∷ []) ++ digits 10 9 a.n) (put_mid (c.write_count-k.result + 1) (length l - (c.write_count-k.result + 1)) l c.write_digits.new.out) (c.write_count-k.result + 1 + 9) = wrote_part _ _ _ _ _ _ 9 pointed c.write_digits.ensures (sym (length_digits 10 9 c.args.n)) in
    wrote_length _ _ _ _ written (omega (arith, room))

pub returns : goal.returns
unfolding price
returns c =
    let whole : let a = c.args in Wrote a.out.now (count (a.n / 1_000_000_000)) c.write_count-k.new.out c.write_count-k.result = record { is = c.write_count-k.ensures.out_after; up_to = c.write_count-k.ensures.value } in
    let room : let a = c.args in c.write_count-k.result + 10 ≤ length a.out.now = omega (arith, rw (length_price c.args.n) at c.requires, whole.up_to) in
    let pointed : let a = c.args in Wrote a.out.now (count (a.n / 1_000_000_000) ++ (46 ∷ [])) (set c.write_count-k.new.out c.write_count-k.result 46) (c.write_count-k.result + 1) = wrote_byte _ _ _ _ 46 whole (omega (arith, room)) in
    let written : let a = c.args in let l = set c.write_count-k.new.out c.write_count-k.result 46 in Wrote a.out.now (count (a.n / 1_000_000_000) ++ (46 ∷ []) ++ digits 10 9 a.n) (put_mid (c.write_count-k.result + 1) (length l - (c.write_count-k.result + 1)) l c.write_digits.new.out) (c.write_count-k.result + 1 + 9) = wrote_part _ _ _ _ _ _ 9 pointed c.write_digits.ensures (sym (length_digits 10 9 c.args.n)) in
    let a = c.args in
    record { out_after = written.is ∙ ap (λ (t : List ℕ). over t a.out.now) (append_snoc (count (a.n / 1_000_000_000)) 46 (digits 10 9 a.n)); value = omega (arith, c.write_count-k.ensures.value, length_price a.n) }
