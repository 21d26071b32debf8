-- `lines::line::write_counted` meets its contract: the letter, the count and the line's end follow each other. Assumes nothing.
use Prim.Native.Nat.{◌+◌, ◌≤◌}
use native.Mathlib.Omega.{arith}
use mathlib.Core.List.{[], ◌∷◌, ◌++◌}
use lib.ListN.{length, length-set}
use Rattle.lines.specs.Lines.{count, joined}
use Rattle.buffers.proofs.Texts.{Wrote, wrote_length, part_room, lent_length}
use Rattle.lines.proofs.Fields.{lettered, wrote_letter, fielded, wrote_field}
use Rattle.lines.proofs.Widths.{length_counted}
use Rattle.lines.proofs.line.write_counted.Goals as goal

pub bounds-line-0 : goal.bounds-line-0
bounds-line-0 c =
    let room : length (count c.args.n) + 3 ≤ length c.args.line.now = rw (length_counted c.args.letter c.args.n) at c.requires in
    omega (arith, room)

pub bounds-line-1 : goal.bounds-line-1
bounds-line-1 c =
    let room : length (count c.args.n) + 3 ≤ length c.args.line.now = rw (length_counted c.args.letter c.args.n) at c.requires in
    simp length-set (omega (arith, room))

pub slice_bounds-write_count-count : goal.slice_bounds-write_count-count
slice_bounds-write_count-count c =
    let room : length (count c.args.n) + 3 ≤ length c.args.line.now = rw (length_counted c.args.letter c.args.n) at c.requires in
    simp length-set (omega (arith, room))

pub slice_bounds-write_count-start : goal.slice_bounds-write_count-start
slice_bounds-write_count-start c =
    let room : length (count c.args.n) + 3 ≤ length c.args.line.now = rw (length_counted c.args.letter c.args.n) at c.requires in
    simp length-set (omega (arith, room))

pub write_count-at-requires : goal.write_count-at-requires
write_count-at-requires c =
    let room : length (count c.args.n) + 3 ≤ length c.args.line.now = rw (length_counted c.args.letter c.args.n) at c.requires in
    let letter : Wrote c.args.line.now (c.args.letter ∷ 32 ∷ []) (lettered c.args.line.now c.args.letter) 2 = wrote_letter _ c.args.letter (omega (arith, room)) in
    part_room _ _ _ _ _ letter (omega (arith, room))

pub overflow_add-at : goal.overflow_add-at
overflow_add-at c =
    let room : length (count c.args.n) + 3 ≤ length c.args.line.now = rw (length_counted c.args.letter c.args.n) at c.requires in
    let short : 2 + c.write_count-at.result + 1 ≤ length c.args.line.now = omega (arith, room, c.write_count-at.ensures.value) in
    omega (arith, short)

pub bounds-line-at : goal.bounds-line-at
bounds-line-at c =
    let room : length (count c.args.n) + 3 ≤ length c.args.line.now = rw (length_counted c.args.letter c.args.n) at c.requires in
    let letter : Wrote c.args.line.now (c.args.letter ∷ 32 ∷ []) (lettered c.args.line.now c.args.letter) 2 = wrote_letter _ c.args.letter (omega (arith, room)) in
    let short : 2 + c.write_count-at.result + 1 ≤ length c.args.line.now = omega (arith, room, c.write_count-at.ensures.value) in
    rw (lent_length _ _ _ _ _ _ _ letter c.write_count-at.ensures.out_after c.write_count-at.ensures.value (omega (arith, short))) (omega (arith, short))

pub overflow_add-result : goal.overflow_add-result
overflow_add-result c =
    let room : length (count c.args.n) + 3 ≤ length c.args.line.now = rw (length_counted c.args.letter c.args.n) at c.requires in
    let short : 2 + c.write_count-at.result + 1 ≤ length c.args.line.now = omega (arith, room, c.write_count-at.ensures.value) in
    omega (arith, short)

pub shape_of-line : goal.shape_of-line
shape_of-line c =
    let room : length (count c.args.n) + 3 ≤ length c.args.line.now = rw (length_counted c.args.letter c.args.n) at c.requires in
    let short : 2 + c.write_count-at.result + 1 ≤ length c.args.line.now = omega (arith, room, c.write_count-at.ensures.value) in
    let letter : Wrote c.args.line.now (c.args.letter ∷ 32 ∷ []) (lettered c.args.line.now c.args.letter) 2 = wrote_letter _ c.args.letter (omega (arith, room)) in
    let whole : let a = c.args in let l = a.line.now in Wrote l (a.letter ∷ 32 ∷ [] ++ count a.n ++ (10 ∷ [])) (fielded (lettered l a.letter) 2 c.write_count-at.new.out c.write_count-at.result 10) (2 + c.write_count-at.result + 1) = wrote_field _ _ _ _ _ _ _ 10 letter c.write_count-at.ensures.out_after c.write_count-at.ensures.value (omega (arith, short)) in
    wrote_length _ _ _ _ whole short

pub returns : goal.returns
unfolding joined
returns c =
    let room : length (count c.args.n) + 3 ≤ length c.args.line.now = rw (length_counted c.args.letter c.args.n) at c.requires in
    let letter : Wrote c.args.line.now (c.args.letter ∷ 32 ∷ []) (lettered c.args.line.now c.args.letter) 2 = wrote_letter _ c.args.letter (omega (arith, room)) in
    let short : 2 + c.write_count-at.result + 1 ≤ length c.args.line.now = omega (arith, room, c.write_count-at.ensures.value) in
    let whole : let a = c.args in let l = a.line.now in Wrote l (a.letter ∷ 32 ∷ [] ++ count a.n ++ (10 ∷ [])) (fielded (lettered l a.letter) 2 c.write_count-at.new.out c.write_count-at.result 10) (2 + c.write_count-at.result + 1) = wrote_field _ _ _ _ _ _ _ 10 letter c.write_count-at.ensures.out_after c.write_count-at.ensures.value (omega (arith, short)) in
    let w = whole in
    record { line_after = w.is; value = w.up_to }
