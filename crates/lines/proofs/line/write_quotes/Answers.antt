-- `lines::line::write_quotes` meets its contract: the letter, the three fields and the line's end follow each other. Assumes nothing.
use Prim.Native.Nat.{◌+◌, ◌≤◌}
use native.Mathlib.Omega.{arith}
use mathlib.Core.List.{[], ◌∷◌, ◌++◌}
use lib.ListN.{length, length-set}
use Rattle.lines.specs.Lines.{side, count, quotes_line, least_room}
use Rattle.buffers.proofs.Texts.{Wrote, wrote_length, part_room, lent_length, wrote_as}
use Rattle.lines.proofs.Fields.{lettered, wrote_letter, fielded, wrote_field, three_fields}
use Rattle.lines.proofs.Widths.{count_most}
use Rattle.lines.proofs.line.write_quotes.Goals as goal

pub bounds-line-0 : goal.bounds-line-0
bounds-line-0 c =
    let room : least_room ≤ length c.args.line.now = c.requires in
    omega (arith, room)

pub bounds-line-1 : goal.bounds-line-1
bounds-line-1 c =
    let room : least_room ≤ length c.args.line.now = c.requires in
    simp length-set (omega (arith, room))

pub slice_bounds-write_side-count : goal.slice_bounds-write_side-count
slice_bounds-write_side-count c =
    let room : least_room ≤ length c.args.line.now = c.requires in
    simp length-set (omega (arith, room))

pub slice_bounds-write_side-start : goal.slice_bounds-write_side-start
slice_bounds-write_side-start c =
    let room : least_room ≤ length c.args.line.now = c.requires in
    simp length-set (omega (arith, room))

pub write_side-at-requires : goal.write_side-at-requires
write_side-at-requires c =
    let room : least_room ≤ length c.args.line.now = c.requires in
    let letter : Wrote c.args.line.now (81 ∷ 32 ∷ []) (lettered c.args.line.now 81) 2 = wrote_letter _ 81 (omega (arith, room)) in
    part_room _ _ _ _ _ letter (omega (arith, room))

pub overflow_add-at : goal.overflow_add-at
overflow_add-at c =
    let room : least_room ≤ length c.args.line.now = c.requires in
    let spaced : let a = c.args in 2 + c.write_side-at.result + 1 + 34 ≤ length a.line.now = omega (arith, room, c.write_side-at.ensures.value.1) in
    omega (arith, spaced)

pub bounds-line-at : goal.bounds-line-at
bounds-line-at c =
    let room : least_room ≤ length c.args.line.now = c.requires in
    let letter : Wrote c.args.line.now (81 ∷ 32 ∷ []) (lettered c.args.line.now 81) 2 = wrote_letter _ 81 (omega (arith, room)) in
    let spaced : let a = c.args in 2 + c.write_side-at.result + 1 + 34 ≤ length a.line.now = omega (arith, room, c.write_side-at.ensures.value.1) in
    rw (lent_length _ _ _ _ _ _ _ letter c.write_side-at.ensures.out_after c.write_side-at.ensures.value.0 (omega (arith, spaced))) (omega (arith, spaced))

pub overflow_add-at-2 : goal.overflow_add-at-2
overflow_add-at-2 c =
    let room : least_room ≤ length c.args.line.now = c.requires in
    let spaced : let a = c.args in 2 + c.write_side-at.result + 1 + 34 ≤ length a.line.now = omega (arith, room, c.write_side-at.ensures.value.1) in
    omega (arith, spaced)

pub slice_bounds-write_side-count-2 : goal.slice_bounds-write_side-count-2
slice_bounds-write_side-count-2 c =
    let room : least_room ≤ length c.args.line.now = c.requires in
    let spaced : let a = c.args in 2 + c.write_side-at.result + 1 + 34 ≤ length a.line.now = omega (arith, room, c.write_side-at.ensures.value.1) in
    let letter : Wrote c.args.line.now (81 ∷ 32 ∷ []) (lettered c.args.line.now 81) 2 = wrote_letter _ 81 (omega (arith, room)) in
    let bid : let a = c.args in let l = a.line.now in Wrote l (81 ∷ 32 ∷ [] ++ side a.q.bid ++ (32 ∷ [])) (fielded (lettered l 81) 2 c.write_side-at.new.out c.write_side-at.result 32) (2 + c.write_side-at.result + 1) = wrote_field _ _ _ _ _ _ _ 32 letter c.write_side-at.ensures.out_after c.write_side-at.ensures.value.0 (omega (arith, spaced)) in
    rw (wrote_length _ _ _ _ bid (omega (arith, spaced))) (omega (arith, spaced))

pub slice_bounds-write_side-start-2 : goal.slice_bounds-write_side-start-2
slice_bounds-write_side-start-2 c =
    let room : least_room ≤ length c.args.line.now = c.requires in
    let spaced : let a = c.args in 2 + c.write_side-at.result + 1 + 34 ≤ length a.line.now = omega (arith, room, c.write_side-at.ensures.value.1) in
    let letter : Wrote c.args.line.now (81 ∷ 32 ∷ []) (lettered c.args.line.now 81) 2 = wrote_letter _ 81 (omega (arith, room)) in
    let bid : let a = c.args in let l = a.line.now in Wrote l (81 ∷ 32 ∷ [] ++ side a.q.bid ++ (32 ∷ [])) (fielded (lettered l 81) 2 c.write_side-at.new.out c.write_side-at.result 32) (2 + c.write_side-at.result + 1) = wrote_field _ _ _ _ _ _ _ 32 letter c.write_side-at.ensures.out_after c.write_side-at.ensures.value.0 (omega (arith, spaced)) in
    rw (wrote_length _ _ _ _ bid (omega (arith, spaced))) (omega (arith, spaced))

pub write_side-at-requires-2 : goal.write_side-at-requires-2
write_side-at-requires-2 c =
    let room : least_room ≤ length c.args.line.now = c.requires in
    let spaced : let a = c.args in 2 + c.write_side-at.result + 1 + 34 ≤ length a.line.now = omega (arith, room, c.write_side-at.ensures.value.1) in
    let letter : Wrote c.args.line.now (81 ∷ 32 ∷ []) (lettered c.args.line.now 81) 2 = wrote_letter _ 81 (omega (arith, room)) in
    let bid : let a = c.args in let l = a.line.now in Wrote l (81 ∷ 32 ∷ [] ++ side a.q.bid ++ (32 ∷ [])) (fielded (lettered l 81) 2 c.write_side-at.new.out c.write_side-at.result 32) (2 + c.write_side-at.result + 1) = wrote_field _ _ _ _ _ _ _ 32 letter c.write_side-at.ensures.out_after c.write_side-at.ensures.value.0 (omega (arith, spaced)) in
    part_room _ _ _ _ _ bid (omega (arith, spaced))

pub overflow_add-at-3 : goal.overflow_add-at-3
overflow_add-at-3 c =
    let room : least_room ≤ length c.args.line.now = c.requires in
    let spaced : let a = c.args in 2 + c.write_side-at.result + 1 + 34 ≤ length a.line.now = omega (arith, room, c.write_side-at.ensures.value.1) in
    let spaced2 : let a = c.args in 2 + c.write_side-at.result + 1 + c.write_side-at-2.result + 1 + 11 ≤ length a.line.now = omega (arith, spaced, c.write_side-at-2.ensures.value.1) in
    omega (arith, spaced2)

pub bounds-line-at-2 : goal.bounds-line-at-2
bounds-line-at-2 c =
    let room : least_room ≤ length c.args.line.now = c.requires in
    let letter : Wrote c.args.line.now (81 ∷ 32 ∷ []) (lettered c.args.line.now 81) 2 = wrote_letter _ 81 (omega (arith, room)) in
    let spaced : let a = c.args in 2 + c.write_side-at.result + 1 + 34 ≤ length a.line.now = omega (arith, room, c.write_side-at.ensures.value.1) in
    let bid : let a = c.args in let l = a.line.now in Wrote l (81 ∷ 32 ∷ [] ++ side a.q.bid ++ (32 ∷ [])) (fielded (lettered l 81) 2 c.write_side-at.new.out c.write_side-at.result 32) (2 + c.write_side-at.result + 1) = wrote_field _ _ _ _ _ _ _ 32 letter c.write_side-at.ensures.out_after c.write_side-at.ensures.value.0 (omega (arith, spaced)) in
    let spaced2 : let a = c.args in 2 + c.write_side-at.result + 1 + c.write_side-at-2.result + 1 + 11 ≤ length a.line.now = omega (arith, spaced, c.write_side-at-2.ensures.value.1) in
    rw (lent_length _ _ _ _ _ _ _ bid c.write_side-at-2.ensures.out_after c.write_side-at-2.ensures.value.0 (omega (arith, spaced2))) (omega (arith, spaced2))

pub overflow_add-at-4 : goal.overflow_add-at-4
overflow_add-at-4 c =
    let room : least_room ≤ length c.args.line.now = c.requires in
    let spaced : let a = c.args in 2 + c.write_side-at.result + 1 + 34 ≤ length a.line.now = omega (arith, room, c.write_side-at.ensures.value.1) in
    let spaced2 : let a = c.args in 2 + c.write_side-at.result + 1 + c.write_side-at-2.result + 1 + 11 ≤ length a.line.now = omega (arith, spaced, c.write_side-at-2.ensures.value.1) in
    omega (arith, spaced2)

pub slice_bounds-write_count-count : goal.slice_bounds-write_count-count
slice_bounds-write_count-count c =
    let room : least_room ≤ length c.args.line.now = c.requires in
    let spaced : let a = c.args in 2 + c.write_side-at.result + 1 + 34 ≤ length a.line.now = omega (arith, room, c.write_side-at.ensures.value.1) in
    let spaced2 : let a = c.args in 2 + c.write_side-at.result + 1 + c.write_side-at-2.result + 1 + 11 ≤ length a.line.now = omega (arith, spaced, c.write_side-at-2.ensures.value.1) in
    let letter : Wrote c.args.line.now (81 ∷ 32 ∷ []) (lettered c.args.line.now 81) 2 = wrote_letter _ 81 (omega (arith, room)) in
    let bid : let a = c.args in let l = a.line.now in Wrote l (81 ∷ 32 ∷ [] ++ side a.q.bid ++ (32 ∷ [])) (fielded (lettered l 81) 2 c.write_side-at.new.out c.write_side-at.result 32) (2 + c.write_side-at.result + 1) = wrote_field _ _ _ _ _ _ _ 32 letter c.write_side-at.ensures.out_after c.write_side-at.ensures.value.0 (omega (arith, spaced)) in
    let ask : let a = c.args in let l = a.line.now in Wrote l (81 ∷ 32 ∷ [] ++ side a.q.bid ++ (32 ∷ []) ++ side a.q.ask ++ (32 ∷ [])) (fielded (fielded (lettered l 81) 2 c.write_side-at.new.out c.write_side-at.result 32) (2 + c.write_side-at.result + 1) c.write_side-at-2.new.out c.write_side-at-2.result 32) (2 + c.write_side-at.result + 1 + c.write_side-at-2.result + 1) = wrote_field _ _ _ _ _ _ _ 32 bid c.write_side-at-2.ensures.out_after c.write_side-at-2.ensures.value.0 (omega (arith, spaced2)) in
    rw (wrote_length _ _ _ _ ask (omega (arith, spaced2))) (omega (arith, spaced2))

pub slice_bounds-write_count-start : goal.slice_bounds-write_count-start
slice_bounds-write_count-start c =
    let room : least_room ≤ length c.args.line.now = c.requires in
    let spaced : let a = c.args in 2 + c.write_side-at.result + 1 + 34 ≤ length a.line.now = omega (arith, room, c.write_side-at.ensures.value.1) in
    let spaced2 : let a = c.args in 2 + c.write_side-at.result + 1 + c.write_side-at-2.result + 1 + 11 ≤ length a.line.now = omega (arith, spaced, c.write_side-at-2.ensures.value.1) in
    let letter : Wrote c.args.line.now (81 ∷ 32 ∷ []) (lettered c.args.line.now 81) 2 = wrote_letter _ 81 (omega (arith, room)) in
    let bid : let a = c.args in let l = a.line.now in Wrote l (81 ∷ 32 ∷ [] ++ side a.q.bid ++ (32 ∷ [])) (fielded (lettered l 81) 2 c.write_side-at.new.out c.write_side-at.result 32) (2 + c.write_side-at.result + 1) = wrote_field _ _ _ _ _ _ _ 32 letter c.write_side-at.ensures.out_after c.write_side-at.ensures.value.0 (omega (arith, spaced)) in
    let ask : let a = c.args in let l = a.line.now in Wrote l (81 ∷ 32 ∷ [] ++ side a.q.bid ++ (32 ∷ []) ++ side a.q.ask ++ (32 ∷ [])) (fielded (fielded (lettered l 81) 2 c.write_side-at.new.out c.write_side-at.result 32) (2 + c.write_side-at.result + 1) c.write_side-at-2.new.out c.write_side-at-2.result 32) (2 + c.write_side-at.result + 1 + c.write_side-at-2.result + 1) = wrote_field _ _ _ _ _ _ _ 32 bid c.write_side-at-2.ensures.out_after c.write_side-at-2.ensures.value.0 (omega (arith, spaced2)) in
    rw (wrote_length _ _ _ _ ask (omega (arith, spaced2))) (omega (arith, spaced2))

pub write_count-at-requires : goal.write_count-at-requires
write_count-at-requires c =
    let few : length (count c.args.steps) ≤ 10 = count_most 9 _ (omega (arith, c.ranges.steps)) in
    let room : least_room ≤ length c.args.line.now = c.requires in
    let spaced : let a = c.args in 2 + c.write_side-at.result + 1 + 34 ≤ length a.line.now = omega (arith, room, c.write_side-at.ensures.value.1) in
    let spaced2 : let a = c.args in 2 + c.write_side-at.result + 1 + c.write_side-at-2.result + 1 + 11 ≤ length a.line.now = omega (arith, spaced, c.write_side-at-2.ensures.value.1) in
    let letter : Wrote c.args.line.now (81 ∷ 32 ∷ []) (lettered c.args.line.now 81) 2 = wrote_letter _ 81 (omega (arith, room)) in
    let bid : let a = c.args in let l = a.line.now in Wrote l (81 ∷ 32 ∷ [] ++ side a.q.bid ++ (32 ∷ [])) (fielded (lettered l 81) 2 c.write_side-at.new.out c.write_side-at.result 32) (2 + c.write_side-at.result + 1) = wrote_field _ _ _ _ _ _ _ 32 letter c.write_side-at.ensures.out_after c.write_side-at.ensures.value.0 (omega (arith, spaced)) in
    let ask : let a = c.args in let l = a.line.now in Wrote l (81 ∷ 32 ∷ [] ++ side a.q.bid ++ (32 ∷ []) ++ side a.q.ask ++ (32 ∷ [])) (fielded (fielded (lettered l 81) 2 c.write_side-at.new.out c.write_side-at.result 32) (2 + c.write_side-at.result + 1) c.write_side-at-2.new.out c.write_side-at-2.result 32) (2 + c.write_side-at.result + 1 + c.write_side-at-2.result + 1) = wrote_field _ _ _ _ _ _ _ 32 bid c.write_side-at-2.ensures.out_after c.write_side-at-2.ensures.value.0 (omega (arith, spaced2)) in
    part_room _ _ _ _ _ ask (omega (arith, spaced2, few))

pub overflow_add-at-5 : goal.overflow_add-at-5
overflow_add-at-5 c =
    let few : length (count c.args.steps) ≤ 10 = count_most 9 _ (omega (arith, c.ranges.steps)) in
    let room : least_room ≤ length c.args.line.now = c.requires in
    let spaced : let a = c.args in 2 + c.write_side-at.result + 1 + 34 ≤ length a.line.now = omega (arith, room, c.write_side-at.ensures.value.1) in
    let spaced2 : let a = c.args in 2 + c.write_side-at.result + 1 + c.write_side-at-2.result + 1 + 11 ≤ length a.line.now = omega (arith, spaced, c.write_side-at-2.ensures.value.1) in
    let short : 2 + c.write_side-at.result + 1 + c.write_side-at-2.result + 1 + c.write_count-at.result + 1 ≤ length c.args.line.now = omega (arith, spaced2, c.write_count-at.ensures.value, few) in
    omega (arith, short)

pub bounds-line-at-3 : goal.bounds-line-at-3
bounds-line-at-3 c =
    let room : least_room ≤ length c.args.line.now = c.requires in
    let letter : Wrote c.args.line.now (81 ∷ 32 ∷ []) (lettered c.args.line.now 81) 2 = wrote_letter _ 81 (omega (arith, room)) in
    let spaced : let a = c.args in 2 + c.write_side-at.result + 1 + 34 ≤ length a.line.now = omega (arith, room, c.write_side-at.ensures.value.1) in
    let bid : let a = c.args in let l = a.line.now in Wrote l (81 ∷ 32 ∷ [] ++ side a.q.bid ++ (32 ∷ [])) (fielded (lettered l 81) 2 c.write_side-at.new.out c.write_side-at.result 32) (2 + c.write_side-at.result + 1) = wrote_field _ _ _ _ _ _ _ 32 letter c.write_side-at.ensures.out_after c.write_side-at.ensures.value.0 (omega (arith, spaced)) in
    let spaced2 : let a = c.args in 2 + c.write_side-at.result + 1 + c.write_side-at-2.result + 1 + 11 ≤ length a.line.now = omega (arith, spaced, c.write_side-at-2.ensures.value.1) in
    let ask : let a = c.args in let l = a.line.now in Wrote l (81 ∷ 32 ∷ [] ++ side a.q.bid ++ (32 ∷ []) ++ side a.q.ask ++ (32 ∷ [])) (fielded (fielded (lettered l 81) 2 c.write_side-at.new.out c.write_side-at.result 32) (2 + c.write_side-at.result + 1) c.write_side-at-2.new.out c.write_side-at-2.result 32) (2 + c.write_side-at.result + 1 + c.write_side-at-2.result + 1) = wrote_field _ _ _ _ _ _ _ 32 bid c.write_side-at-2.ensures.out_after c.write_side-at-2.ensures.value.0 (omega (arith, spaced2)) in
    let few : length (count c.args.steps) ≤ 10 = count_most 9 _ (omega (arith, c.ranges.steps)) in
    let short : 2 + c.write_side-at.result + 1 + c.write_side-at-2.result + 1 + c.write_count-at.result + 1 ≤ length c.args.line.now = omega (arith, spaced2, c.write_count-at.ensures.value, few) in
    rw (lent_length _ _ _ _ _ _ _ ask c.write_count-at.ensures.out_after c.write_count-at.ensures.value (omega (arith, short))) (omega (arith, short))

pub overflow_add-result : goal.overflow_add-result
overflow_add-result c =
    let few : length (count c.args.steps) ≤ 10 = count_most 9 _ (omega (arith, c.ranges.steps)) in
    let room : least_room ≤ length c.args.line.now = c.requires in
    let spaced : let a = c.args in 2 + c.write_side-at.result + 1 + 34 ≤ length a.line.now = omega (arith, room, c.write_side-at.ensures.value.1) in
    let spaced2 : let a = c.args in 2 + c.write_side-at.result + 1 + c.write_side-at-2.result + 1 + 11 ≤ length a.line.now = omega (arith, spaced, c.write_side-at-2.ensures.value.1) in
    let short : 2 + c.write_side-at.result + 1 + c.write_side-at-2.result + 1 + c.write_count-at.result + 1 ≤ length c.args.line.now = omega (arith, spaced2, c.write_count-at.ensures.value, few) in
    omega (arith, short)

pub shape_of-line : goal.shape_of-line
shape_of-line c =
    let few : length (count c.args.steps) ≤ 10 = count_most 9 _ (omega (arith, c.ranges.steps)) in
    let room : least_room ≤ length c.args.line.now = c.requires in
    let spaced : let a = c.args in 2 + c.write_side-at.result + 1 + 34 ≤ length a.line.now = omega (arith, room, c.write_side-at.ensures.value.1) in
    let spaced2 : let a = c.args in 2 + c.write_side-at.result + 1 + c.write_side-at-2.result + 1 + 11 ≤ length a.line.now = omega (arith, spaced, c.write_side-at-2.ensures.value.1) in
    let short : 2 + c.write_side-at.result + 1 + c.write_side-at-2.result + 1 + c.write_count-at.result + 1 ≤ length c.args.line.now = omega (arith, spaced2, c.write_count-at.ensures.value, few) in
    let letter : Wrote c.args.line.now (81 ∷ 32 ∷ []) (lettered c.args.line.now 81) 2 = wrote_letter _ 81 (omega (arith, room)) in
    let bid : let a = c.args in let l = a.line.now in Wrote l (81 ∷ 32 ∷ [] ++ side a.q.bid ++ (32 ∷ [])) (fielded (lettered l 81) 2 c.write_side-at.new.out c.write_side-at.result 32) (2 + c.write_side-at.result + 1) = wrote_field _ _ _ _ _ _ _ 32 letter c.write_side-at.ensures.out_after c.write_side-at.ensures.value.0 (omega (arith, spaced)) in
    let ask : let a = c.args in let l = a.line.now in Wrote l (81 ∷ 32 ∷ [] ++ side a.q.bid ++ (32 ∷ []) ++ side a.q.ask ++ (32 ∷ [])) (fielded (fielded (lettered l 81) 2 c.write_side-at.new.out c.write_side-at.result 32) (2 + c.write_side-at.result + 1) c.write_side-at-2.new.out c.write_side-at-2.result 32) (2 + c.write_side-at.result + 1 + c.write_side-at-2.result + 1) = wrote_field _ _ _ _ _ _ _ 32 bid c.write_side-at-2.ensures.out_after c.write_side-at-2.ensures.value.0 (omega (arith, spaced2)) in
    let whole : let a = c.args in let l = a.line.now in Wrote l (81 ∷ 32 ∷ [] ++ side a.q.bid ++ (32 ∷ []) ++ side a.q.ask ++ (32 ∷ []) ++ count a.steps ++ (10 ∷ [])) (fielded (fielded (fielded (lettered l 81) 2 c.write_side-at.new.out c.write_side-at.result 32) (2 + c.write_side-at.result + 1) c.write_side-at-2.new.out c.write_side-at-2.result 32) (2 + c.write_side-at.result + 1 + c.write_side-at-2.result + 1) c.write_count-at.new.out c.write_count-at.result 10) (2 + c.write_side-at.result + 1 + c.write_side-at-2.result + 1 + c.write_count-at.result + 1) = wrote_field _ _ _ _ _ _ _ 10 ask c.write_count-at.ensures.out_after c.write_count-at.ensures.value (omega (arith, short)) in
    wrote_length _ _ _ _ whole short

pub returns : goal.returns
unfolding quotes_line
returns c =
    let room : least_room ≤ length c.args.line.now = c.requires in
    let letter : Wrote c.args.line.now (81 ∷ 32 ∷ []) (lettered c.args.line.now 81) 2 = wrote_letter _ 81 (omega (arith, room)) in
    let spaced : let a = c.args in 2 + c.write_side-at.result + 1 + 34 ≤ length a.line.now = omega (arith, room, c.write_side-at.ensures.value.1) in
    let bid : let a = c.args in let l = a.line.now in Wrote l (81 ∷ 32 ∷ [] ++ side a.q.bid ++ (32 ∷ [])) (fielded (lettered l 81) 2 c.write_side-at.new.out c.write_side-at.result 32) (2 + c.write_side-at.result + 1) = wrote_field _ _ _ _ _ _ _ 32 letter c.write_side-at.ensures.out_after c.write_side-at.ensures.value.0 (omega (arith, spaced)) in
    let spaced2 : let a = c.args in 2 + c.write_side-at.result + 1 + c.write_side-at-2.result + 1 + 11 ≤ length a.line.now = omega (arith, spaced, c.write_side-at-2.ensures.value.1) in
    let ask : let a = c.args in let l = a.line.now in Wrote l (81 ∷ 32 ∷ [] ++ side a.q.bid ++ (32 ∷ []) ++ side a.q.ask ++ (32 ∷ [])) (fielded (fielded (lettered l 81) 2 c.write_side-at.new.out c.write_side-at.result 32) (2 + c.write_side-at.result + 1) c.write_side-at-2.new.out c.write_side-at-2.result 32) (2 + c.write_side-at.result + 1 + c.write_side-at-2.result + 1) = wrote_field _ _ _ _ _ _ _ 32 bid c.write_side-at-2.ensures.out_after c.write_side-at-2.ensures.value.0 (omega (arith, spaced2)) in
    let few : length (count c.args.steps) ≤ 10 = count_most 9 _ (omega (arith, c.ranges.steps)) in
    let short : 2 + c.write_side-at.result + 1 + c.write_side-at-2.result + 1 + c.write_count-at.result + 1 ≤ length c.args.line.now = omega (arith, spaced2, c.write_count-at.ensures.value, few) in
    let whole : let a = c.args in let l = a.line.now in Wrote l (81 ∷ 32 ∷ [] ++ side a.q.bid ++ (32 ∷ []) ++ side a.q.ask ++ (32 ∷ []) ++ count a.steps ++ (10 ∷ [])) (fielded (fielded (fielded (lettered l 81) 2 c.write_side-at.new.out c.write_side-at.result 32) (2 + c.write_side-at.result + 1) c.write_side-at-2.new.out c.write_side-at-2.result 32) (2 + c.write_side-at.result + 1 + c.write_side-at-2.result + 1) c.write_count-at.new.out c.write_count-at.result 10) (2 + c.write_side-at.result + 1 + c.write_side-at-2.result + 1 + c.write_count-at.result + 1) = wrote_field _ _ _ _ _ _ _ 10 ask c.write_count-at.ensures.out_after c.write_count-at.ensures.value (omega (arith, short)) in
    let p = wrote_as _ _ _ _ _ whole (three_fields 81 _ _ _) in record { line_after = p.0; value = p.1 }
