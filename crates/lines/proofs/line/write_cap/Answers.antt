-- `lines::line::write_cap` meets its contract: the letter, the two fields and the line's end follow each other. Assumes nothing.
use Prim.Native.Nat.{◌+◌, ◌≤◌}
use native.Mathlib.Omega.{arith}
use mathlib.Core.Path.{sym, ◌∙◌}
use mathlib.Core.List.{[], ◌∷◌, ◌++◌}
use lib.ListN.{length, length-set}
use Rattle.lines.specs.Lines.{hex, count, cap_line}
use Rattle.buffers.proofs.Texts.{Wrote, wrote_length, part_room, lent_length, wrote_as}
use Rattle.lines.proofs.Fields.{lettered, wrote_letter, fielded, wrote_field, two_fields}
use Rattle.lines.proofs.Widths.{length_hex, length_cap}
use Rattle.lines.proofs.line.write_cap.Goals as goal

pub bounds-line-0 : goal.bounds-line-0
bounds-line-0 c =
    let room : length (count c.args.budget) + 20 ≤ length c.args.line.now = rw (length_cap c.args.need c.args.budget) at c.requires in
    omega (arith, room)

pub bounds-line-1 : goal.bounds-line-1
bounds-line-1 c =
    let room : length (count c.args.budget) + 20 ≤ length c.args.line.now = rw (length_cap c.args.need c.args.budget) at c.requires in
    simp length-set (omega (arith, room))

pub slice_bounds-write_hex-count : goal.slice_bounds-write_hex-count
slice_bounds-write_hex-count c =
    let room : length (count c.args.budget) + 20 ≤ length c.args.line.now = rw (length_cap c.args.need c.args.budget) at c.requires in
    simp length-set (omega (arith, room))

pub slice_bounds-write_hex-start : goal.slice_bounds-write_hex-start
slice_bounds-write_hex-start c =
    let room : length (count c.args.budget) + 20 ≤ length c.args.line.now = rw (length_cap c.args.need c.args.budget) at c.requires in
    simp length-set (omega (arith, room))

pub write_hex-at-requires : goal.write_hex-at-requires
write_hex-at-requires c =
    let room : length (count c.args.budget) + 20 ≤ length c.args.line.now = rw (length_cap c.args.need c.args.budget) at c.requires in
    let letter : Wrote c.args.line.now (67 ∷ 32 ∷ []) (lettered c.args.line.now 67) 2 = wrote_letter _ 67 (omega (arith, room)) in
    part_room _ _ _ _ _ letter (omega (arith, room))

pub bounds-line-at : goal.bounds-line-at
bounds-line-at c =
    let room : length (count c.args.budget) + 20 ≤ length c.args.line.now = rw (length_cap c.args.need c.args.budget) at c.requires in
    let letter : Wrote c.args.line.now (67 ∷ 32 ∷ []) (lettered c.args.line.now 67) 2 = wrote_letter _ 67 (omega (arith, room)) in
    let spaced : 2 + c.write_hex-at.result + 1 ≤ length c.args.line.now = omega (arith, room, c.write_hex-at.ensures.value) in
    rw (lent_length _ _ _ _ _ _ _ letter c.write_hex-at.ensures.out_after (c.write_hex-at.ensures.value ∙ sym (length_hex c.args.need)) (omega (arith, spaced))) (omega (arith, spaced))

pub slice_bounds-write_count-count : goal.slice_bounds-write_count-count
slice_bounds-write_count-count c =
    let room : length (count c.args.budget) + 20 ≤ length c.args.line.now = rw (length_cap c.args.need c.args.budget) at c.requires in
    let spaced : 2 + c.write_hex-at.result + 1 ≤ length c.args.line.now = omega (arith, room, c.write_hex-at.ensures.value) in
    let letter : Wrote c.args.line.now (67 ∷ 32 ∷ []) (lettered c.args.line.now 67) 2 = wrote_letter _ 67 (omega (arith, room)) in
    let needed : let a = c.args in let l = a.line.now in Wrote l (67 ∷ 32 ∷ [] ++ hex a.need ++ (32 ∷ [])) (fielded (lettered l 67) 2 c.write_hex-at.new.out c.write_hex-at.result 32) (2 + c.write_hex-at.result + 1) = wrote_field _ _ _ _ _ _ _ 32 letter c.write_hex-at.ensures.out_after (c.write_hex-at.ensures.value ∙ sym (length_hex c.args.need)) (omega (arith, spaced)) in
    rw (wrote_length _ _ _ _ needed (omega (arith, spaced))) (omega (arith, spaced))

pub slice_bounds-write_count-start : goal.slice_bounds-write_count-start
slice_bounds-write_count-start c =
    let room : length (count c.args.budget) + 20 ≤ length c.args.line.now = rw (length_cap c.args.need c.args.budget) at c.requires in
    let spaced : 2 + c.write_hex-at.result + 1 ≤ length c.args.line.now = omega (arith, room, c.write_hex-at.ensures.value) in
    let letter : Wrote c.args.line.now (67 ∷ 32 ∷ []) (lettered c.args.line.now 67) 2 = wrote_letter _ 67 (omega (arith, room)) in
    let needed : let a = c.args in let l = a.line.now in Wrote l (67 ∷ 32 ∷ [] ++ hex a.need ++ (32 ∷ [])) (fielded (lettered l 67) 2 c.write_hex-at.new.out c.write_hex-at.result 32) (2 + c.write_hex-at.result + 1) = wrote_field _ _ _ _ _ _ _ 32 letter c.write_hex-at.ensures.out_after (c.write_hex-at.ensures.value ∙ sym (length_hex c.args.need)) (omega (arith, spaced)) in
    rw (wrote_length _ _ _ _ needed (omega (arith, spaced))) (omega (arith, spaced))

pub write_count-at-requires : goal.write_count-at-requires
write_count-at-requires c =
    let room : length (count c.args.budget) + 20 ≤ length c.args.line.now = rw (length_cap c.args.need c.args.budget) at c.requires in
    let letter : Wrote c.args.line.now (67 ∷ 32 ∷ []) (lettered c.args.line.now 67) 2 = wrote_letter _ 67 (omega (arith, room)) in
    let spaced : 2 + c.write_hex-at.result + 1 ≤ length c.args.line.now = omega (arith, room, c.write_hex-at.ensures.value) in
    let needed : let a = c.args in let l = a.line.now in Wrote l (67 ∷ 32 ∷ [] ++ hex a.need ++ (32 ∷ [])) (fielded (lettered l 67) 2 c.write_hex-at.new.out c.write_hex-at.result 32) (2 + c.write_hex-at.result + 1) = wrote_field _ _ _ _ _ _ _ 32 letter c.write_hex-at.ensures.out_after (c.write_hex-at.ensures.value ∙ sym (length_hex c.args.need)) (omega (arith, spaced)) in
    part_room _ _ _ _ _ needed (omega (arith, room, c.write_hex-at.ensures.value))

pub overflow_add-at-3 : goal.overflow_add-at-3
overflow_add-at-3 c =
    let room : length (count c.args.budget) + 20 ≤ length c.args.line.now = rw (length_cap c.args.need c.args.budget) at c.requires in
    let short : 2 + c.write_hex-at.result + 1 + c.write_count-at.result + 1 ≤ length c.args.line.now = omega (arith, room, c.write_hex-at.ensures.value, c.write_count-at.ensures.value) in
    omega (arith, short)

pub bounds-line-at-2 : goal.bounds-line-at-2
bounds-line-at-2 c =
    let room : length (count c.args.budget) + 20 ≤ length c.args.line.now = rw (length_cap c.args.need c.args.budget) at c.requires in
    let letter : Wrote c.args.line.now (67 ∷ 32 ∷ []) (lettered c.args.line.now 67) 2 = wrote_letter _ 67 (omega (arith, room)) in
    let spaced : 2 + c.write_hex-at.result + 1 ≤ length c.args.line.now = omega (arith, room, c.write_hex-at.ensures.value) in
    let needed : let a = c.args in let l = a.line.now in Wrote l (67 ∷ 32 ∷ [] ++ hex a.need ++ (32 ∷ [])) (fielded (lettered l 67) 2 c.write_hex-at.new.out c.write_hex-at.result 32) (2 + c.write_hex-at.result + 1) = wrote_field _ _ _ _ _ _ _ 32 letter c.write_hex-at.ensures.out_after (c.write_hex-at.ensures.value ∙ sym (length_hex c.args.need)) (omega (arith, spaced)) in
    let short : 2 + c.write_hex-at.result + 1 + c.write_count-at.result + 1 ≤ length c.args.line.now = omega (arith, room, c.write_hex-at.ensures.value, c.write_count-at.ensures.value) in
    rw (lent_length _ _ _ _ _ _ _ needed c.write_count-at.ensures.out_after c.write_count-at.ensures.value (omega (arith, short))) (omega (arith, short))

pub overflow_add-result : goal.overflow_add-result
overflow_add-result c =
    let room : length (count c.args.budget) + 20 ≤ length c.args.line.now = rw (length_cap c.args.need c.args.budget) at c.requires in
    let short : 2 + c.write_hex-at.result + 1 + c.write_count-at.result + 1 ≤ length c.args.line.now = omega (arith, room, c.write_hex-at.ensures.value, c.write_count-at.ensures.value) in
    omega (arith, short)

pub shape_of-line : goal.shape_of-line
shape_of-line c =
    let room : length (count c.args.budget) + 20 ≤ length c.args.line.now = rw (length_cap c.args.need c.args.budget) at c.requires in
    let short : 2 + c.write_hex-at.result + 1 + c.write_count-at.result + 1 ≤ length c.args.line.now = omega (arith, room, c.write_hex-at.ensures.value, c.write_count-at.ensures.value) in
    let letter : Wrote c.args.line.now (67 ∷ 32 ∷ []) (lettered c.args.line.now 67) 2 = wrote_letter _ 67 (omega (arith, room)) in
    let spaced : 2 + c.write_hex-at.result + 1 ≤ length c.args.line.now = omega (arith, room, c.write_hex-at.ensures.value) in
    let needed : let a = c.args in let l = a.line.now in Wrote l (67 ∷ 32 ∷ [] ++ hex a.need ++ (32 ∷ [])) (fielded (lettered l 67) 2 c.write_hex-at.new.out c.write_hex-at.result 32) (2 + c.write_hex-at.result + 1) = wrote_field _ _ _ _ _ _ _ 32 letter c.write_hex-at.ensures.out_after (c.write_hex-at.ensures.value ∙ sym (length_hex c.args.need)) (omega (arith, spaced)) in
    let whole : let a = c.args in let l = a.line.now in Wrote l (67 ∷ 32 ∷ [] ++ hex a.need ++ (32 ∷ []) ++ count a.budget ++ (10 ∷ [])) (fielded (fielded (lettered l 67) 2 c.write_hex-at.new.out c.write_hex-at.result 32) (2 + c.write_hex-at.result + 1) c.write_count-at.new.out c.write_count-at.result 10) (2 + c.write_hex-at.result + 1 + c.write_count-at.result + 1) = wrote_field _ _ _ _ _ _ _ 10 needed c.write_count-at.ensures.out_after c.write_count-at.ensures.value (omega (arith, short)) in
    wrote_length _ _ _ _ whole short

pub returns : goal.returns
unfolding cap_line
returns c =
    let room : length (count c.args.budget) + 20 ≤ length c.args.line.now = rw (length_cap c.args.need c.args.budget) at c.requires in
    let letter : Wrote c.args.line.now (67 ∷ 32 ∷ []) (lettered c.args.line.now 67) 2 = wrote_letter _ 67 (omega (arith, room)) in
    let spaced : 2 + c.write_hex-at.result + 1 ≤ length c.args.line.now = omega (arith, room, c.write_hex-at.ensures.value) in
    let needed : let a = c.args in let l = a.line.now in Wrote l (67 ∷ 32 ∷ [] ++ hex a.need ++ (32 ∷ [])) (fielded (lettered l 67) 2 c.write_hex-at.new.out c.write_hex-at.result 32) (2 + c.write_hex-at.result + 1) = wrote_field _ _ _ _ _ _ _ 32 letter c.write_hex-at.ensures.out_after (c.write_hex-at.ensures.value ∙ sym (length_hex c.args.need)) (omega (arith, spaced)) in
    let short : 2 + c.write_hex-at.result + 1 + c.write_count-at.result + 1 ≤ length c.args.line.now = omega (arith, room, c.write_hex-at.ensures.value, c.write_count-at.ensures.value) in
    let whole : let a = c.args in let l = a.line.now in Wrote l (67 ∷ 32 ∷ [] ++ hex a.need ++ (32 ∷ []) ++ count a.budget ++ (10 ∷ [])) (fielded (fielded (lettered l 67) 2 c.write_hex-at.new.out c.write_hex-at.result 32) (2 + c.write_hex-at.result + 1) c.write_count-at.new.out c.write_count-at.result 10) (2 + c.write_hex-at.result + 1 + c.write_count-at.result + 1) = wrote_field _ _ _ _ _ _ _ 10 needed c.write_count-at.ensures.out_after c.write_count-at.ensures.value (omega (arith, short)) in
    let p = wrote_as _ _ _ _ _ whole (two_fields 67 _ _) in record { line_after = p.0; value = p.1 }
