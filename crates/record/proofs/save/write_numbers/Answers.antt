use native.Mathlib.Omega.{arith}
use Rattle.buffers.proofs.Texts.{part_room}
use Rattle.record.proofs.Saving.{saving_none, saving_room, saving_more}
use Rattle.record.proofs.save.write_numbers.Goals as goal

pub loop-n-init : goal.loop-n-init
loop-n-init c = saving_none _ _

pub slice_bounds-write_number-count : goal.slice_bounds-write_number-count
slice_bounds-write_number-count c = omega (arith, saving_room _ _ _ _ _ c.requires.room c.loop-n.invariant (omega arith))

pub slice_bounds-write_number-start : goal.slice_bounds-write_number-start
slice_bounds-write_number-start c = omega (arith, saving_room _ _ _ _ _ c.requires.room c.loop-n.invariant (omega arith))

pub write_number-at-requires : goal.write_number-at-requires
write_number-at-requires c = part_room _ _ _ _ _ c.loop-n.invariant.wrote (saving_room _ _ _ _ _ c.requires.room c.loop-n.invariant (omega arith))

pub overflow_add-at : goal.overflow_add-at
overflow_add-at c = omega (arith, saving_room _ _ _ _ _ c.requires.room c.loop-n.invariant (omega arith), c.write_number-at.ensures.value)

pub loop-n-preserved : goal.loop-n-preserved
loop-n-preserved c = saving_more _ _ _ _ _ c.requires.room c.loop-n.invariant (omega arith) _ _ c.write_number-at.ensures.out_after c.write_number-at.ensures.value
