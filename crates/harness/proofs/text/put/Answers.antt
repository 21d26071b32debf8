-- `harness::text::put` meets its contract: the whole text is copied to its place. Assumes nothing.
use Rattle.std.proofs.Common.{sym, ◌∙◌, rules}
use Rattle.harness.proofs.Placing.{placed_none, placed_all, fits_within}
use Rattle.harness.proofs.text.put.Goals as goal

pub returns-then-not-has_room : goal.returns-then-not-has_room
returns-then-not-has_room c = let p = placed_none _ _ _ (sym c.has_room.ensures ∙ c.if-not-has_room.true) in record { out_after = p.0; value = p.1 }

pub overflow_add-end : goal.overflow_add-end
overflow_add-end c = let h = fits_within _ _ _ (sym c.has_room.ensures ∙ c.if-not-has_room.false) in search rules

pub slice_bounds-copy_from_slice-end : goal.slice_bounds-copy_from_slice-end
slice_bounds-copy_from_slice-end c = let h = fits_within _ _ _ (sym c.has_room.ensures ∙ c.if-not-has_room.false) in search rules

pub returns : goal.returns
returns c =
    let p = placed_all _ _ _ _ (sym c.has_room.ensures ∙ c.if-not-has_room.false) c.copy_from_slice.ensures.after in
    record { out_after = p.0; value = p.1 }
