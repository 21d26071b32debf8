-- `table::writing::add_row` meets its contract: the two counts, and the row's numbers in the next row's part. Assumes nothing.
use mathlib.Core.Path.{◌∙◌}
use native.Mathlib.Omega.{arith}
use lib.ListN.{length-set}
use Rattle.distances.specs.Distances.{lent}
use Rattle.table.proofs.Stores.{row_put}
use Rattle.table.proofs.writing.add_row.Goals as goal

pub bounds-table-1-2 : goal.bounds-table-1-2
bounds-table-1-2 c = simp length-set (omega arith)

pub slice_bounds-write_row-end : goal.slice_bounds-write_row-end
slice_bounds-write_row-end c = simp length-set (omega arith)

pub shape_of-table : goal.shape_of-table
shape_of-table c = c.table-1.given.1 ∙ simp length-set

pub returns : goal.returns
returns c =
    let w = c.write_row in
    row_put c.args.kept.input c.args.kept.steps (lent c.args.kept.n c.args.kept.w.now c.args.kept.log_offset.now) c.args.table.now w.new.row _ _ _ c.row_at-at.ensures c.one_more.ensures c.row_after.ensures c.args.kept.weights c.args.kept.offsets w.ensures
