-- `table::writing::write_row` meets its contract: seven stores, and the bits of two arrays of 401 floats. Assumes nothing.
use mathlib.Core.Path.{◌∙◌}
use native.Mathlib.Omega.{arith}
use lib.ListN.{length-set}
use Rattle.table.proofs.Stores.{row_made}
use Rattle.table.proofs.writing.write_row.Goals as goal

pub bounds-row-4 : goal.bounds-row-4
bounds-row-4 c = simp length-set (omega arith)

pub bounds-row-5 : goal.bounds-row-5
bounds-row-5 c = simp length-set (omega arith)

pub bounds-row-6 : goal.bounds-row-6
bounds-row-6 c = simp length-set (omega arith)

pub slice_bounds-write_bits-end : goal.slice_bounds-write_bits-end
slice_bounds-write_bits-end c = simp length-set (omega arith)

pub slice_bounds-write_bits-end-2 : goal.slice_bounds-write_bits-end-2
slice_bounds-write_bits-end-2 c = let e = simp length-set at c.row-1.given.1 in omega arith

pub shape_of-row : goal.shape_of-row
shape_of-row c = c.row-2-1.given.1 ∙ c.row-1.given.1 ∙ simp length-set

pub returns : goal.returns
returns c =
    rw (c.from.ensures, c.from-2.ensures)
    (row_made c.args.kept.input c.args.kept.steps c.args.kept.n c.args.kept.w.now c.args.kept.log_offset.now c.args.row.now c.write_bits.new.out c.write_bits-2.new.out _ _ _ _ c.requires c.args.kept.weights c.write_bits.ensures c.write_bits-2.ensures c.bits_of.ensures c.bits_of-2.ensures c.bits_of-3.ensures c.bits_of-4.ensures)
