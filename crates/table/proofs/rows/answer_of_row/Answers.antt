-- `table::rows::answer_of_row` meets its contract: the parts of the table that are lent are the row's weights and offsets. Assumes nothing.
use native.Mathlib.Omega.{arith}
use mir.Facts.{to_z-of_z}
use Rattle.table.proofs.Checked.{row_passed}
use Rattle.table.proofs.Answering.{first_is, row_read}
use Rattle.table.proofs.rows.answer_of_row.Goals as goal

pub overflow_cast-table : goal.overflow_cast-table
overflow_cast-table c =
    let w = c.args.row in
    let t = w.table.numbers.now in
    rw (first_is t w.r _ c.row_at-at.ensures w.table.room w.few) (omega (arith, (row_passed t w.r c.requires).steps))

pub returns : goal.returns
returns c =
    let a = c.args in
    let w = a.row in
    rw (c.answer_in_bits.ensures, to_z-of_z c.ranges.q) (row_read w.table.numbers.now w.r _ c.row_at-at.ensures w.table.room w.few a.m.k a.m.base a.q)
