-- `table::rows::row_agrees` meets its contract, by its definition. Assumes nothing.
use Rattle.table.specs.Table.{agrees}
use Rattle.table.proofs.rows.row_agrees.Goals as goal

pub returns : goal.returns
unfolding agrees
returns c =
    rw (c.row_at-at.ensures, c.from.ensures, c.bits_of.ensures, c.bits_of-2.ensures, c.bits_of-3.ensures, c.bits_of-4.ensures)
