-- `table::rows::check_table` meets its contract: 23, then 24. Assumes nothing.
use mathlib.Core.Path.{sym, ◌∙◌}
use Rattle.table.proofs.Looking.{small_refused, bad_refused, table_passes}
use Rattle.table.proofs.rows.check_table.Goals as goal

pub returns-then-table_fits : goal.returns-then-table_fits
returns-then-table_fits c = table_passes _ c.if-table-ge-TABLE_ROOM.true (sym c.table_fits.ensures ∙ c.if-table_fits.true)

pub returns-then-table-ge-TABLE_ROOM : goal.returns-then-table-ge-TABLE_ROOM
returns-then-table-ge-TABLE_ROOM c = bad_refused _ c.if-table-ge-TABLE_ROOM.true (sym c.table_fits.ensures ∙ c.if-table_fits.false)

pub returns : goal.returns
returns c = small_refused c.args.table.now c.if-table-ge-TABLE_ROOM.false
