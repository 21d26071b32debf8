-- `table::clear_table` meets its contract: 23, or every number is 0. Assumes nothing.
use Rattle.table.proofs.Stores.{clear_passes, clear_refused}
use Rattle.table.proofs.clear_table.Goals as goal

pub returns-then-table-ge-TABLE_ROOM : goal.returns-then-table-ge-TABLE_ROOM
returns-then-table-ge-TABLE_ROOM c = let p = clear_passes c.args.table.now _ c.if-table-ge-TABLE_ROOM.true c.set_zeros.ensures in record { value = p.0; table_after = p.1 }

pub returns : goal.returns
returns c = let p = clear_refused c.args.table.now c.if-table-ge-TABLE_ROOM.false in record { value = p.0; table_after = p.1 }
