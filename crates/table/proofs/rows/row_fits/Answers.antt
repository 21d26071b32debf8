-- `table::rows::row_fits` meets its contract: a bound beyond 200 fails, and below it the three other tests decide. Assumes nothing.
use Rattle.table.proofs.Looking.{row_far, row_near}
use Rattle.table.proofs.rows.row_fits.Goals as goal

pub returns-then-from-bound : goal.returns-then-from-bound
returns-then-from-bound c = row_far _ _ _ c.row_at-at.ensures (rw c.from.ensures at c.if-from-bound.true)

pub returns : goal.returns
returns c = rw c.from-2.ensures (row_near _ _ _ c.row_at-at.ensures (rw c.from.ensures at c.if-from-bound.false))
