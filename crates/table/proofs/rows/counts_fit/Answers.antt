-- `table::rows::counts_fit` meets its contract, by its definition. Assumes nothing.
use borrow.Author.Rules.{rules}
use Rattle.table.specs.Table.{counts_ok}
use Rattle.table.proofs.rows.counts_fit.Goals as goal

pub returns : goal.returns
unfolding counts_ok
returns c = search rules
