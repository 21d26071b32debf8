-- `table::rows::table_fits` meets its contract: where the counts pass, the filled rows decide. Assumes nothing.
use mathlib.Core.Path.{sym, ◌∙◌}
use Rattle.table.proofs.Checked.{counts_passed}
use Rattle.table.proofs.Looking.{rows_decide, counts_off}
use Rattle.table.proofs.rows.table_fits.Goals as goal

pub rows_fit-requires : goal.rows_fit-requires
rows_fit-requires c = (counts_passed _ _ (sym c.counts_fit.ensures ∙ c.if-counts_fit.true)).few

pub returns-then-counts_fit : goal.returns-then-counts_fit
returns-then-counts_fit c = rows_decide _ _ (sym c.counts_fit.ensures ∙ c.if-counts_fit.true) c.rows_fit.ensures

pub returns : goal.returns
returns c = counts_off _ (sym c.counts_fit.ensures ∙ c.if-counts_fit.false)
