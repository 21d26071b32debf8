-- `table::model_quotes` meets its contract: from the row that is found, which stays, or from a vector that is made. Assumes nothing.
use mathlib.Core.Path.{sym, ap, ◌∙◌}
use mir.Facts.{to_z-of_z}
use Rattle.table.specs.Table.{found}
use Rattle.table.proofs.Checked.{table_passed}
use Rattle.table.proofs.Answering.{row_ready, used_row, used_made}
use Rattle.table.proofs.model_quotes.Goals as goal

pub find-requires : goal.find-requires
find-requires c = (table_passed c.args.table.now c.requires.1).few

pub answer_of_row-requires : goal.answer_of_row-requires
answer_of_row-requires c =
    let e = sym c.find.ensures ∙ c.in-Some.is in
    rw (c.row.ensures.0, c.row.ensures.1) (row_ready c.args.table.now _ _ c.requires.1 e).1

pub row-requires : goal.row-requires
row-requires c = (row_ready c.args.table.now _ _ c.requires.1 (sym c.find.ensures ∙ c.in-Some.is)).0

pub returns-in-Some : goal.returns-in-Some
returns-in-Some c =
    let t = c.args.table.now in
    let e = ap (found t) (sym c.run_input-input.ensures) ∙ sym c.find.ensures ∙ c.in-Some.is in
    let u = used_row c.args.m c.args.q c.args.mid c.args.least c.args.tau t _ e in
    record { value = rw (u, c.quotes_by.ensures, to_z-of_z c.ranges.mid, to_z-of_z c.ranges.least, c.answer_of_row.ensures, c.row.ensures.0, c.row.ensures.1, to_z-of_z c.ranges.q); table_after = rw u }

pub returns-in-None : goal.returns-in-None
returns-in-None c =
    let e = sym c.find.ensures ∙ c.in-None.is in
    let m = c.made_quotes.ensures in
    let p = used_made c.args.m c.args.q c.args.mid c.args.least c.args.tau c.args.table.now _ c.run_input-input.ensures _ _ _ (to_z-of_z c.ranges.mid) (to_z-of_z c.ranges.least)
    (to_z-of_z c.ranges.q) e _ _ m.value m.table_after in record { value = p.0; table_after = p.1 }
