-- `printing::print_sheet` meets its contract: the sheet is what was read. Assumes nothing.
use native.Mathlib.Omega.{arith}
use Rattle.printing.specs.Printing.{OfSomeSheet}
use Rattle.printing.proofs.Handing.{read_most, of_sheet}
use Rattle.printing.proofs.print_sheet.Goals as goal
use Rattle.std.proofs.lemmas.Result.{err_from_is_err_and}

pub returns : goal.returns
returns c =
    let m = read_most c.in_ok-n.n _ c.read.new.input c.first.ensures in
    of_sheet _ _ _ (omega (arith, m, c.read.auto.input, c.blank-input.ensures)) c.print_texts.ensures

pub returns-in_err-n : goal.returns-in_err-n
unfolding OfSomeSheet
returns-in_err-n c = rw (err_from_is_err_and c.from_residual.result c.from_residual.ensures.1).1 tt
