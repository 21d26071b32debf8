-- `printing::output::hand_on` meets its contract: what is done then is no more than the longest print. Assumes nothing.
use mathlib.Core.Path.{refl}
use native.Mathlib.Omega.{arith}
use Rattle.printing.specs.Printing.{HandedOn}
use Rattle.printing.proofs.Handing.{next_most}
use Rattle.printing.proofs.output.hand_on.Goals as goal
use Rattle.std.proofs.lemmas.Result.{err_from_is_err_and}

pub returns-in_err-write_all : goal.returns-in_err-write_all
unfolding HandedOn
returns-in_err-write_all c = rw (err_from_is_err_and c.from_residual.result c.from_residual.ensures.1).1 tt

pub overflow_add-result : goal.overflow_add-result
overflow_add-result c =
    let m = next_most c.args.kind c.args.s.now c.args.done.count c.args.text.now c.requires in
    record { fits = omega arith }

pub returns : goal.returns
unfolding HandedOn
returns c = refl
