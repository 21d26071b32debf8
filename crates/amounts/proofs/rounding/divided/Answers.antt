use Rattle.std.proofs.Common.{div-le_self, arith}
use native.Mathlib.Nat.{mod-le}
use Rattle.amounts.proofs.Words.{words_cut, words_up, words_whole}
use Rattle.amounts.proofs.rounding.divided.Goals as goal

pub returns-then-cut : goal.returns-then-cut
returns-then-cut c =
    rw c.if-cut.true (words_cut c.args.p.high c.args.p.low c.args.unit c.requires.words_fit.1 c.requires.unit_fits.0)

pub overflow_add-rest : goal.overflow_add-rest
overflow_add-rest c =
    omega (arith, mod-le c.args.p.high c.args.unit)

pub overflow_add-result : goal.overflow_add-result
overflow_add-result c =
    omega (arith, div-le_self c.args.p.high c.args.unit)

pub returns-then-rest-p-gt0 : goal.returns-then-rest-p-gt0
returns-then-rest-p-gt0 c =
    rw c.if-cut.false (words_up c.args.p.high c.args.p.low c.args.unit c.requires.words_fit.1 c.requires.unit_fits.0 c.if-rest-p-gt0.true)

pub returns : goal.returns
returns c =
    rw c.if-cut.false (words_whole c.args.p.high c.args.p.low c.args.unit c.requires.words_fit.1 c.requires.unit_fits.0 c.if-rest-p-gt0.false)
