use mathlib.Core.Path.{◌≡◌}
use mathlib.Core.Bool.{◌&&◌}
use Rattle.amounts.specs.Amounts.{amount_ok}
use Rattle.prices.specs.Prices.{each, judge_if, judge}
use Rattle.prices.proofs.judging.judge.Goals as goal

pub returns-then-side_positive-below : goal.returns-then-side_positive-below
unfolding judge judge_if
returns-then-side_positive-below c =
    let within : let q = c.args.quotes in (each amount_ok q.bid && each amount_ok q.ask) ≡ (c.side_fits.result && c.side_fits-2.result) = rw (c.side_fits.ensures, c.side_fits-2.ensures) in
    rw (within, c.if-side_fits.true, rw (c.side_positive.ensures, c.side_positive-then-side_fits.ensures, c.below.ensures) at c.if-side_positive-below.true)

pub returns-then-side_fits : goal.returns-then-side_fits
unfolding judge judge_if
returns-then-side_fits c =
    let within : let q = c.args.quotes in (each amount_ok q.bid && each amount_ok q.ask) ≡ (c.side_fits.result && c.side_fits-2.result) = rw (c.side_fits.ensures, c.side_fits-2.ensures) in
    rw (within, c.if-side_fits.true, rw (c.side_positive.ensures, c.side_positive-then-side_fits.ensures, c.below.ensures) at c.if-side_positive-below.false)

pub returns : goal.returns
unfolding judge judge_if
returns c =
    let within : let q = c.args.quotes in (each amount_ok q.bid && each amount_ok q.ask) ≡ (c.side_fits.result && c.side_fits-2.result) = rw (c.side_fits.ensures, c.side_fits-2.ensures) in
    rw (within, c.if-side_fits.false)
