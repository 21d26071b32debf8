use mathlib.Core.Path.{◌≡◌, sym, subst, ◌∙◌}
use native.Mathlib.Omega.{arith}
use mathlib.Core.Bool.{◌&&◌}
use lib.Dec.{T}
use mir.Facts.{to_z-of_z, and_yes}
use Rattle.amounts.specs.Amounts.{amount_ok}
use Rattle.prices.specs.Prices.{each, priced, price_sides, widen_if}
use Rattle.prices.proofs.widening.price_sides.Goals as goal

pub bid_price-requires : goal.bid_price-requires
bid_price-requires c =
    let mid-is : amount_ok c.args.mid ≡ c.amount_fits.result = rw (c.amount_fits.ensures, to_z-of_z c.ranges.mid) in
    let mid-ok : T (amount_ok c.args.mid) = subst T (sym (mid-is ∙ c.if-amount_fits.true)) tt in
    let sides_are : let s = c.args in (each amount_ok s.bid && each amount_ok s.ask) ≡ (c.side_fits.result && c.side_fits-then-amount_fits.result) = rw (c.side_fits.ensures, c.side_fits-then-amount_fits.ensures) in
    let sides-ok : let s = c.args in T (each amount_ok s.bid) × T (each amount_ok s.ask) = let s = c.args in
    and_yes (each amount_ok s.bid) (each amount_ok s.ask) (subst T (sym (sides_are ∙ c.if-side_fits.true)) tt) in
    rw (to_z-of_z c.ranges.mid) (mid-ok, omega arith, sides-ok.0)

pub ask_price-requires : goal.ask_price-requires
ask_price-requires c =
    let mid-is : amount_ok c.args.mid ≡ c.amount_fits.result = rw (c.amount_fits.ensures, to_z-of_z c.ranges.mid) in
    let mid-ok : T (amount_ok c.args.mid) = subst T (sym (mid-is ∙ c.if-amount_fits.true)) tt in
    let sides_are : let s = c.args in (each amount_ok s.bid && each amount_ok s.ask) ≡ (c.side_fits.result && c.side_fits-then-amount_fits.result) = rw (c.side_fits.ensures, c.side_fits-then-amount_fits.ensures) in
    let sides-ok : let s = c.args in T (each amount_ok s.bid) × T (each amount_ok s.ask) = let s = c.args in
    and_yes (each amount_ok s.bid) (each amount_ok s.ask) (subst T (sym (sides_are ∙ c.if-side_fits.true)) tt) in
    rw (to_z-of_z c.ranges.mid) (mid-ok, omega arith, sides-ok.1)

pub returns-then-side_fits : goal.returns-then-side_fits
unfolding price_sides widen_if priced
returns-then-side_fits c =
    let mid-is : amount_ok c.args.mid ≡ c.amount_fits.result = rw (c.amount_fits.ensures, to_z-of_z c.ranges.mid) in
    let sides_are : let s = c.args in (each amount_ok s.bid && each amount_ok s.ask) ≡ (c.side_fits.result && c.side_fits-then-amount_fits.result) = rw (c.side_fits.ensures, c.side_fits-then-amount_fits.ensures) in
    rw (mid-is, c.if-amount_fits.true, sides_are, c.if-side_fits.true, c.bid_price.ensures, c.ask_price.ensures, to_z-of_z c.ranges.mid)

pub returns-then-amount_fits : goal.returns-then-amount_fits
unfolding price_sides widen_if
returns-then-amount_fits c =
    let mid-is : amount_ok c.args.mid ≡ c.amount_fits.result = rw (c.amount_fits.ensures, to_z-of_z c.ranges.mid) in
    let sides_are : let s = c.args in (each amount_ok s.bid && each amount_ok s.ask) ≡ (c.side_fits.result && c.side_fits-then-amount_fits.result) = rw (c.side_fits.ensures, c.side_fits-then-amount_fits.ensures) in
    rw (mid-is, c.if-amount_fits.true, sides_are, c.if-side_fits.false)

pub returns : goal.returns
unfolding price_sides widen_if
returns c =
    let mid-is : amount_ok c.args.mid ≡ c.amount_fits.result = rw (c.amount_fits.ensures, to_z-of_z c.ranges.mid) in
    rw (mid-is, c.if-amount_fits.false)
