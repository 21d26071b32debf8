use mathlib.Core.Path.{◌≡◌, sym, subst, ◌∙◌}
use Prim.Native.Nat.{◌*◌, ◌≤◌}
use native.Mathlib.Omega.{arith}
use mathlib.Core.Bool.{◌&&◌}
use lib.IntN.{nat_abs}
use lib.Dec.{T}
use mir.Syntax.{w64}
use mir.Val.{to_z, of_z}
use mir.Facts.{to_z-of_z, and_yes}
use Rattle.amounts.specs.Amounts.{amount_limit, amount_ok}
use Rattle.amounts.proofs.Sizes.{size_fits}
use Rattle.prices.specs.Prices.{each, widening, widened, widen_if, widen}
use Rattle.prices.proofs.Building.{size_widening}
use Rattle.prices.proofs.widening.widen.Goals as goal

pub moved-w-requires : goal.moved-w-requires
moved-w-requires c =
    let amounts-are : let s = c.args in (amount_ok s.mid && amount_ok s.min_spread) ≡ (c.amount_fits.result && c.amount_fits-2.result) = rw (c.amount_fits.ensures, c.amount_fits-2.ensures, to_z-of_z c.ranges.mid, to_z-of_z c.ranges.min_spread) in
    let amounts-ok : let s = c.args in T (amount_ok s.mid) × T (amount_ok s.min_spread) = let s = c.args in
    and_yes (amount_ok s.mid) (amount_ok s.min_spread) (subst T (sym (amounts-are ∙ c.if-amount_fits.true)) tt) in
    let sides_are : let s = c.args in (each amount_ok s.bid && each amount_ok s.ask) ≡ (c.side_fits.result && c.side_fits-then-amount_fits.result) = rw (c.side_fits.ensures, c.side_fits-then-amount_fits.ensures) in
    let sides-ok : let s = c.args in T (each amount_ok s.bid) × T (each amount_ok s.ask) = let s = c.args in
    and_yes (each amount_ok s.bid) (each amount_ok s.ask) (subst T (sym (sides_are ∙ c.if-side_fits.true)) tt) in
    rw (to_z-of_z c.ranges.min_spread) (amounts-ok.1, sides-ok.0, sides-ok.1)

pub bid_price-requires : goal.bid_price-requires
bid_price-requires c =
    let amounts-are : let s = c.args in (amount_ok s.mid && amount_ok s.min_spread) ≡ (c.amount_fits.result && c.amount_fits-2.result) = rw (c.amount_fits.ensures, c.amount_fits-2.ensures, to_z-of_z c.ranges.mid, to_z-of_z c.ranges.min_spread) in
    let amounts-ok : let s = c.args in T (amount_ok s.mid) × T (amount_ok s.min_spread) = let s = c.args in
    and_yes (amount_ok s.mid) (amount_ok s.min_spread) (subst T (sym (amounts-are ∙ c.if-amount_fits.true)) tt) in
    let sides_are : let s = c.args in (each amount_ok s.bid && each amount_ok s.ask) ≡ (c.side_fits.result && c.side_fits-then-amount_fits.result) = rw (c.side_fits.ensures, c.side_fits-then-amount_fits.ensures) in
    let sides-ok : let s = c.args in T (each amount_ok s.bid) × T (each amount_ok s.ask) = let s = c.args in
    and_yes (each amount_ok s.bid) (each amount_ok s.ask) (subst T (sym (sides_are ∙ c.if-side_fits.true)) tt) in
    let moved-size : let s = c.args in nat_abs (widening s.min_spread s.bid s.ask) ≤ 3 * amount_limit = let s = c.args in
    size_widening s.min_spread s.bid s.ask amounts-ok.1 sides-ok.0 sides-ok.1 in
    let moved-is : let s = c.args in to_z w64 (of_z w64 c.moved-w.result) ≡ widening s.min_spread s.bid s.ask = rw (c.moved-w.ensures, to_z-of_z c.ranges.min_spread) (to_z-of_z (size_fits (widening c.args.min_spread c.args.bid c.args.ask) (omega (arith, moved-size)))) in
    rw (to_z-of_z c.ranges.mid, moved-is) (amounts-ok.0, moved-size, sides-ok.0)

pub ask_price-requires : goal.ask_price-requires
ask_price-requires c =
    let amounts-are : let s = c.args in (amount_ok s.mid && amount_ok s.min_spread) ≡ (c.amount_fits.result && c.amount_fits-2.result) = rw (c.amount_fits.ensures, c.amount_fits-2.ensures, to_z-of_z c.ranges.mid, to_z-of_z c.ranges.min_spread) in
    let amounts-ok : let s = c.args in T (amount_ok s.mid) × T (amount_ok s.min_spread) = let s = c.args in
    and_yes (amount_ok s.mid) (amount_ok s.min_spread) (subst T (sym (amounts-are ∙ c.if-amount_fits.true)) tt) in
    let sides_are : let s = c.args in (each amount_ok s.bid && each amount_ok s.ask) ≡ (c.side_fits.result && c.side_fits-then-amount_fits.result) = rw (c.side_fits.ensures, c.side_fits-then-amount_fits.ensures) in
    let sides-ok : let s = c.args in T (each amount_ok s.bid) × T (each amount_ok s.ask) = let s = c.args in
    and_yes (each amount_ok s.bid) (each amount_ok s.ask) (subst T (sym (sides_are ∙ c.if-side_fits.true)) tt) in
    let moved-size : let s = c.args in nat_abs (widening s.min_spread s.bid s.ask) ≤ 3 * amount_limit = let s = c.args in
    size_widening s.min_spread s.bid s.ask amounts-ok.1 sides-ok.0 sides-ok.1 in
    let moved-is : let s = c.args in to_z w64 (of_z w64 c.moved-w.result) ≡ widening s.min_spread s.bid s.ask = rw (c.moved-w.ensures, to_z-of_z c.ranges.min_spread) (to_z-of_z (size_fits (widening c.args.min_spread c.args.bid c.args.ask) (omega (arith, moved-size)))) in
    rw (to_z-of_z c.ranges.mid, moved-is) (amounts-ok.0, moved-size, sides-ok.1)

pub returns-then-side_fits : goal.returns-then-side_fits
unfolding widen widen_if widened
returns-then-side_fits c =
    let amounts-are : let s = c.args in (amount_ok s.mid && amount_ok s.min_spread) ≡ (c.amount_fits.result && c.amount_fits-2.result) = rw (c.amount_fits.ensures, c.amount_fits-2.ensures, to_z-of_z c.ranges.mid, to_z-of_z c.ranges.min_spread) in
    let sides_are : let s = c.args in (each amount_ok s.bid && each amount_ok s.ask) ≡ (c.side_fits.result && c.side_fits-then-amount_fits.result) = rw (c.side_fits.ensures, c.side_fits-then-amount_fits.ensures) in
    let amounts-ok : let s = c.args in T (amount_ok s.mid) × T (amount_ok s.min_spread) = let s = c.args in
    and_yes (amount_ok s.mid) (amount_ok s.min_spread) (subst T (sym (amounts-are ∙ c.if-amount_fits.true)) tt) in
    let sides-ok : let s = c.args in T (each amount_ok s.bid) × T (each amount_ok s.ask) = let s = c.args in
    and_yes (each amount_ok s.bid) (each amount_ok s.ask) (subst T (sym (sides_are ∙ c.if-side_fits.true)) tt) in
    let moved-size : let s = c.args in nat_abs (widening s.min_spread s.bid s.ask) ≤ 3 * amount_limit = let s = c.args in
    size_widening s.min_spread s.bid s.ask amounts-ok.1 sides-ok.0 sides-ok.1 in
    let moved-is : let s = c.args in to_z w64 (of_z w64 c.moved-w.result) ≡ widening s.min_spread s.bid s.ask = rw (c.moved-w.ensures, to_z-of_z c.ranges.min_spread) (to_z-of_z (size_fits (widening c.args.min_spread c.args.bid c.args.ask) (omega (arith, moved-size)))) in
    rw (amounts-are, c.if-amount_fits.true, sides_are, c.if-side_fits.true, c.bid_price.ensures, c.ask_price.ensures, to_z-of_z c.ranges.mid, moved-is)

pub returns-then-amount_fits : goal.returns-then-amount_fits
unfolding widen widen_if
returns-then-amount_fits c =
    let amounts-are : let s = c.args in (amount_ok s.mid && amount_ok s.min_spread) ≡ (c.amount_fits.result && c.amount_fits-2.result) = rw (c.amount_fits.ensures, c.amount_fits-2.ensures, to_z-of_z c.ranges.mid, to_z-of_z c.ranges.min_spread) in
    let sides_are : let s = c.args in (each amount_ok s.bid && each amount_ok s.ask) ≡ (c.side_fits.result && c.side_fits-then-amount_fits.result) = rw (c.side_fits.ensures, c.side_fits-then-amount_fits.ensures) in
    rw (amounts-are, c.if-amount_fits.true, sides_are, c.if-side_fits.false)

pub returns : goal.returns
unfolding widen widen_if
returns c =
    let amounts-are : let s = c.args in (amount_ok s.mid && amount_ok s.min_spread) ≡ (c.amount_fits.result && c.amount_fits-2.result) = rw (c.amount_fits.ensures, c.amount_fits-2.ensures, to_z-of_z c.ranges.mid, to_z-of_z c.ranges.min_spread) in
    rw (amounts-are, c.if-amount_fits.false)
