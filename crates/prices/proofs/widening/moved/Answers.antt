use mathlib.Core.Path.{◌≡◌}
use mir.Syntax.{w64}
use mir.Val.{to_z, of_z}
use mir.Facts.{to_z-of_z}
use borrow.Author.Rules.{rules}
use Rattle.prices.specs.Prices.{widening}
use Rattle.prices.proofs.Building.{size_short, spread_fits, short_fits, half_fits}
use Rattle.prices.proofs.widening.moved.Goals as goal

pub overflow_add-b : goal.overflow_add-b
overflow_add-b c =
    let s = c.args in
    let f = c.requires in
    let k = c.in-Some-Some in
    let bid_is : to_z w64 (of_z w64 k.b) ≡ k.b = search rules in
    let ask_is : to_z w64 (of_z w64 k.a) ≡ k.a = search rules in
    rw (bid_is, ask_is) (spread_fits s.least k.b k.a s.bid s.ask f.0 f.1 f.2 k.is-0 k.is-1)

pub overflow_sub-least : goal.overflow_sub-least
overflow_sub-least c =
    let s = c.args in
    let f = c.requires in
    let k = c.in-Some-Some in
    let bid_is : to_z w64 (of_z w64 k.b) ≡ k.b = search rules in
    let ask_is : to_z w64 (of_z w64 k.a) ≡ k.a = search rules in
    rw (bid_is, ask_is, to_z-of_z (spread_fits s.least k.b k.a s.bid s.ask f.0 f.1 f.2 k.is-0 k.is-1), to_z-of_z c.ranges.least) (short_fits s.least k.b k.a s.bid s.ask f.0 f.1 f.2 k.is-0 k.is-1)

pub half_shortfall-requires : goal.half_shortfall-requires
half_shortfall-requires c =
    let s = c.args in
    let f = c.requires in
    let k = c.in-Some-Some in
    let bid_is : to_z w64 (of_z w64 k.b) ≡ k.b = search rules in
    let ask_is : to_z w64 (of_z w64 k.a) ≡ k.a = search rules in
    rw (bid_is, ask_is, to_z-of_z (spread_fits s.least k.b k.a s.bid s.ask f.0 f.1 f.2 k.is-0 k.is-1), to_z-of_z c.ranges.least, to_z-of_z (short_fits s.least k.b k.a s.bid s.ask f.0 f.1 f.2 k.is-0 k.is-1)) (size_short s.least k.b k.a s.bid s.ask f.0 f.1 f.2 k.is-0 k.is-1)

pub returns-in-Some-Some : goal.returns-in-Some-Some
unfolding widening
returns-in-Some-Some c =
    let s = c.args in
    let f = c.requires in
    let k = c.in-Some-Some in
    let bid_is : to_z w64 (of_z w64 k.b) ≡ k.b = search rules in
    let ask_is : to_z w64 (of_z w64 k.a) ≡ k.a = search rules in
    rw (k.is-0, k.is-1, c.half_shortfall.ensures, bid_is, ask_is, to_z-of_z (spread_fits s.least k.b k.a s.bid s.ask f.0 f.1 f.2 k.is-0 k.is-1), to_z-of_z c.ranges.least, to_z-of_z (short_fits s.least k.b k.a s.bid s.ask f.0 f.1 f.2 k.is-0 k.is-1), to_z-of_z (half_fits s.least k.b k.a s.bid s.ask f.0 f.1 f.2 k.is-0 k.is-1))

pub returns-in_default : goal.returns-in_default
unfolding widening
returns-in_default c = rw (c.in_default.is-0, c.in_default.is-1)

pub returns-in_default-2 : goal.returns-in_default-2
unfolding widening
returns-in_default-2 c = rw c.in_default.is-0
