use Rattle.std.specs.Prelude.{Option, Some, None}
use Rattle.std.specs.Option.{option_map}
use mathlib.Core.Path.{◌≡◌, refl, ◌∙◌}
use lib.IntN.{ℤ, ◌+ℤ◌, ◌-ℤ◌}
use borrow.Author.Rules.{rules}
use Rattle.prices.specs.Prices.{bid_price}
use Rattle.prices.proofs.Building.{outward_fits, below_fits}
use Rattle.prices.proofs.widening.bid_price.Goals as goal

mapped : (mid w : ℤ) (bid : Option ℤ) → option_map (λ d. mid -ℤ (d +ℤ w)) bid ≡ bid_price mid w bid
unfolding bid_price
mapped mid w (Some d) = refl
mapped mid w None = refl

pub map-requires : goal.map-requires
map-requires c =
    let s = c.args in
    let f = c.requires in
    search (rules, outward_fits s.w s.bid f.1 f.2, below_fits s.w s.bid f.1 f.2 s.mid f.0)

pub returns : goal.returns
returns c =
    let s = c.args in
    let f = c.requires in
    let prices-are : c.map.result ≡ option_map (λ d. s.mid -ℤ (d +ℤ s.w)) s.bid = search (rules, outward_fits s.w s.bid f.1 f.2, below_fits s.w s.bid f.1 f.2 s.mid f.0) in
    prices-are ∙ mapped s.mid s.w s.bid
