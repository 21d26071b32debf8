use Rattle.std.specs.Prelude.{Option, Some, None}
use Rattle.std.specs.Option.{option_map}
use mathlib.Core.Path.{◌≡◌, refl, ◌∙◌}
use lib.IntN.{ℤ, ◌+ℤ◌}
use borrow.Author.Rules.{rules}
use Rattle.prices.specs.Prices.{ask_price}
use Rattle.prices.proofs.Building.{outward_fits, above_fits}
use Rattle.prices.proofs.widening.ask_price.Goals as goal

mapped : (mid w : ℤ) (ask : Option ℤ) → option_map (λ d. mid +ℤ (d +ℤ w)) ask ≡ ask_price mid w ask
unfolding ask_price
mapped mid w (Some d) = refl
mapped mid w None = refl

pub map-requires : goal.map-requires
map-requires c =
    let s = c.args in
    let f = c.requires in
    search (rules, outward_fits s.w s.ask f.1 f.2, above_fits s.w s.ask f.1 f.2 s.mid f.0)

pub returns : goal.returns
returns c =
    let s = c.args in
    let f = c.requires in
    let prices-are : c.map.result ≡ option_map (λ d. s.mid +ℤ (d +ℤ s.w)) s.ask = search (rules, outward_fits s.w s.ask f.1 f.2, above_fits s.w s.ask f.1 f.2 s.mid f.0) in
    prices-are ∙ mapped s.mid s.w s.ask
