use mathlib.Core.Path.{◌≡◌}
use mathlib.Core.List.{◌∷◌, []}
use lib.Dec.{eqb}
use mir.Syntax.{w64}
use mir.Val.{of_z}
use mir.Facts.{to_z-of_z}
use Rattle.model.specs.Refusals.{market, drifting}
use Rattle.model.specs.Configuration.{number_checks}
use Rattle.model.specs.Model.{market_ok, driftless, model_limits, check_closed_form}
use Rattle.amounts.proofs.Limits.{zero_bits}
use Rattle.model.proofs.Joined.{one_told, joined_told}
use Rattle.model.proofs.checks.check_closed_form.Goals as goal

pub returns : goal.returns
unfolding check_closed_form driftless
returns c =
    let drift-is : let x = c.args.config in eqb (of_z w64 x.drift) 0 ≡ driftless x = zero_bits c.args.config.drift c.struct_told-1.given.1.1.1.1.1.1.1.0.1 in
    let a = c.args in
    let d = driftless a.config in
    let m = market_ok a.mid_price a.volatility in
    rw (c.first_refusal-2.ensures, c.first_refusal.ensures, c.check_prices.ensures, c.one_check.ensures, drift-is, c.check_numbers.ensures, c.limits_fit-fit.ensures, to_z-of_z c.ranges.mid_price, to_z-of_z c.ranges.inventory, to_z-of_z c.ranges.volatility, one_told d drifting, one_told m market, joined_told ((d, drifting) ∷ []) ((m, market) ∷ []))
    (joined_told (number_checks (model_limits a.mid_price a.inventory a.config a.volatility) a.config) ((d, drifting) ∷ (m, market) ∷ []))
