use mathlib.Core.Path.{◌≡◌, sym, subst, ◌∙◌}
use lib.Dec.{T}
use mir.Facts.{to_z-of_z}
use Rattle.elementary.specs.Checks.{verdict, first_of, first_failing}
use Rattle.amounts.specs.Amounts.{above0}
use Rattle.model.specs.Checks.{verdict_of}
use Rattle.model.specs.Model.{holding_ok, model_of, model_ok, model_if, model_after}
use Rattle.amounts.proofs.Limits.{kept}
use Rattle.model.proofs.parameters.of_holding.Goals as goal

pub holding_fits-requires : goal.holding_fits-requires
holding_fits-requires c =
    let lot-is : above0 c.args.config.lot_size ≡ c.is_positive.result = rw (c.is_positive.ensures, kept c.args.config.lot_size c.struct_told-1.given.1.1.1.1.0.1) in
    subst T (sym (lot-is ∙ c.if-is_positive.true)) tt

pub lots_of-requires : goal.lots_of-requires
lots_of-requires c =
    let lot-is : above0 c.args.config.lot_size ≡ c.is_positive.result = rw (c.is_positive.ensures, kept c.args.config.lot_size c.struct_told-1.given.1.1.1.1.0.1) in
    subst T (sym (lot-is ∙ c.if-is_positive.true)) tt

pub returns-then-floats_fit : goal.returns-then-floats_fit
unfolding model_after verdict_of first_failing first_of verdict model_if
returns-then-floats_fit c =
    let lot-is : above0 c.args.config.lot_size ≡ c.is_positive.result = rw (c.is_positive.ensures, kept c.args.config.lot_size c.struct_told-1.given.1.1.1.1.0.1) in
    let holding-is : let a = c.args in holding_ok a.inventory a.config ≡ c.holding_fits.result = rw (c.holding_fits.ensures, to_z-of_z c.ranges.inventory) in
    let made : let a = c.args in c.model_of-m.result ≡ model_of a.config a.volatility = rw (c.model_of-m.ensures, to_z-of_z c.ranges.volatility) in
    let floats-are : let a = c.args in model_ok (model_of a.config a.volatility) ≡ c.floats_fit.result = rw (c.floats_fit.ensures, made) in
    rw (lot-is, c.if-is_positive.true, holding-is, c.if-holding_fits.true, floats-are, c.if-floats_fit.true, made, kept c.lots_of.result c.lots_of.type_inv, c.lots_of.ensures, to_z-of_z c.ranges.inventory)

pub returns-then-holding_fits : goal.returns-then-holding_fits
unfolding model_after verdict_of first_failing first_of verdict model_if
returns-then-holding_fits c =
    let lot-is : above0 c.args.config.lot_size ≡ c.is_positive.result = rw (c.is_positive.ensures, kept c.args.config.lot_size c.struct_told-1.given.1.1.1.1.0.1) in
    let holding-is : let a = c.args in holding_ok a.inventory a.config ≡ c.holding_fits.result = rw (c.holding_fits.ensures, to_z-of_z c.ranges.inventory) in
    let made : let a = c.args in c.model_of-m.result ≡ model_of a.config a.volatility = rw (c.model_of-m.ensures, to_z-of_z c.ranges.volatility) in
    let floats-are : let a = c.args in model_ok (model_of a.config a.volatility) ≡ c.floats_fit.result = rw (c.floats_fit.ensures, made) in
    rw (lot-is, c.if-is_positive.true, holding-is, c.if-holding_fits.true, floats-are, c.if-floats_fit.false)

pub returns-then-is_positive : goal.returns-then-is_positive
unfolding model_after verdict_of first_failing first_of verdict model_if
returns-then-is_positive c =
    let lot-is : above0 c.args.config.lot_size ≡ c.is_positive.result = rw (c.is_positive.ensures, kept c.args.config.lot_size c.struct_told-1.given.1.1.1.1.0.1) in
    let holding-is : let a = c.args in holding_ok a.inventory a.config ≡ c.holding_fits.result = rw (c.holding_fits.ensures, to_z-of_z c.ranges.inventory) in
    rw (lot-is, c.if-is_positive.true, holding-is, c.if-holding_fits.false)

pub returns : goal.returns
unfolding model_after verdict_of first_failing first_of verdict model_if
returns c =
    let lot-is : above0 c.args.config.lot_size ≡ c.is_positive.result = rw (c.is_positive.ensures, kept c.args.config.lot_size c.struct_told-1.given.1.1.1.1.0.1) in
    rw (lot-is, c.if-is_positive.false)
