use mathlib.Core.Path.{◌∙◌}
use Rattle.prices.specs.Prices.{side}
use Rattle.elementary.proofs.Results.{handed_on}
use Rattle.prices.proofs.Building.{rounded_by, rounded_by_lem}
use Rattle.prices.proofs.rounding.round_finite.Goals as goal

pub side_of-requires : goal.side_of-requires
side_of-requires c = c.requires.0

pub side_of-requires-2 : goal.side_of-requires-2
side_of-requires-2 c = c.requires.1

pub returns : goal.returns
unfolding rounded_by
returns c =
    rw (← rounded_by_lem (side c.args.bid) (side c.args.ask), ← c.side_of.ensures, ← c.side_of-2.ensures, c.in_ok-b.was, c.in_ok-a.was)

pub returns-in_err-b : goal.returns-in_err-b
unfolding rounded_by
returns-in_err-b c =
    handed_on c.from_residual.result c.in_err-b.field-0.0 c.from_residual.ensures.1
    ∙ rw (← rounded_by_lem (side c.args.bid) (side c.args.ask), ← c.side_of.ensures, c.in_err-b.was)

pub returns-in_err-a : goal.returns-in_err-a
unfolding rounded_by
returns-in_err-a c =
    handed_on c.from_residual-in_err-a.result c.in_err-a.field-0.0 c.from_residual-in_err-a.ensures.1
    ∙ rw (← rounded_by_lem (side c.args.bid) (side c.args.ask), ← c.side_of.ensures, ← c.side_of-2.ensures, c.in_ok-b.was, c.in_err-a.was)
