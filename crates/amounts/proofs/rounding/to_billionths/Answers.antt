use Rattle.std.proofs.Common.{sym, ◌∙◌}
use Rattle.amounts.specs.Rounding.{count_if, to_billionths}
use Rattle.amounts.specs.Inner.{count_of}
use Rattle.amounts.proofs.rounding.to_billionths.Goals as goal

pub returns-then-is_finite : goal.returns-then-is_finite
unfolding to_billionths count_of
returns-then-is_finite c =
    rw (← (sym c.if-is_finite.true ∙ c.is_finite.ensures)) c.count_of.ensures

pub returns : goal.returns
unfolding to_billionths count_if
returns c = rw (← (sym c.if-is_finite.false ∙ c.is_finite.ensures))
