use Rattle.std.proofs.Common.{T, pos, sym, ap, ◌∙◌, subst, zero-le}
use Rattle.amounts.specs.Inner.{count_of}
use Rattle.amounts.proofs.Counting.{above, neither, is_count}
use Rattle.amounts.proofs.rounding.count_of.Goals as goal

pub sized-requires : goal.sized-requires
sized-requires c = subst T (sym c.if-is_positive_finite.true ∙ c.is_positive_finite.ensures) tt

pub returns-then-is_positive_finite : goal.returns-then-is_positive_finite
returns-then-is_positive_finite c =
    c.sized.ensures ∙ ap count_of (sym (above c.args.d (subst T (sym c.if-is_positive_finite.true ∙ c.is_positive_finite.ensures) tt)))

pub below_zero-requires : goal.below_zero-requires
below_zero-requires c = subst T (sym c.if-is_positive_finite-2.true ∙ c.is_positive_finite-2.ensures) tt

pub returns : goal.returns
returns c =
    sym (is_count (pos 0) zero-le)
    ∙ ap count_of (sym (neither c.args.d (sym c.is_positive_finite.ensures ∙ c.if-is_positive_finite.false) (sym c.is_positive_finite-2.ensures ∙ c.if-is_positive_finite-2.false)))
