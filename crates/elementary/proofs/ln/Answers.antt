use Rattle.std.proofs.Common.{◌≡◌, true, false, T, sym, ◌∙◌, subst}
use Rattle.elementary.specs.Float.{positive}
use Rattle.elementary.specs.Reply.{given}
use Rattle.elementary.specs.Elementary.{told, LN}
use Rattle.elementary.proofs.ln.Goals as goal

pub ln_positive-requires : goal.ln_positive-requires
ln_positive-requires c = subst T (sym c.if-is_positive_finite.true ∙ c.is_positive_finite.ensures) tt

pub returns-then-is_positive_finite : goal.returns-then-is_positive_finite
unfolding told LN given
returns-then-is_positive_finite c =
    let yes : positive c.args.x ≡ true = sym c.is_positive_finite.ensures ∙ c.if-is_positive_finite.true in
    rw (yes, c.ln_positive.ensures)

pub returns : goal.returns
unfolding told LN given
returns c =
    let no-p : positive c.args.x ≡ false = sym c.is_positive_finite.ensures ∙ c.if-is_positive_finite.false in
    rw no-p
