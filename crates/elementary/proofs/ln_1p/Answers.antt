use Rattle.std.proofs.Common.{◌≡◌, true, false, sym, ◌∙◌}
use Rattle.elementary.specs.Float.{positive}
use Rattle.elementary.specs.Reply.{given}
use Rattle.elementary.specs.Elementary.{told, LN1P, ln1p_of}
use Rattle.elementary.proofs.ln_1p.Goals as goal

pub returns-then-r : goal.returns-then-r
unfolding told LN1P ln1p_of given
returns-then-r c =
    let yes : positive c.args.r ≡ true = sym c.is_positive_finite.ensures ∙ c.if-is_positive_finite.true in
    rw (yes, c.if-r.true, c.ln_series.ensures)

pub returns-then-is_positive_finite : goal.returns-then-is_positive_finite
unfolding LN1P ln1p_of given
returns-then-is_positive_finite c =
    let yes : positive c.args.r ≡ true = sym c.is_positive_finite.ensures ∙ c.if-is_positive_finite.true in
    rw (yes, c.if-r.false, c.ln.ensures)

pub returns : goal.returns
unfolding told LN1P given
returns c =
    let no-p : positive c.args.r ≡ false = sym c.is_positive_finite.ensures ∙ c.if-is_positive_finite.false in
    rw no-p
