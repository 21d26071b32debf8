use Rattle.std.proofs.Common.{◌≡◌, true, false, T, sym, ◌∙◌, subst}
use Rattle.elementary.specs.Float.{finite}
use Rattle.elementary.specs.Reply.{given}
use Rattle.elementary.specs.Elementary.{told, CEIL}
use Rattle.elementary.proofs.ceil.Goals as goal

pub ceil_finite-requires : goal.ceil_finite-requires
ceil_finite-requires c = subst T (sym c.if-is_finite.true ∙ c.is_finite.ensures) tt

pub returns-then-is_finite : goal.returns-then-is_finite
unfolding told CEIL given
returns-then-is_finite c =
    let yes : finite c.args.x ≡ true = sym c.is_finite.ensures ∙ c.if-is_finite.true in
    rw (yes, c.ceil_finite.ensures)

pub returns : goal.returns
unfolding told CEIL given
returns c =
    let no-f : finite c.args.x ≡ false = sym c.is_finite.ensures ∙ c.if-is_finite.false in
    rw no-f
