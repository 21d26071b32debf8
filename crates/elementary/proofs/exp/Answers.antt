use Rattle.std.proofs.Common.{◌≡◌, true, false, T, sym, ◌∙◌, subst}
use Rattle.elementary.specs.Float.{finite}
use Rattle.elementary.specs.Reply.{given}
use Rattle.elementary.specs.Elementary.{told, EXP}
use Rattle.elementary.proofs.exp.Goals as goal

pub exp_finite-requires : goal.exp_finite-requires
exp_finite-requires c = subst T (sym c.if-is_finite.true ∙ c.is_finite.ensures) tt

pub returns-then-is_finite : goal.returns-then-is_finite
unfolding told EXP given
returns-then-is_finite c =
    let yes : finite c.args.x ≡ true = sym c.is_finite.ensures ∙ c.if-is_finite.true in
    rw (yes, c.exp_finite.ensures)

pub returns : goal.returns
unfolding told EXP given
returns c =
    let no-f : finite c.args.x ≡ false = sym c.is_finite.ensures ∙ c.if-is_finite.false in
    rw no-f
