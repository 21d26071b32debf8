-- A price's digits, or the sign of an absent one. Assumes nothing.
use Rattle.desk.specs.Lines.{price_text}
use Rattle.desk.proofs.line.put_price.Goals as goal
use mir.Syntax.{w64}
use mir.Val.{to_z, of_z}
use borrow.Author.Rules.{rules}
use mathlib.Core.Path.{◌≡◌}

pub returns-in-Some : goal.returns-in-Some
unfolding price_text
returns-in-Some c =
    let held : to_z w64 (of_z w64 c.in-Some.x) ≡ c.in-Some.x = search rules in
    let z = rw held at c.size_of.ensures in
    rw (c.in-Some.is, ← z) (record { out_after = c.put_number.ensures.out_after; value = c.put_number.ensures.value })

pub returns-in-None : goal.returns-in-None
unfolding price_text
returns-in-None c =
    rw c.in-None.is (record { out_after = c.put_field.ensures.out_after; value = c.put_field.ensures.value })
