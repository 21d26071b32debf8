-- `lines::line::write_side` meets its contract, for a price and for none. Assumes nothing.
use mathlib.Core.Path.{◌≡◌, refl, ap}
use native.Mathlib.Omega.{arith}
use mathlib.Core.List.{[], ◌∷◌}
use lib.Dec.{lit≤}
use mir.Val.{to_z, of_z}
use mir.Syntax.{w64}
use Rattle.lines.specs.Lines.{side, signed}
use Rattle.buffers.proofs.Texts.{wrote_none, wrote_byte}
use Rattle.lines.proofs.line.write_side.Goals as goal
use borrow.Author.Rules.{rules}

pub returns-in-Some : goal.returns-in-Some
unfolding side
returns-in-Some c =
    let side-is : side c.args.p ≡ signed c.in-Some.z = ap side c.in-Some.is in
    let held : to_z w64 (of_z w64 c.in-Some.z) ≡ c.in-Some.z = search rules in
    rw side-is (let p = rw held at c.write_signed.ensures in record { out_after = p.out_after; value = p.value })

pub returns-in-None : goal.returns-in-None
unfolding side
returns-in-None c =
    let none_is : side c.args.p ≡ 45 ∷ [] = ap side c.in-None.is in
    rw none_is (record { out_after = (wrote_byte _ [] _ 0 45 (wrote_none c.args.out.now) (omega (arith, c.requires))).is; value = (refl, lit≤ tt) })
