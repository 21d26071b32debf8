-- `lines::line::write_signed` meets its contract: the sign, where there is one, and the price after it. Assumes nothing.
use mathlib.Core.Path.{◌≡◌, refl, sym, subst, ◌∙◌}
use Prim.Native.Nat.{◌+◌, ◌-◌, ◌^◌, ◌≤◌}
use native.Mathlib.Omega.{arith}
use mathlib.Core.Bool.{true, false}
use mathlib.Core.List.{[], ◌∷◌}
use borrow.Author.Tests.{le-ltb}
use borrow.Rule.Slice.PartMut.{put_mid}
use lib.IntN.{ℤ, pos, negsuc, nat_abs}
use lib.ListN.{length, set}
use lib.Signed.{lt_z}
use lib.Dec.{T}
use mir.Syntax.{w64}
use mir.Val.{SFits}
use mir.Facts.{to_z-of_z}
use Rattle.lines.specs.Lines.{price, signed}
use Rattle.lines.specs.Inner.{most_side}
use Rattle.buffers.proofs.Texts.{Wrote, wrote_none, wrote_byte, wrote_part, part_room, wrote_as}
use Rattle.lines.proofs.Widths.{price_most}
use Rattle.lines.proofs.line.write_signed.Goals as goal

-- a price by its sign
below : (z : ℤ) → lt_z z (pos 0) ≡ true → signed z ≡ 45 ∷ price (nat_abs z)
unfolding signed
below (pos n) t = absurd (subst T (sym t ∙ le-ltb n 0 (omega arith)) tt)
below (negsuc n) t = refl

above : (z : ℤ) → lt_z z (pos 0) ≡ false → signed z ≡ price (nat_abs z)
unfolding signed
above (pos n) t = refl
above (negsuc n) t = absurd (subst T t tt)

held : (z : ℤ) → SFits w64 z → nat_abs z ≤ 2 ^ 63
held (pos n) h = omega (arith, h.sfits)
held (negsuc n) h = omega (arith, h.sfits)

pub write_price-requires : goal.write_price-requires
write_price-requires c =
    let short : length (price (nat_abs c.args.z)) ≤ 20 = price_most _ (held _ c.ranges.z) in
    let minus : Wrote c.args.out.now (45 ∷ []) (set c.args.out.now 0 45) 1 = wrote_byte _ [] _ 0 45 (wrote_none _) (omega (arith, c.requires)) in
    let size_is : c.unsigned_abs.result ≡ nat_abs c.args.z = rw (to_z-of_z c.ranges.z) at c.unsigned_abs.ensures.value in
    rw size_is (part_room _ _ _ _ _ minus (omega (arith, short, c.requires)))

pub overflow_add-result : goal.overflow_add-result
overflow_add-result c =
    let short : length (price (nat_abs c.args.z)) ≤ 20 = price_most _ (held _ c.ranges.z) in
    let minus : Wrote c.args.out.now (45 ∷ []) (set c.args.out.now 0 45) 1 = wrote_byte _ [] _ 0 45 (wrote_none _) (omega (arith, c.requires)) in
    let size_is : c.unsigned_abs.result ≡ nat_abs c.args.z = rw (to_z-of_z c.ranges.z) at c.unsigned_abs.ensures.value in
    let whole : let l = set c.args.out.now 0 45 in Wrote c.args.out.now (45 ∷ price (nat_abs c.args.z)) (put_mid 1 (length l - 1) l c.write_price.new.out) (1 + c.write_price.result) = let e = rw size_is at c.write_price.ensures in
    wrote_part _ _ _ _ _ 1 _ minus e.out_after e.value in
    let few : c.write_price.result + 1 ≤ most_side = omega (arith, short, whole.up_to) in
    omega (arith, few)

pub returns-then-z-lt0 : goal.returns-then-z-lt0
returns-then-z-lt0 c =
    let minus : Wrote c.args.out.now (45 ∷ []) (set c.args.out.now 0 45) 1 = wrote_byte _ [] _ 0 45 (wrote_none _) (omega (arith, c.requires)) in
    let size_is : c.unsigned_abs.result ≡ nat_abs c.args.z = rw (to_z-of_z c.ranges.z) at c.unsigned_abs.ensures.value in
    let whole : let l = set c.args.out.now 0 45 in Wrote c.args.out.now (45 ∷ price (nat_abs c.args.z)) (put_mid 1 (length l - 1) l c.write_price.new.out) (1 + c.write_price.result) = let e = rw size_is at c.write_price.ensures in
    wrote_part _ _ _ _ _ 1 _ minus e.out_after e.value in
    let short : length (price (nat_abs c.args.z)) ≤ 20 = price_most _ (held _ c.ranges.z) in
    let few : c.write_price.result + 1 ≤ most_side = omega (arith, short, whole.up_to) in
    let t = below c.args.z (rw (to_z-of_z c.ranges.z) at c.if-z-lt0.true) in
    let k = wrote_as _ _ _ _ _ whole (sym t) in
    record { out_after = k.0; value = (omega (arith, k.1), few) }

pub write_price-requires-2 : goal.write_price-requires-2
write_price-requires-2 c =
    let short : length (price (nat_abs c.args.z)) ≤ 20 = price_most _ (held _ c.ranges.z) in
    let size-is-2 : c.unsigned_abs-2.result ≡ nat_abs c.args.z = rw (to_z-of_z c.ranges.z) at c.unsigned_abs-2.ensures.value in
    let h : length (price (nat_abs c.args.z)) ≤ length c.args.out.now = omega (arith, short, c.requires) in
    rw size-is-2 h

pub returns : goal.returns
returns c =
    let short : length (price (nat_abs c.args.z)) ≤ 20 = price_most _ (held _ c.ranges.z) in
    let size-is-2 : c.unsigned_abs-2.result ≡ nat_abs c.args.z = rw (to_z-of_z c.ranges.z) at c.unsigned_abs-2.ensures.value in
    let t = above c.args.z (rw (to_z-of_z c.ranges.z) at c.if-z-lt0.false) in
    let e = rw (size-is-2, ← t) at c.write_price-2.ensures in
    record { out_after = e.out_after; value = (e.value, omega (arith, e.value, rw (← t) at short)) }
