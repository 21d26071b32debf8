-- `record::save::stored_of` meets its contract: twice the size of a holding, less one where it is negative. Assumes nothing.
use mathlib.Core.Path.{◌≡◌, refl, sym, subst, ◌∙◌}
use Prim.Native.Nat.{◌*◌, ◌-◌, ◌≤◌}
use native.Mathlib.Omega.{arith}
use mathlib.Core.Bool.{true, false}
use borrow.Author.Tests.{le-ltb}
use lib.IntN.{ℤ, pos, negsuc, nat_abs}
use lib.Signed.{lt_z}
use lib.Dec.{T, leb→le}
use mir.Facts.{to_z-of_z}
use Rattle.amounts.specs.Amounts.{amount_limit, amount_ok}
use Rattle.record.specs.Record.{stored}
use Rattle.record.proofs.save.stored_of.Goals as goal

within : (z : ℤ) → T (amount_ok z) → nat_abs z ≤ amount_limit
unfolding amount_ok
within z h = leb→le (nat_abs z) amount_limit h

below : (z : ℤ) → lt_z z (pos 0) ≡ true → stored z ≡ 2 * nat_abs z - 1
unfolding stored
below (pos n) t = absurd (subst T (sym t ∙ le-ltb n 0 (omega arith)) tt)
below (negsuc n) t = refl

above : (z : ℤ) → lt_z z (pos 0) ≡ false → stored z ≡ 2 * nat_abs z
unfolding stored
above (pos n) t = refl
above (negsuc n) t = absurd (subst T t tt)

pub overflow_mul-twice : goal.overflow_mul-twice
overflow_mul-twice c =
    let size_is : c.unsigned_abs-twice.result ≡ nat_abs c.args.h = rw (to_z-of_z c.ranges.h) at c.unsigned_abs-twice.ensures.value in
    record { fits = omega (arith, within c.args.h c.requires) }

pub returns-then-h-lt0 : goal.returns-then-h-lt0
returns-then-h-lt0 c =
    let size_is : c.unsigned_abs-twice.result ≡ nat_abs c.args.h = rw (to_z-of_z c.ranges.h) at c.unsigned_abs-twice.ensures.value in
    rw (size_is, below c.args.h (rw (to_z-of_z c.ranges.h) at c.if-h-lt0.true))

pub returns : goal.returns
returns c =
    let size_is : c.unsigned_abs-twice.result ≡ nat_abs c.args.h = rw (to_z-of_z c.ranges.h) at c.unsigned_abs-twice.ensures.value in
    rw (size_is, above c.args.h (rw (to_z-of_z c.ranges.h) at c.if-h-lt0.false))
