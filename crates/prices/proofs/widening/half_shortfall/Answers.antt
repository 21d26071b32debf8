use mathlib.Core.Path.{◌≡◌, refl}
use Prim.Native.Nat.{ℕ, zero, suc, ◌≤◌}
use native.Mathlib.Omega.{arith}
use mathlib.Core.Bool.{true, false}
use lib.IntN.{ℤ, pos, negsuc, ◌+ℤ◌}
use lib.Signed.{lt_z, quot_z}
use lib.Dec.{T, lit≤, lit<}
use mir.Syntax.{w64}
use mir.Val.{SFits, to_z, of_z}
use mir.Facts.{to_z-of_z}
use borrow.Author.Tests.{ltb-false}
use Rattle.amounts.specs.Amounts.{above0}
use Rattle.prices.specs.Prices.{half_up}
use Rattle.amounts.proofs.Limits.{divides}
use Rattle.amounts.proofs.Sizes.{size_add, size_fits}
use Rattle.prices.proofs.Building.{size_half}
use Rattle.prices.proofs.widening.half_shortfall.Goals as goal

-- the half, by whether there is a shortfall
some : (z : ℤ) → lt_z (pos 0) z ≡ true → quot_z (z +ℤ pos 1) (pos 2) ≡ half_up z
unfolding half_up
some (pos n) h = refl
some (negsuc n) h = cc

none : (z : ℤ) → lt_z (pos 0) z ≡ false → pos 0 ≡ half_up z
unfolding half_up
none (pos zero) h = refl
none (pos (suc n)) h = absurd (omega (arith, ltb-false 0 (suc n) h))
none (negsuc n) h = refl

-- the half of a sum, each number read back from its bits
half_back : (z : ℤ) (n : ℕ) → SFits w64 (z +ℤ pos n) → SFits w64 (half_up z) → quot_z (z +ℤ pos n) (pos 2) ≡ half_up z → to_z w64 (of_z w64 (quot_z (to_z w64 (of_z w64 (z +ℤ pos n))) (pos 2))) ≡ half_up z
half_back z n f g e = rw (to_z-of_z f, e) (to_z-of_z g)

two-above : T (above0 (pos 2))
unfolding above0
two-above = tt

pub overflow_add-result : goal.overflow_add-result
overflow_add-result c =
    let sum_fits : (n : ℕ) → n ≤ 1 → SFits w64 (c.args.short +ℤ pos n) = λ n h. size_fits (c.args.short +ℤ pos n) (omega (arith, size_add c.args.short (pos n), c.requires)) in
    rw (to_z-of_z c.ranges.short) (sum_fits _ (lit≤ tt))

pub nonzero_div-result : goal.nonzero_div-result
nonzero_div-result c =
    let sum_fits : (n : ℕ) → n ≤ 1 → SFits w64 (c.args.short +ℤ pos n) = λ n h. size_fits (c.args.short +ℤ pos n) (omega (arith, size_add c.args.short (pos n), c.requires)) in
    rw (to_z-of_z c.ranges.short) (divides (c.args.short +ℤ pos _) (pos 2) (sum_fits _ (lit≤ tt)) (lit< tt) two-above)

pub returns-then-short-gt0 : goal.returns-then-short-gt0
returns-then-short-gt0 c =
    let sum_fits : (n : ℕ) → n ≤ 1 → SFits w64 (c.args.short +ℤ pos n) = λ n h. size_fits (c.args.short +ℤ pos n) (omega (arith, size_add c.args.short (pos n), c.requires)) in
    let half-fits : SFits w64 (half_up c.args.short) = size_fits (half_up c.args.short) (omega (arith, size_half c.args.short, c.requires)) in
    let half_is : quot_z (c.args.short +ℤ pos 1) (pos 2) ≡ half_up c.args.short = some c.args.short (rw (to_z-of_z c.ranges.short) at c.if-short-gt0.true) in
    rw (to_z-of_z c.ranges.short) (half_back c.args.short _ (sum_fits _ (lit≤ tt)) half-fits half_is)

pub returns : goal.returns
returns c = none c.args.short (rw (to_z-of_z c.ranges.short) at c.if-short-gt0.false)
