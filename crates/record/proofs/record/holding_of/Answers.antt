-- `record::record::holding_of` meets its contract: of an even number the half, of an odd one -1 less the half, which is no sum that wraps. Assumes nothing.
use mathlib.Core.Path.{◌≡◌, refl}
use Prim.Native.Nat.{ℕ, zero, suc, ◌/◌, ◌<◌, ◌^◌}
use native.Mathlib.Nat.{zero-add}
use native.Mathlib.Omega.{arith}
use lib.IntN.{pos, negsuc, ◌-ℤ◌}
use mir.Syntax.{w64}
use mir.Val.{SFits}
use mir.Facts.{to_z-of_z, to_z_pos}
use borrow.Author.Tests.{eq-eqb, ne_eqb}
use Rattle.record.specs.Record.{holding_by, holding}
use Rattle.record.proofs.record.holding_of.Goals as goal

minus-one-less : (n : ℕ) → negsuc 0 -ℤ pos n ≡ negsuc n
minus-one-less zero = refl
minus-one-less (suc n) = rw (zero-add n)

pub returns-then-stored-eq0 : goal.returns-then-stored-eq0
unfolding holding holding_by
returns-then-stored-eq0 c =
    let small : c.args.stored / 2 < 2 ^ 63 = omega (arith, c.ranges.stored) in
    rw (to_z_pos w64 small, eq-eqb _ 0 c.if-stored-eq0.true)

pub overflow_sub-result : goal.overflow_sub-result
overflow_sub-result c =
    let small : c.args.stored / 2 < 2 ^ 63 = omega (arith, c.ranges.stored) in
    rw (to_z_pos w64 small, minus-one-less (c.args.stored / 2)) (record { sfits = small })

pub returns : goal.returns
unfolding holding holding_by
returns c =
    let small : c.args.stored / 2 < 2 ^ 63 = omega (arith, c.ranges.stored) in
    let h : SFits w64 (negsuc (c.args.stored / 2)) = record { sfits = small } in
    rw (to_z_pos w64 small, minus-one-less (c.args.stored / 2), to_z-of_z h, ne_eqb _ 0 c.if-stored-eq0.false)
