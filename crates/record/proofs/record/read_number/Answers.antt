use mathlib.Core.Path.{refl}
use Prim.Native.Nat.{◌+◌, ◌*◌, ◌^◌, ◌<◌}
use native.Mathlib.Omega.{arith}
use Rattle.record.specs.Record.{most_groups}
use Rattle.record.specs.Inner.{NumberIs}
use Rattle.record.proofs.Reading.{grouped_none, unit_fits, group_fits, group_cut, group_zero, group_last, group_more, group_ninth}
use Rattle.record.proofs.record.read_number.Goals as goal

pub loop-groups-init : goal.loop-groups-init
loop-groups-init c = grouped_none _ _

pub returns-then-i-s : goal.returns-then-i-s
unfolding NumberIs
returns-then-i-s c =
    let l = c.loop-groups in
    (group_cut _ _ _ _ _ l.invariant c.loop-groups-test.true c.if-i-s.true, omega arith)

pub returns-then-groups-b : goal.returns-then-groups-b
unfolding NumberIs
returns-then-groups-b c =
    (group_zero _ _ _ _ _ c.loop-groups.invariant c.loop-groups-test.true _ c.if-i-s.false refl c.if-b-lt128.true c.if-groups-b.true, omega arith)

pub overflow_mul-result : goal.overflow_mul-result
overflow_mul-result c =
    let last_fits : c.loop-groups.value + c.from.result * c.loop-groups.unit < 128 ^ most_groups = rw c.from.ensures (group_fits _ _ _ _ _ c.loop-groups.invariant c.loop-groups-test.true _ (omega (arith, c.if-b-lt128.true))) in
    record { fits = omega (arith, last_fits) }

pub overflow_add-result : goal.overflow_add-result
overflow_add-result c =
    let last_fits : c.loop-groups.value + c.from.result * c.loop-groups.unit < 128 ^ most_groups = rw c.from.ensures (group_fits _ _ _ _ _ c.loop-groups.invariant c.loop-groups-test.true _ (omega (arith, c.if-b-lt128.true))) in
    record { fits = omega (arith, last_fits) }

pub returns-then-b-lt128 : goal.returns-then-b-lt128
unfolding NumberIs
returns-then-b-lt128 c =
    rw c.from.ensures
    (group_last _ _ _ _ _ c.loop-groups.invariant c.loop-groups-test.true _ c.if-i-s.false refl c.if-b-lt128.true c.if-groups-b.false, omega arith)

pub overflow_mul-value : goal.overflow_mul-value
overflow_mul-value c =
    let more-fits : c.loop-groups.value + c.from-in-loop-groups.result * c.loop-groups.unit < 128 ^ most_groups = rw c.from-in-loop-groups.ensures (group_fits _ _ _ _ _ c.loop-groups.invariant c.loop-groups-test.true _ (omega arith)) in
    record { fits = omega (arith, more-fits) }

pub overflow_add-value : goal.overflow_add-value
overflow_add-value c =
    let more-fits : c.loop-groups.value + c.from-in-loop-groups.result * c.loop-groups.unit < 128 ^ most_groups = rw c.from-in-loop-groups.ensures (group_fits _ _ _ _ _ c.loop-groups.invariant c.loop-groups-test.true _ (omega arith)) in
    record { fits = omega (arith, more-fits) }

pub overflow_mul-unit : goal.overflow_mul-unit
overflow_mul-unit c =
    omega (arith, unit_fits _ _ _ _ _ c.loop-groups.invariant c.loop-groups-test.true)

pub loop-groups-preserved : goal.loop-groups-preserved
loop-groups-preserved c =
    rw c.from-in-loop-groups.ensures
    (group_more _ _ _ _ _ c.loop-groups.invariant c.loop-groups-test.true _ c.if-i-s.false refl c.if-b-lt128.false)

pub returns : goal.returns
unfolding NumberIs
returns c = (group_ninth _ _ _ _ _ c.loop-groups.invariant c.loop-groups-test.false, omega arith)
