use native.Mathlib.Nat.{le_refl}
use native.Mathlib.Omega.{arith}
use Rattle.lines.proofs.Digits.{places_one, places_more, places_most}
use Rattle.lines.proofs.line.count_places.Goals as goal

pub loop-rest-init : goal.loop-rest-init
loop-rest-init c = (omega arith, le_refl _)

pub overflow_add-k : goal.overflow_add-k
overflow_add-k c =
    let a = c.args in
    omega (arith, places_most 19 a.n (omega arith), c.ranges.n)

pub loop-rest-preserved : goal.loop-rest-preserved
loop-rest-preserved c = (omega (arith, places_more _ c.loop-rest-test.true), omega arith)

pub returns : goal.returns
returns c = omega (arith, places_one _ c.loop-rest-test.false)
