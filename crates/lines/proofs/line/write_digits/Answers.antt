use native.Mathlib.Omega.{arith}
use Rattle.lines.proofs.Digits.{downward_none, downward_more, downward_all}
use Rattle.lines.proofs.line.write_digits.Goals as goal

pub loop-i-init : goal.loop-i-init
loop-i-init c = downward_none _ _ _ _

pub loop-i-preserved : goal.loop-i-preserved
loop-i-preserved c =
    downward_more _ _ _ _ _ _ _ _ (omega arith) c.loop-i.invariant c.loop-i-test.true c.digit.ensures

pub returns : goal.returns
returns c = downward_all _ _ _ _ _ _ _ c.loop-i.invariant c.loop-i-test.false
