use native.Mathlib.Omega.{arith}
use Rattle.record.proofs.Groups.{grouping_none, grouping_room, grouping_more, grouping_last}
use Rattle.record.proofs.save.write_number.Goals as goal

pub loop-rest-init : goal.loop-rest-init
loop-rest-init c = grouping_none _ _

pub bounds-out-at : goal.bounds-out-at
bounds-out-at c = omega (arith, grouping_room _ _ _ _ _ c.requires c.loop-rest.invariant)

pub loop-rest-preserved : goal.loop-rest-preserved
loop-rest-preserved c = grouping_more _ _ _ _ _ c.requires c.loop-rest.invariant c.loop-rest-test.true

pub bounds-out-at-2 : goal.bounds-out-at-2
bounds-out-at-2 c = omega (arith, grouping_room _ _ _ _ _ c.requires c.loop-rest.invariant)

pub returns : goal.returns
returns c = let p = grouping_last _ _ _ _ _ c.requires c.loop-rest.invariant c.loop-rest-test.false in record { out_after = p.0; value = p.1 }
