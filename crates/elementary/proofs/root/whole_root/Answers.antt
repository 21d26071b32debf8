use Rattle.std.proofs.Common.{rules}
use Rattle.elementary.proofs.WholeRoot.{reading_starts, reading_room, reading_goes_on, reading_ends}
use Rattle.elementary.proofs.root.whole_root.Goals as goal

pub loop-init : goal.loop-init
loop-init c = reading_starts c.args.m c.requires

pub next_digit-d-requires : goal.next_digit-d-requires
next_digit-d-requires c = reading_room c.loop.invariant (search rules)

pub loop-preserved : goal.loop-preserved
loop-preserved c = search (reading_goes_on, rules)

pub returns : goal.returns
returns c = search (reading_ends, rules)
