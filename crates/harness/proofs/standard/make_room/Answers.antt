-- `harness::standard::make_room` meets its contract, by what `has_room` answered. Assumes nothing.
use mathlib.Core.Path.{sym, ◌∙◌}
use Rattle.harness.specs.Texts.{room}
use Rattle.harness.proofs.standard.make_room.Goals as goal

pub returns-then-has_room : goal.returns-then-has_room
unfolding room
returns-then-has_room c = rw (sym c.has_room.ensures ∙ c.if-has_room.true)

pub returns : goal.returns
unfolding room
returns c = rw (sym c.has_room.ensures ∙ c.if-has_room.false)
