-- `harness::text::has_room` meets its contract, by the tests that add nothing. Assumes nothing.
use Rattle.std.proofs.Common.{◌∙◌}
use borrow.Author.Tests.{lt-leb}
use Rattle.harness.proofs.Placing.{fits_not, fits_less}
use Rattle.harness.proofs.text.has_room.Goals as goal

pub returns-then-n-out : goal.returns-then-n-out
returns-then-n-out c = fits_less _ _ _ c.if-n-out.true

pub returns-else-n-out : goal.returns-else-n-out
returns-else-n-out c = lt-leb _ _ c.if-n-out.false ∙ fits_not _ _ _ c.if-n-out.false
