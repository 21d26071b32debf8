use mathlib.Core.Path.{◌∙◌}
use Rattle.record.proofs.Flat.{as_it_is}
use Rattle.record.proofs.record.read_record.Goals as goal

pub returns : goal.returns
returns c = c.read_as.ensures ∙ as_it_is _ _
