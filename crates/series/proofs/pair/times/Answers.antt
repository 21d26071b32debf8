-- A factor of 1.0 gives x back. Assumes nothing.
use mathlib.Core.Path.{sym}
use denote.Floats.{passes}
use Rattle.series.proofs.Terms.{times_one}
use Rattle.series.proofs.pair.times.Goals as goal

pub returns-then-factor : goal.returns-then-factor
returns-then-factor c = sym (times_one _ _ c.if-factor.true (passes _ c.well_formed.1.0.1))
