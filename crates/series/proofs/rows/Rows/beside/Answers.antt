-- Through the factors, or plainly. Assumes nothing.
use mathlib.Core.Path.{refl}
use Rattle.series.specs.Slices.{beside_of}
use Rattle.series.proofs.rows.Rows.beside.Goals as goal

pub returns-then-self : goal.returns-then-self
unfolding beside_of
returns-then-self c = rw c.if-self.true refl

pub returns : goal.returns
unfolding beside_of
returns c = rw c.if-self.false refl
