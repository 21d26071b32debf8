-- `lines::line::write_hex` meets its contract: its digits are those of the float's bits. Assumes nothing.
use mathlib.Core.Path.{refl}
use Rattle.lines.specs.Lines.{hex}
use Rattle.lines.proofs.line.write_hex.Goals as goal

pub returns : goal.returns
unfolding hex
returns c =
    record { out_after = rw (← c.bits_of.ensures) c.write_digits.ensures; value = refl }
