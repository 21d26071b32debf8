-- The digits of a float's pattern are sixteen. Assumes nothing.
use mathlib.Core.Path.{◌∙◌}
use native.Mathlib.Omega.{arith}
use Rattle.desk.specs.Lines.{float_text}
use Rattle.desk.proofs.Sixteen.{sixteen}
use Rattle.desk.proofs.line.put_float.Goals as goal

pub returns : goal.returns
unfolding float_text
returns c =
    let e = c.hex-k.ensures.digits ∙ sixteen _ _ (omega (arith, c.bits_of.type_inv)) c.hex-k.ensures.len in
    rw (← c.bits_of.ensures, ← e) (record { out_after = c.put_field.ensures.out_after; value = c.put_field.ensures.value })
