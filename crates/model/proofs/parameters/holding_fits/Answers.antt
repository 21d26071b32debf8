use native.Mathlib.Nat.{lt_of_le_of_lt}
use lib.Signed.{rem_z, mag_rem}
use mir.Facts.{to_z-of_z}
use Rattle.model.specs.Model.{holding_ok}
use Rattle.amounts.proofs.Limits.{kept, zero_bits, divides}
use Rattle.model.proofs.parameters.holding_fits.Goals as goal

pub nonzero_rem-result : goal.nonzero_rem-result
nonzero_rem-result c =
    divides c.args.inventory c.args.config.lot_size c.ranges.inventory c.struct_told-1.given.1.1.1.1.0.1 c.requires

pub returns : goal.returns
unfolding holding_ok
returns c =
    let h = c.args.inventory in
    let d = c.args.config.lot_size in
    rw (c.within.ensures, kept c.lots_of-q.result c.lots_of-q.type_inv, c.lots_of-q.ensures, to_z-of_z c.ranges.inventory, kept d c.struct_told-1.given.1.1.1.1.0.1, zero_bits (rem_z h d) (lt_of_le_of_lt (mag_rem h d) c.ranges.inventory.sfits))
