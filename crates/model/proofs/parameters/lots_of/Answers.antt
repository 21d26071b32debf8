use mir.Facts.{to_z-of_z}
use Rattle.model.specs.Model.{lots}
use Rattle.amounts.proofs.Limits.{kept, quot_fits, divides}
use Rattle.model.proofs.parameters.lots_of.Goals as goal

pub nonzero_div-result : goal.nonzero_div-result
nonzero_div-result c =
    divides c.args.inventory c.args.config.lot_size c.ranges.inventory c.struct_told-1.given.1.1.1.1.0.1 c.requires

pub returns : goal.returns
unfolding lots
returns c =
    let d = c.args.config.lot_size in
    rw (to_z-of_z c.ranges.inventory, kept d c.struct_told-1.given.1.1.1.1.0.1, to_z-of_z (quot_fits c.args.inventory d c.ranges.inventory c.requires))
