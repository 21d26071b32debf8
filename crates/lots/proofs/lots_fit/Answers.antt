use mathlib.Core.Path.{◌≡◌, ◌∙◌}
use Prim.Native.Nat.{◌/◌}
use lib.IntN.{pos, nat_abs}
use lib.Signed.{quot_z}
use lib.Dec.{lit<}
use mir.Syntax.{w64}
use mir.Val.{SFits, to_z, of_z}
use mir.Facts.{to_z-of_z}
use Rattle.amounts.specs.Amounts.{amount_limit, amount_ok}
use Rattle.amounts.proofs.Limits.{quot_fits, divides}
use Rattle.lots.proofs.Lots.{lots_within, quot_most}
use Rattle.lots.proofs.lots_fit.Goals as goal

most-fits : SFits w64 (pos amount_limit)
most-fits = record { sfits = lit< tt }

pub nonzero_div-most : goal.nonzero_div-most
nonzero_div-most c = divides (pos amount_limit) c.args.lot_size most-fits c.ranges.lot_size.sfits c.requires

pub returns : goal.returns
unfolding amount_ok
returns c =
    let a = c.args in
    let most-is : to_z w64 (of_z w64 (quot_z (pos amount_limit) (to_z w64 (of_z w64 a.lot_size)))) ≡ pos (amount_limit / nat_abs a.lot_size) = rw (to_z-of_z c.ranges.lot_size)
    (to_z-of_z (quot_fits (pos amount_limit) a.lot_size most-fits c.requires) ∙ quot_most a.lot_size amount_limit c.requires) in
    rw (c.unsigned_abs.ensures.value, c.unsigned_abs-2.ensures.value, to_z-of_z c.ranges.q, most-is) (lots_within a.q a.lot_size amount_limit c.requires)
