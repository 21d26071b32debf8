use Rattle.std.specs.Prelude.{Option, Some, None, Float}
use Rattle.std.specs.Option.{option_map, option_transpose}
use mathlib.Core.Path.{◌≡◌, refl, ap, ◌∙◌}
use mathlib.Core.Bool.{Bool, true, false}
use lib.IntN.{ℤ}
use borrow.Author.Rules.{rules}
use Rattle.distances.specs.Distances.{fine}
use Rattle.amounts.specs.Rounding.{count_if, to_billionths}
use Rattle.prices.specs.Prices.{side}
use Rattle.prices.specs.Inner.{side_by, side_of}
use Rattle.prices.proofs.rounding.side_of.Goals as goal

counted : (t : Bool) (z : ℤ) → option_transpose (Some (count_if true t z)) ≡ side_by t z
unfolding count_if side_by
counted true z = refl
counted false z = refl

sided : (d : Option Float) → fine d ≡ true → option_transpose (option_map to_billionths d) ≡ side_of (side d)
unfolding side side_of fine to_billionths
sided (Some x) h = rw h (counted _ _)
sided None h = refl

pub returns : goal.returns
returns c =
    let mapped : c.map.result ≡ option_map to_billionths c.args.d = search rules in
    c.transpose.ensures ∙ ap option_transpose mapped ∙ sided c.args.d c.requires
