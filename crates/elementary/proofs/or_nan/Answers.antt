use Rattle.std.proofs.Common.{◌≡◌, refl, ◌∙◌}
use Rattle.std.specs.Prelude.{Float, Option, Some, None}
use Rattle.std.specs.Option.{unwrap_or}
use lib.Ieee.{nan, of_bits, div}
use Rattle.elementary.specs.Elementary.{told, or_nan}
use Rattle.elementary.proofs.or_nan.Goals as goal

in_place : (r : Option Float) → unwrap_or r nan ≡ or_nan (told r)
unfolding or_nan told
in_place (Some x) = refl
in_place None = refl

pub returns : goal.returns
unfolding of_bits div
returns c = c.unwrap_or.ensures ∙ in_place c.args.r
