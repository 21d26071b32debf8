-- That LN takes its argument apart rightly, as a named statement over whole numbers. Definitions only.
use Rattle.std.specs.Prelude.{◌≡◌, ◌*◌, T, ℤ, Float}
use Rattle.std.specs.Float.{binary64}
use Rattle.std.specs.Float.Ieee.{up, down, lt, le, fits}
use Rattle.std.specs.Float.Ieee.Positive.{num, den}
use Rattle.elementary.specs.Float.{1ᶠ, 2ᶠ, positive}
use Rattle.elementary.specs.Elementary.{mantissa, exponent}

-- x = f × 2 ^ e with 1 ≤ f < 2, each float as the fraction num / den and 2 ^ e as up / down
pub record Taken (x f : Float) (e : ℤ) : Type 0 where
  pub held : T (fits binary64 f)
  pub least : T (le 1ᶠ f)
  pub most : T (lt f 2ᶠ)
  pub product : num x * (den f * down e) ≡ num f * up e * den x

-- for every positive finite x, subnormal ones included
abbrev pub SplitIsRight : Type 0
SplitIsRight = (x : Float) → T (fits binary64 x) → T (positive x) → Taken x (mantissa x) (exponent x)
