-- The law of the square root: the answer is the float nearest to the real root, and no other is as near. Definitions only.
use Rattle.std.specs.Prelude.{◌≡◌, ℕ, ◌+◌, ◌*◌, ◌^◌, ◌<◌, T, Float}
use Rattle.std.specs.Float.{binary64}
use Rattle.std.specs.Float.Ieee.{fits, le}
use Rattle.elementary.specs.Float.{0ᶠ, finite, count}
use Rattle.elementary.specs.Reply.{value}
use Rattle.elementary.specs.Elementary.{SQRT}

-- The root of w lies nearer to A than to Y: it is on A's side of the middle, (A + Y) / 2. Each statement is squared, so that no root is needed.
-- It is never the middle itself, hence `<`: between two floats next to each other the middle is an odd number of halves of their step, and w is an even number of squares of such a half.
pub record Nearer (w A Y : ℕ) : Type 0 where
  pub down : Y < A → (A + Y) * (A + Y) < 4 * w
  pub up : A < Y → 4 * w < (A + Y) * (A + Y)

-- Counted in units of 2 ^ -1074, the root of n units is the root of n * 2 ^ 1074. `count` takes no sign, and needs none:
-- a negative y lies farther from the root than the float of the same size that is not negative. An infinity or a NaN counts as 0 does.
pub record NearestRoot (x a : Float) : Type 0 where
  pub held : T (fits binary64 a)
  pub number : T (finite a)
  pub sign : T (le 0ᶠ a)
  pub nearest : (y : Float) → T (fits binary64 y) → Nearer (count binary64 x * 2 ^ 1074) (count binary64 a) (count binary64 y)

-- wherever there is an answer, which is for every finite x that is not below zero
abbrev pub RootIsNearest : Type 0
RootIsNearest = (x a : Float) → T (fits binary64 x) → SQRT x ≡ value a → NearestRoot x a
