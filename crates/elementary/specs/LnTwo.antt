-- What LN2 and its high part are to be. No public contract cites this file. Definitions only.
use Rattle.std.specs.Prelude.{◌≡◌, ℕ, suc, ◌*◌, ◌^◌, ◌≤◌, true, false, T, pos, negsuc, unsigned_abs, Float}
use Rattle.std.specs.Float.{binary64}
use Rattle.std.specs.Float.Ieee.{fits}
use Rattle.std.specs.Float.Ieee.Exact.{HasValue}
use Rattle.std.specs.Float.Ieee.Positive.{num, den}
use Rattle.elementary.specs.Float.{◌⊗◌, whole, 2ᶠ, positive}
use Rattle.elementary.specs.Reply.{value}
use Rattle.elementary.specs.Elementary.{LN2, HI, exponent, LN}

-- the logarithm of 2 is LN2
abbrev pub LnOfTwo : Type 0
LnOfTwo = LN 2ᶠ ≡ value LN2

-- e * HI is e times the fraction num HI / den HI, with nothing rounded, for an e of up to 2 ^ 21 with either sign; and LN's e, which is
-- the exponent of its argument or one more, is one of these
pub record HighExact : Type 0 where
  pub above : (n : ℕ) → n ≤ 2 ^ 21 → HasValue (whole (pos n) ⊗ HI) false (n * num HI) (den HI)
  pub below : (n : ℕ) → suc n ≤ 2 ^ 21 → HasValue (whole (negsuc n) ⊗ HI) true (suc n * num HI) (den HI)
  pub met : (x : Float) → T (fits binary64 x) → T (positive x) → unsigned_abs (exponent x) ≤ 1074
