-- The refusals of the elementary functions: 5 is the reply in just the situation that document 01 names, and no other number ever is. Proved once, in proofs/. Definitions only.
use Rattle.std.specs.Prelude.{◌≡◌, ℕ, true, false, T, ◌⊎◌, ◌↔◌, Float}
use Rattle.std.specs.Float.{binary64}
use Rattle.std.specs.Float.Ieee.{lt, fits}
use Rattle.elementary.specs.Float.{0ᶠ, finite, positive}
use Rattle.elementary.specs.Reply.{refusal}
use Rattle.elementary.specs.Elementary.{outside, LN, LN1P, EXP, SQRT, CEIL}

pub record ElementaryRefusals : Type 0 where
  -- LN: an argument not finite and above zero
  pub ln : (x : Float) (n : ℕ) → (LN x ≡ refusal n) ↔ ((n ≡ outside) × (positive x ≡ false))
  -- LN1P: the same, for each x that binary64 holds: past the greatest of them, 1 + x can round to infinity
  pub ln1p : (x : Float) (n : ℕ) → T (fits binary64 x) → (LN1P x ≡ refusal n) ↔ ((n ≡ outside) × (positive x ≡ false))
  -- EXP and rounding up: an infinity or a NaN
  pub exp : (x : Float) (n : ℕ) → (EXP x ≡ refusal n) ↔ ((n ≡ outside) × (finite x ≡ false))
  pub ceil : (x : Float) (n : ℕ) → (CEIL x ≡ refusal n) ↔ ((n ≡ outside) × (finite x ≡ false))
  -- the root: these, and an argument below zero, which -0 is not
  pub sqrt : (x : Float) (n : ℕ) → (SQRT x ≡ refusal n) ↔ ((n ≡ outside) × ((finite x ≡ false) ⊎ (lt x 0ᶠ ≡ true)))
