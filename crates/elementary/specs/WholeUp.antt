-- What rounding up to a whole number is to give. No public contract cites this file. Definitions only.
use Rattle.std.specs.Prelude.{◌≡◌, ℕ, ◌+◌, ◌-◌, ◌*◌, ◌/◌, ◌^◌, ◌<◌, ◌≤◌, Bool, true, false, T, ℤ}
use Rattle.std.specs.Float.{fin, binary64}
use Rattle.std.specs.Float.Ieee.{up, down, fits}
use Rattle.std.specs.Float.Ieee.Exact.{HasValue}
use Rattle.elementary.specs.Elementary.{ceil_of}

-- ±k is the least whole number from ±a / d up, both with the sign s: k - 1 < a / d ≤ k, and for a minus sign -k - 1 < -a / d ≤ -k
abbrev pub Next : Bool → ℕ → ℕ → ℕ → Type 0
Next false a d k = (a ≤ k * d) × (k * d < a + d)
Next true a d k = (k * d ≤ a) × (a < k * d + d)

-- it is: a / d rounded up, and for a minus sign cut
abbrev pub next : Bool → ℕ → ℕ → ℕ
next false a d = (a + (d - 1)) / d
next true a d = a / d

-- of x = ±m * 2 ^ e, `ceil_of` is that number: it is a whole one, not below x, and one less is below x
abbrev pub CeilLeast : Type 0
CeilLeast = (s : Bool) (m : ℕ) (e : ℤ) → T (fits binary64 (fin s m e)) → (k : ℕ) × (HasValue (ceil_of (fin s m e)) s k 1 × Next s (m * up e) (down e) k)

-- a whole number comes back as it is, -0 too
abbrev pub CeilWhole : Type 0
CeilWhole = (s : Bool) (m : ℕ) (e : ℤ) (k : ℕ) → T (fits binary64 (fin s m e)) → m * up e ≡ k * down e → ceil_of (fin s m e) ≡ fin s m e

-- and so does a number of size 2 ^ 52 or more
abbrev pub CeilLarge : Type 0
CeilLarge = (s : Bool) (m : ℕ) (e : ℤ) → T (fits binary64 (fin s m e)) → 2 ^ 52 * down e ≤ m * up e → ceil_of (fin s m e) ≡ fin s m e
