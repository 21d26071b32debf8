-- Change request 5, in place of document 01's rounding in module 5: a distance that is no whole number of billionths goes up to the next one. Definitions only.
use Rattle.std.specs.Prelude.{◌≡◌, ℕ, ◌+◌, ◌-◌, ◌*◌, ◌/◌, Bool, true, false, T, ◌⊎◌, ◌↔◌, ℤ, pos, ◌*ℤ◌, neg_ℤ, ◌≤ℤ◌, Float, Result, Ok, Err}
use Rattle.std.specs.Float.{nan, inf, fin}
use Rattle.std.specs.Float.Ieee.{up, down}
use Rattle.elementary.specs.Float.{finite}
use Rattle.series.specs.Refusals.{numerical}
use Rattle.amounts.specs.Refusals.{beyond}
use Rattle.amounts.specs.Amounts.{billion, amount_ok}
use Rattle.elementary.specs.declared.Refusal.{Refusal}
use Rattle.elementary.specs.Checks.{by}

-- a finite distance in billionths, toward plus infinity: above zero rounded up, below zero cut; what is not finite has none, and 0 stands for it
unfoldable pub billionths : Float → ℤ
billionths nan = pos 0
billionths (inf s) = pos 0
billionths (fin false m e) = pos ((m * up e * billion + (down e - 1)) / down e)
billionths (fin true m e) = neg_ℤ (pos (m * up e * billion / down e))

-- ---- the entry: is the distance finite, or 11; is its count within the limit, or 13
unfoldable pub count_if : Bool → Bool → ℤ → Result ℤ Refusal
count_if false w z = Err (by numerical)
count_if true false z = Err (by beyond)
count_if true true z = Ok z

unfoldable pub to_billionths : Float → Result ℤ Refusal
to_billionths d = count_if (finite d) (amount_ok (billionths d)) (billionths d)

-- ==== statements
-- ±m × 2 ^ e is so many billionths over down e, exactly
unfoldable pub exactly : Bool → ℕ → ℤ → ℤ
exactly false m e = pos (m * up e * billion)
exactly true m e = neg_ℤ (pos (m * up e * billion))

-- a distance is at most z billionths, as exact fractions; only a finite one is
unfoldable pub AtMost : Float → ℤ → Type 0
AtMost nan z = ⊥
AtMost (inf s) z = ⊥
AtMost (fin s m e) z = exactly s m e ≤ℤ (z *ℤ pos (down e))

-- the count of a finite distance is the least whole number of billionths that is not below it
abbrev pub RoundingIsRight : Type 0
RoundingIsRight = (x : Float) → T (finite x) → AtMost x (billionths x) × ((z : ℤ) → AtMost x z → billionths x ≤ℤ z)

-- and so a whole number of billionths stays
abbrev pub WholeStays : Type 0
WholeStays = (s : Bool) (m : ℕ) (e z : ℤ) → exactly s m e ≡ z *ℤ pos (down e) → billionths (fin s m e) ≡ z

-- 11 just where the distance is not finite, 13 just where it is and its count is beyond the limit
abbrev pub CountRefusals : Type 0
CountRefusals = (d : Float) (n : ℕ)
    → (to_billionths d ≡ Err (by n)) ↔ (((n ≡ numerical) × (finite d ≡ false)) ⊎ ((n ≡ beyond) × (finite d ≡ true) × (amount_ok (billionths d) ≡ false)))
