-- What the crate's own functions hand each other. No public contract cites this file. Definitions only.
use Rattle.std.specs.Prelude.{ℕ, ◌*◌, Bool, true, ℤ, Float, Result}
use Rattle.std.specs.Float.{nan, inf, fin}
use Rattle.std.specs.Float.Ieee.{up, down}
use Rattle.elementary.specs.WholeUp.{next}
use Rattle.amounts.specs.Amounts.{billion, amount_ok}
use Rattle.amounts.specs.Rounding.{count_if}
use Rattle.elementary.specs.declared.Refusal.{Refusal}

-- a number's billionths in size: cut, or rounded up
unfoldable pub size_by : Bool → Float → ℕ
size_by t nan = 0
size_by t (inf s) = 0
size_by t (fin s m e) = next t (m * up e * billion) (down e)

-- a count, where it is within the limit, or 13
unfoldable pub count_of : ℤ → Result ℤ Refusal
count_of z = count_if true (amount_ok z) z
