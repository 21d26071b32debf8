-- What the crate's own functions hand each other. No public contract cites this file. Definitions only.
use Rattle.std.specs.Prelude.{ℤ, Bool, true, false, Option, Some, None, Result, Ok, Err}
use Rattle.amounts.specs.Amounts.{amount_ok}
use Rattle.amounts.specs.Refusals.{beyond}
use Rattle.elementary.specs.declared.Refusal.{Refusal}
use Rattle.elementary.specs.Checks.{by}

-- a side's rounded distance, where it is within the limit, or 13
unfoldable pub side_by : Bool → ℤ → Result (Option ℤ) Refusal
side_by true z = Ok (Some z)
side_by false z = Err (by beyond)

unfoldable pub side_of : Option ℤ → Result (Option ℤ) Refusal
side_of None = Ok None
side_of (Some z) = side_by (amount_ok z) z
