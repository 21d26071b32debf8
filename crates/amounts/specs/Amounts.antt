-- Document 01, module 4: amounts, times and their limits, and both as floats. Definitions only.
use Rattle.std.specs.Prelude.{ℕ, ◌-◌, Bool, ℤ, pos, int_lt, nat_le, unsigned_abs, Float}
use Rattle.elementary.specs.Float.{◌⊘◌, whole}

-- ---- amounts: signed counts of billionths
abbrev pub billion : ℕ
billion = 1_000_000_000

abbrev pub amount_limit : ℕ
amount_limit = 9_000_000_000_000_000

-- milliseconds
abbrev pub time_limit : ℕ
time_limit = 9_000_000_000_000_000

unfoldable pub amount_ok : ℤ → Bool
amount_ok z = nat_le (unsigned_abs z) amount_limit

unfoldable pub time_ok : ℕ → Bool
time_ok t = nat_le t time_limit

unfoldable pub above0 : ℤ → Bool
above0 z = int_lt (pos 0) z

-- an amount as a float: the count, exact, divided by 10 ^ 9
unfoldable pub to_float : ℤ → Float
to_float z = whole z ⊘ whole (pos billion)

-- ---- times: milliseconds
-- seconds to the end, none after it
unfoldable pub tau_of : ℕ → ℕ → Float
tau_of terminal current = whole (pos (terminal - current)) ⊘ whole (pos 1000)
