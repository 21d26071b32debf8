-- What the crate's own functions hand each other. No public contract cites this file. Definitions only.
use Rattle.std.specs.Prelude.{ℕ}

-- the most bytes of a side: a sign, ten digits, a point and nine decimals
abbrev pub most_side : ℕ
most_side = 21
