-- The number that refuses in this layer, after document 01's list. 5 stands with the elementary functions. Definitions only.
use Rattle.std.specs.Prelude.{ℕ}

-- the reckoning left the floats: a norm, term, sum, weight, or factor that does not do
abbrev pub numerical : ℕ
numerical = 11
