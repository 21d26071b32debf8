-- The numbers that refuse in this layer, after document 01's list. 5 stands with the elementary functions, 11 with the series. Definitions only.
use Rattle.std.specs.Prelude.{ℕ}
pub use Rattle.series.specs.Refusals.{numerical}

-- the bound is not 1 to 200
abbrev pub configuration : ℕ
configuration = 1
