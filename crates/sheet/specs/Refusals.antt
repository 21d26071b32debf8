-- The number that refuses in this layer, after document 01's list. The others stand in the layers below. Definitions only.
use Rattle.std.specs.Prelude.{ℕ}

-- a sheet over 65,536 bytes
abbrev pub long_sheet : ℕ
long_sheet = 9
