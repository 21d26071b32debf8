-- The number that refuses in this layer, after document 01's list. 1, 5 and 11 stand in the layers below. Definitions only.
use Rattle.std.specs.Prelude.{ℕ}

-- more lots than the bound in magnitude
abbrev pub holding : ℕ
holding = 4
