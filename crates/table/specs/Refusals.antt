-- The numbers that refuse in this layer, after change request 8. The others stand in the layers below. Definitions only.
use Rattle.std.specs.Prelude.{ℕ}

-- a table of fewer than 4,096 numbers
abbrev pub small_table : ℕ
small_table = 23

-- a count of filled rows, a next row, or a filled row's steps, bound or length that no call leaves
abbrev pub bad_table : ℕ
bad_table = 24
