-- The number that refuses in this layer, after document 01's list. Definitions only.
use Rattle.std.specs.Prelude.{ℕ}

-- a line buffer under 64 bytes
abbrev pub small_buffer : ℕ
small_buffer = 8
