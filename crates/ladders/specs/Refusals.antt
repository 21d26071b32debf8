-- The number that refuses in this layer, after change request 4. 2, 1 and 3 stand in the layer below. Definitions only.
use Rattle.std.specs.Prelude.{ℕ}

-- a ladder's buffer under 64 × (2 × bound + 1) bytes
abbrev pub small_ladder_buffer : ℕ
small_ladder_buffer = 21
