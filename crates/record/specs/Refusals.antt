-- The numbers that refuse in this layer, after document 01's list and change request 1. 2 stands in the layer below. Definitions only.
use Rattle.std.specs.Prelude.{ℕ}

-- a record that ends inside itself
abbrev pub cut_short : ℕ
cut_short = 6

-- a number of more than 8 groups, or of several groups whose last is zero
abbrev pub malformed : ℕ
malformed = 7

-- a record's buffer under 88 bytes
abbrev pub small_record_buffer : ℕ
small_record_buffer = 20
