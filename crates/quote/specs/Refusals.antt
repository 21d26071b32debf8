-- The number that refuses in this layer, after document 01's list. The others stand in the layers below. Definitions only.
use Rattle.std.specs.Prelude.{ℕ}

-- over the step cap, from the wrapper alone
abbrev pub capped : ℕ
capped = 12
