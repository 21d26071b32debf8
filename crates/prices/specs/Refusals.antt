-- The number that refuses prices, after document 01's list. 13 stands in the layer below. Definitions only.
use Rattle.std.specs.Prelude.{ℕ}

-- bid not positive, ask not positive, or bid not below ask
abbrev pub crossed : ℕ
crossed = 14
