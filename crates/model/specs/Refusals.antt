-- The numbers that refuse in this layer, after document 01's list. 1, 2, 4 and 5 stand in the layers below. Definitions only.
use Rattle.std.specs.Prelude.{ℕ}

-- mid or volatility not positive
abbrev pub market : ℕ
market = 3

-- a drift in a closed-form call
abbrev pub drifting : ℕ
drifting = 22
