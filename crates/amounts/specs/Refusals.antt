-- The numbers that refuse what is beyond a limit, after document 01's list. 11 stands in a layer below. Definitions only.
use Rattle.std.specs.Prelude.{ℕ}

-- an amount or a time beyond its limit
abbrev pub limits : ℕ
limits = 2

-- a rounded distance or a price beyond the limit
abbrev pub beyond : ℕ
beyond = 13
