-- Demand 3: prices that face each other. The statement is proved once, in proofs/. Definitions only.
use Rattle.std.specs.Prelude.{◌≡◌, ℤ, ◌+ℤ◌, Option, Some, None, Ok, Float}
use Rattle.prices.specs.Prices.{build_quotes}
use Rattle.prices.specs.declared.GlftQuotes.{GlftQuotes}

-- two prices: both absent, or adding up to exactly twice the mid
unfoldable pub Facing : ℤ → Option ℤ → Option ℤ → Type 0
Facing mid None None = Unit {0}
Facing mid None (Some a) = ⊥
Facing mid (Some b) None = ⊥
Facing mid (Some b) (Some a) = b +ℤ a ≡ mid +ℤ mid

-- the bid of each call faces the ask of the other: this covers every q from minus the bound to one below it, widened or not
pub record Pair (mid : ℤ) (q q' : GlftQuotes) : Type 0 where
  pub bid : Facing mid q.bid q'.ask
  pub ask : Facing mid q'.bid q.ask

-- quotes from two distances face those from the same two exchanged
abbrev pub BuiltFacing : Type 0
BuiltFacing = (mid least : ℤ) (b a : Option Float) (q q' : GlftQuotes) → build_quotes mid least b a ≡ Ok q → build_quotes mid least a b ≡ Ok q' → Pair mid q q'
