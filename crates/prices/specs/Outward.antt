-- Change request 5: no price lies inside its reckoned distance. The statement is proved once, in proofs/. Definitions only.
use Rattle.std.specs.Prelude.{◌≡◌, ℤ, ◌-ℤ◌, Float, Option, Some, None, Ok}
use Rattle.amounts.specs.Rounding.{AtMost}
use Rattle.prices.specs.Prices.{build_quotes}
use Rattle.prices.specs.declared.GlftQuotes.{GlftQuotes}

-- a side has a price just where it has a distance
unfoldable pub OnSide : (Float → ℤ → Type 0) → Option Float → Option ℤ → Type 0
OnSide R (Some d) (Some p) = R d p
OnSide R (Some d) None = ⊥
OnSide R None (Some p) = ⊥
OnSide R None None = Unit {0}

-- bid ≤ mid - distance and mid + distance ≤ ask, as exact fractions: the bid's distance is at most mid - bid, the ask's at most ask - mid
pub record Outside (mid : ℤ) (b a : Option Float) (q : GlftQuotes) : Type 0 where
  pub bid : OnSide (λ d p. AtMost d (mid -ℤ p)) b q.bid
  pub ask : OnSide (λ d p. AtMost d (p -ℤ mid)) a q.ask

-- of quotes from any two distances, widened or not
abbrev pub BuiltOutside : Type 0
BuiltOutside = (mid least : ℤ) (b a : Option Float) (q : GlftQuotes) → build_quotes mid least b a ≡ Ok q → Outside mid b a q
