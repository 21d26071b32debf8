-- 11, 13 and 14: each is the reply in just the situation that document 01 names. Each statement is proved once, in proofs/. Definitions only.
use Rattle.std.specs.Prelude.{◌≡◌, ◌↔◌, ℕ, Bool, true, false, ◌&&◌, ℤ, Option, Err, Float}
use Rattle.vector.specs.Refusals.{numerical}
use Rattle.distances.specs.Distances.{fine}
use Rattle.amounts.specs.Refusals.{limits, beyond}
use Rattle.amounts.specs.Amounts.{amount_ok, above0}
use Rattle.prices.specs.Refusals.{crossed}
use Rattle.prices.specs.Prices.{each, side, rounded, widening, bid_price, ask_price, widen, price_sides, in_order, judge, build_quotes}
use Rattle.prices.specs.declared.GlftQuotes.{GlftQuotes}
use Rattle.elementary.specs.Checks.{by}

-- ---- the three parts
-- rounding: 11 where a distance is not finite; 13 where both are and a count is beyond the limit
pub data RoundingRefused (b a : Option Float) : ℕ → Type 0 where
  rounded_11 : (fine b && fine a) ≡ false → RoundingRefused b a numerical
  rounded_13 : (fine b && fine a) ≡ true → (each amount_ok (side b) && each amount_ok (side a)) ≡ false → RoundingRefused b a beyond

abbrev pub RoundingRefusals : Type 0
RoundingRefusals = (b a : Option Float) (n : ℕ) → (rounded b a ≡ Err (by n)) ↔ RoundingRefused b a n

-- the widening, and the prices without it: 2 where an amount that is given is beyond the limit; 13 where none is and a distance is
pub data SidesRefused (given : Bool) (b a : Option ℤ) : ℕ → Type 0 where
  sides_2 : given ≡ false → SidesRefused given b a limits
  sides_13 : given ≡ true → (each amount_ok b && each amount_ok a) ≡ false → SidesRefused given b a beyond

abbrev pub WideningRefusals : Type 0
WideningRefusals = (mid least : ℤ) (b a : Option ℤ) (n : ℕ) → (widen mid least b a ≡ Err (by n)) ↔ SidesRefused (amount_ok mid && amount_ok least) b a n

abbrev pub PricingRefusals : Type 0
PricingRefusals = (mid : ℤ) (b a : Option ℤ) (n : ℕ) → (price_sides mid b a ≡ Err (by n)) ↔ SidesRefused (amount_ok mid) b a n

-- the judgement: 13 where a price is beyond the limit; 14 where none is and a price is not positive or bid is not below ask
pub data JudgedRefused (q : GlftQuotes) : ℕ → Type 0 where
  judged_13 : (each amount_ok q.bid && each amount_ok q.ask) ≡ false → JudgedRefused q beyond
  judged_14 : (each amount_ok q.bid && each amount_ok q.ask) ≡ true → (each above0 q.bid && each above0 q.ask && in_order q.bid q.ask) ≡ false → JudgedRefused q crossed

abbrev pub JudgedRefusals : Type 0
JudgedRefusals = (q : GlftQuotes) (n : ℕ) → (judge q ≡ Err (by n)) ↔ JudgedRefused q n

-- ---- prices from finite distances: 13 where a rounded distance or a price in its last form is beyond the limit; 14 where that is not so and a price is not
-- positive or bid is not below ask
abbrev pub Within : ℤ → ℤ → Option Float → Option Float → Bool
Within mid least b a =
    let w = widening least (side b) (side a) in
    each amount_ok (side b) && each amount_ok (side a) && (each amount_ok (bid_price mid w (side b)) && each amount_ok (ask_price mid w (side a)))

abbrev pub Ordered : ℤ → ℤ → Option Float → Option Float → Bool
Ordered mid least b a =
    let w = widening least (side b) (side a) in
    each above0 (bid_price mid w (side b)) && each above0 (ask_price mid w (side a)) && in_order (bid_price mid w (side b)) (ask_price mid w (side a))

pub data Priced (mid least : ℤ) (b a : Option Float) : ℕ → Type 0 where
  by_13 : Within mid least b a ≡ false → Priced mid least b a beyond
  by_14 : Within mid least b a ≡ true → Ordered mid least b a ≡ false → Priced mid least b a crossed

abbrev pub PricesRefused : Type 0
PricesRefused = (mid least : ℤ) (b a : Option Float) (n : ℕ) → fine b ≡ true → fine a ≡ true → (build_quotes mid least b a ≡ Err (by n)) ↔ Priced mid least b a n
