-- Document 01, module 5: from distances to bid and ask, in three parts: distances to whole billionths, the widening, and the judgement of 13 and 14 over any two prices. Definitions only.
use Rattle.std.specs.Prelude.{◌+◌, ◌/◌, Bool, true, false, ◌&&◌, ℤ, pos, negsuc, ◌+ℤ◌, ◌-ℤ◌, Option, Some, None, Result, Ok, Err, Float}
use Rattle.std.specs.Int.Signed.{lt_z}
use Rattle.vector.specs.Refusals.{numerical}
use Rattle.distances.specs.Distances.{fine}
use Rattle.amounts.specs.Refusals.{limits, beyond}
use Rattle.amounts.specs.Amounts.{amount_ok, above0}
use Rattle.amounts.specs.Rounding.{billionths}
use Rattle.prices.specs.Refusals.{crossed}
use Rattle.prices.specs.declared.GlftQuotes.{GlftQuotes}
use Rattle.elementary.specs.declared.Refusal.{Refusal}
use Rattle.elementary.specs.Checks.{by}

-- does a test hold of a side's number; of an absent side each does
unfoldable pub each : (ℤ → Bool) → Option ℤ → Bool
each p None = true
each p (Some x) = p x

-- ---- 1. distances to whole billionths
unfoldable pub side : Option Float → Option ℤ
side (Some d) = Some (billionths d)
side None = None

-- is each present distance finite, or 11; is each count within the limit, or 13
unfoldable pub rounded_if : Bool → Bool → Option ℤ → Option ℤ → Result (Option ℤ × Option ℤ) Refusal
rounded_if false w b a = Err (by numerical)
rounded_if true false b a = Err (by beyond)
rounded_if true true b a = Ok (b, a)

unfoldable pub rounded : Option Float → Option Float → Result (Option ℤ × Option ℤ) Refusal
rounded b a = rounded_if (fine b && fine a) (each amount_ok (side b) && each amount_ok (side a)) (side b) (side a)

-- ---- 2. the widening
-- half of a shortfall, rounded up; none where the spread is no shorter than the minimum
unfoldable pub half_up : ℤ → ℤ
half_up (pos n) = pos ((n + 1) / 2)
half_up (negsuc n) = pos 0

-- how far each price moves outward: only where both sides exist. The spread is the sum of the two distances.
unfoldable pub widening : ℤ → Option ℤ → Option ℤ → ℤ
widening least None a = pos 0
widening least (Some b) None = pos 0
widening least (Some b) (Some a) = half_up (least -ℤ (b +ℤ a))

-- bid = mid - distance, ask = mid + distance, each moved outward by w
unfoldable pub bid_price : ℤ → ℤ → Option ℤ → Option ℤ
bid_price mid w None = None
bid_price mid w (Some d) = Some (mid -ℤ (d +ℤ w))

unfoldable pub ask_price : ℤ → ℤ → Option ℤ → Option ℤ
ask_price mid w None = None
ask_price mid w (Some d) = Some (mid +ℤ (d +ℤ w))

-- the two prices from the rounded distances
unfoldable pub widened : ℤ → ℤ → Option ℤ → Option ℤ → GlftQuotes
widened mid least b a = let w = widening least b a in record { bid = bid_price mid w b; ask = ask_price mid w a }

-- are the amounts given within the limit, or 2; are the rounded distances, or 13
unfoldable pub widen_if : Bool → Bool → GlftQuotes → Result GlftQuotes Refusal
widen_if false w q = Err (by limits)
widen_if true false q = Err (by beyond)
widen_if true true q = Ok q

unfoldable pub widen : ℤ → ℤ → Option ℤ → Option ℤ → Result GlftQuotes Refusal
widen mid least b a = widen_if (amount_ok mid && amount_ok least) (each amount_ok b && each amount_ok a) (widened mid least b a)

-- the prices as they are without it, whatever the spread
unfoldable pub priced : ℤ → Option ℤ → Option ℤ → GlftQuotes
priced mid b a = record { bid = bid_price mid (pos 0) b; ask = ask_price mid (pos 0) a }

unfoldable pub price_sides : ℤ → Option ℤ → Option ℤ → Result GlftQuotes Refusal
price_sides mid b a = widen_if (amount_ok mid) (each amount_ok b && each amount_ok a) (priced mid b a)

-- ---- 3. the judgement: are the prices within the limit, or 13; are they positive, and bid below ask, or 14
unfoldable pub in_order : Option ℤ → Option ℤ → Bool
in_order None a = true
in_order (Some b) None = true
in_order (Some b) (Some a) = lt_z b a

unfoldable pub judge_if : Bool → Bool → GlftQuotes → Result GlftQuotes Refusal
judge_if false o q = Err (by beyond)
judge_if true false q = Err (by crossed)
judge_if true true q = Ok q

unfoldable pub judge : GlftQuotes → Result GlftQuotes Refusal
judge q = judge_if (each amount_ok q.bid && each amount_ok q.ask) (each above0 q.bid && each above0 q.ask && in_order q.bid q.ask) q

-- ---- all three: quotes from distances
unfoldable pub quotes_by : ℤ → ℤ → Result (Option ℤ × Option ℤ) Refusal → Result GlftQuotes Refusal
quotes_by mid least (Err n) = Err n
quotes_by mid least (Ok (b, a)) = judge (widened mid least b a)

unfoldable pub build_quotes : ℤ → ℤ → Option Float → Option Float → Result GlftQuotes Refusal
build_quotes mid least b a = quotes_by mid least (rounded b a)
