-- Document 01, module 6: the line of an answer. Definitions only.
use Rattle.std.specs.Prelude.{ℕ, zero, suc, ◌+◌, ◌/◌, ◌%◌, Bool, true, false, cond, List, [], ◌∷◌, ◌++◌, ℤ, pos, negsuc, length, ltb, leb, Float, Option, Some, None, Result, Ok, Err}
use Rattle.std.specs.Float.{binary64}
use Rattle.std.specs.Float.Ieee.{to_bits}
use Rattle.amounts.specs.Amounts.{billion}
use Rattle.prices.specs.declared.GlftQuotes.{GlftQuotes}
use Rattle.quote.specs.declared.ExactQuotes.{ExactQuotes}
use Rattle.plan.specs.declared.FirstPlan.{FirstPlan}
use Rattle.buffers.specs.Over.{over}
use Rattle.lines.specs.Refusals.{small_buffer}
use Rattle.elementary.specs.declared.Refusal.{Refusal}
use Rattle.elementary.specs.Checks.{by}

-- ---- digits
-- `0` to `9`, then `A` to `F`
unfoldable pub glyph : ℕ → ℕ
glyph d = cond (ltb d 10) (48 + d) (55 + d)

-- the last k digits of n in base b, the highest first
unfoldable pub digits : ℕ → ℕ → ℕ → List ℕ
digits b zero n = []
digits b (suc k) n = digits b k (n / b) ++ (glyph (n % b) ∷ [])

-- how many decimal digits n has: is it below 10; as many turns as n are enough
unfoldable pub places_by : ℕ → Bool → ℕ → ℕ
places_by zero t n = 1
places_by (suc k) true n = 1
places_by (suc k) false n = suc (places_by k (ltb (n / 10) 10) (n / 10))

unfoldable pub places : ℕ → ℕ
places n = places_by n (ltb n 10) n

-- ---- fields
-- a count in decimal digits
unfoldable pub count : ℕ → List ℕ
count n = digits 10 (places n) n

-- billionths with nine decimals, after a `.`
unfoldable pub price : ℕ → List ℕ
price n = count (n / billion) ++ (46 ∷ digits 10 9 n)

-- with `-` before it where it is below zero
unfoldable pub signed : ℤ → List ℕ
signed (pos n) = price n
signed (negsuc n) = 45 ∷ price (suc n)

-- a side: its price, or `-`
unfoldable pub side : Option ℤ → List ℕ
side (Some z) = signed z
side None = 45 ∷ []

-- a float's 16 hex digits
unfoldable pub hex : Float → List ℕ
hex x = digits 16 16 (to_bits binary64 x)

-- ---- lines: fields parted by one space, and the byte 10
unfoldable pub joined : List ℕ → List (List ℕ) → List ℕ
joined f [] = f ++ (10 ∷ [])
joined f (g ∷ fs) = f ++ (32 ∷ joined g fs)

-- `Q`, bid, ask, steps
unfoldable pub quotes_line : GlftQuotes → ℕ → List ℕ
quotes_line q s = joined (81 ∷ []) (side q.bid ∷ side q.ask ∷ count s ∷ [])

-- `C`, steps needed, budget left
unfoldable pub cap_line : Float → ℕ → List ℕ
cap_line need b = joined (67 ∷ []) (hex need ∷ count b ∷ [])

-- `R`, number
unfoldable pub refusal_line : ℕ → List ℕ
refusal_line n = joined (82 ∷ []) (count n ∷ [])

unfoldable pub answer_line : ExactQuotes → List ℕ
answer_line (ExactQuotes.Quotes q s) = quotes_line q s
answer_line (ExactQuotes.OverStepCap need b s) = cap_line need b
answer_line (ExactQuotes.Refused r) = refusal_line r.0

-- a first plan: `N` and the steps; or the line of a cap report or of a refusal
unfoldable pub plan_line : FirstPlan → List ℕ
plan_line (FirstPlan.Steps n) = joined (78 ∷ []) (count n ∷ [])
plan_line (FirstPlan.OverCap need b) = cap_line need b
plan_line (FirstPlan.Refused r) = refusal_line r.0

-- ---- the least line buffer
abbrev pub least_room : ℕ
least_room = 64

abbrev pub has_room : List ℕ → Bool
has_room b = leb least_room (length b)

-- ---- what a buffer gets: a text, or the number that refuses it
pub data Text : Type 0 where
  text : List ℕ → Text
  refusal : ℕ → Text

-- a line, where the buffer has the room for any
unfoldable pub line_if : Bool → List ℕ → Text
line_if false t = refusal small_buffer
line_if true t = text t

abbrev pub line_for : List ℕ → List ℕ → Text
line_for t b = line_if (has_room b) t

-- what a writer answers, and what it leaves in the buffer
unfoldable pub wrote : Text → Result ℕ Refusal
wrote (text t) = Ok (length t)
wrote (refusal n) = Err (by n)

unfoldable pub text_left : Text → List ℕ → List ℕ
text_left (text t) b = over t b
text_left (refusal n) b = b
