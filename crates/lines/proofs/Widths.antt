-- How long a field and a line are. Assumes nothing.
use Rattle.std.specs.Prelude.{Option, Some, None}
use mathlib.Core.Path.{◌≡◌, ap, ◌∙◌}
use Prim.Native.Nat.{ℕ, suc, ◌+◌, ◌/◌, ◌^◌, ◌<◌, ◌≤◌}
use native.Mathlib.Omega.{arith}
use mathlib.Core.List.{[], ◌∷◌, ◌++◌}
use lib.ListN.{length, length-append}
use lib.IntN.{ℤ, pos, negsuc, nat_abs}
use lib.Ieee.{Float, binary64, to_bits}
use Rattle.quote.specs.Replies.{PriceKept, ReplyKept}
use Rattle.prices.specs.declared.GlftQuotes.{GlftQuotes}
use Rattle.quote.specs.declared.ExactQuotes.{ExactQuotes}
use Rattle.lines.specs.Lines.{digits, count, price, signed, side, hex, joined, quotes_line, cap_line, refusal_line, answer_line, plan_line, least_room}
use Rattle.lines.specs.Promises.{PriceHeld, AnswerHeld, PlanHeld, AnswersFit, PlansFit}
use Rattle.lines.specs.Inner.{most_side}
use Rattle.plan.specs.declared.FirstPlan.TheVariants as FirstPlan
use Rattle.lines.proofs.Digits.{places_most, length_digits, length_count}

-- ---- fields
pub length_price : (n : ℕ) → length (price n) ≡ length (count (n / 1_000_000_000)) + 10
unfolding price
length_price n = length-append (count (n / 1_000_000_000)) (46 ∷ digits 10 9 n) ∙ ap (λ (k : ℕ). length (count (n / 1_000_000_000)) + k) (rw (length_digits 10 9 n))

pub length_hex : (x : Float) → length (hex x) ≡ 16
unfolding hex
length_hex x = length_digits 16 16 (to_bits binary64 x)

-- a count below 10 ^ k has at most k digits
pub count_most : (k n : ℕ) → n < 10 ^ suc k → length (count n) ≤ suc k
count_most k n h = rw (length_count n) (places_most k n h)

-- a price of 64 bits has at most 20 bytes, and one more for its sign
pub price_most : (n : ℕ) → n ≤ 2 ^ 63 → length (price n) ≤ 20
price_most n h = rw (length_price n) (omega (arith, count_most 9 (n / 1_000_000_000) (omega arith)))

pub signed_most : (z : ℤ) → nat_abs z ≤ 2 ^ 63 → length (signed z) ≤ most_side
unfolding signed
signed_most (pos n) h = omega (arith, price_most n h)
signed_most (negsuc n) h = omega (arith, price_most (suc n) h)

side_most : (p : Option ℤ) → PriceHeld p → length (side p) ≤ most_side
unfolding side PriceHeld
side_most (Some z) h = signed_most z h
side_most None h = omega arith

-- ---- lines
pub length_counted : (a n : ℕ) → length (joined (a ∷ []) (count n ∷ [])) ≡ length (count n) + 3
unfolding joined
length_counted a n = rw (length-append (count n) (10 ∷ [])) (omega arith)

pub length_cap : (need : Float) (b : ℕ) → length (cap_line need b) ≡ length (count b) + 20
unfolding cap_line joined
length_cap need b = rw (length-append (hex need) (32 ∷ (count b ++ (10 ∷ []))), length-append (count b) (10 ∷ []), length_hex need) (omega arith)

pub length_quotes : (q : GlftQuotes) (s : ℕ) → length (quotes_line q s) ≡ length (side q.bid) + length (side q.ask) + length (count s) + 5
unfolding quotes_line joined
length_quotes q s =
    rw (length-append (side q.bid) (32 ∷ (side q.ask ++ (32 ∷ (count s ++ (10 ∷ []))))), length-append (side q.ask) (32 ∷ (count s ++ (10 ∷ []))), length-append (count s) (10 ∷ []))
    (omega arith)

pub counted_most : (a n : ℕ) → n < 2 ^ 32 → length (joined (a ∷ []) (count n ∷ [])) ≤ 64
counted_most a n h = rw (length_counted a n) (omega (arith, count_most 9 n (omega arith)))

pub refusal_most : (n : ℕ) → n < 256 → length (refusal_line n) ≤ 64
unfolding refusal_line
refusal_most n h = counted_most 82 n (omega arith)

pub cap_most : (need : Float) (b : ℕ) → b < 2 ^ 32 → length (cap_line need b) ≤ 64
cap_most need b h = rw (length_cap need b) (omega (arith, count_most 9 b (omega arith)))

-- ---- the lines of answers and plans whose numbers are machine numbers
pub answers_fit : AnswersFit
unfolding answer_line AnswerHeld
answers_fit (ExactQuotes.Quotes q s) h =
    rw (length_quotes q s) (omega (arith, side_most q.bid h.0, side_most q.ask h.1, count_most 9 s (omega (arith, h.2))))
answers_fit (ExactQuotes.OverStepCap need b s) h = cap_most need b h
answers_fit (ExactQuotes.Refused r) h = refusal_most r.0 h

pub plans_fit : PlansFit
unfolding plan_line PlanHeld
plans_fit (FirstPlan.Steps n) h = counted_most 78 n h
plans_fit (FirstPlan.OverCap need b) h = cap_most need b h
plans_fit (FirstPlan.Refused r) h = refusal_most r.0 h

-- such are those of every reply
price_held : (p : Option ℤ) → PriceKept p → PriceHeld p
unfolding PriceKept PriceHeld
price_held (Some (pos n)) h = omega arith
price_held (Some (negsuc n)) h = absurd h
price_held None h = tt

reply_held : (a : ExactQuotes) → ReplyKept a → AnswerHeld a
unfolding ReplyKept AnswerHeld
reply_held (ExactQuotes.Quotes q s) h = (price_held q.bid h.0, price_held q.ask h.1, omega (arith, h.2))
reply_held (ExactQuotes.OverStepCap need b s) h = omega (arith, h.1)
reply_held (ExactQuotes.Refused n) h = omega arith

pub reply_most : (a : ExactQuotes) → ReplyKept a → length (answer_line a) ≤ least_room
reply_most a h = answers_fit a (reply_held a h)
