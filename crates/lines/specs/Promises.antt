-- How long a line is, and when none is written, as named statements. Each is proved once, in proofs/. Definitions only.
use Rattle.std.specs.Prelude.{◌≡◌, ◌↔◌, ℕ, ◌^◌, ◌<◌, ◌≤◌, List, nat_abs, length, Option, Some, None, Err, ℤ}
use Rattle.plan.specs.declared.FirstPlan.{FirstPlan}
use Rattle.quote.specs.declared.ExactQuotes.{ExactQuotes}
use Rattle.lines.specs.Refusals.{small_buffer}
use Rattle.lines.specs.Lines.{answer_line, plan_line, least_room, line_for, wrote, text_left}
use Rattle.elementary.specs.Checks.{by}

-- ---- machine numbers: a price is an i64, steps and budget are u32, and the number of a refusal is a u8
unfoldable pub PriceHeld : Option ℤ → Type 0
PriceHeld (Some z) = nat_abs z ≤ 2 ^ 63
PriceHeld None = Unit {0}

unfoldable pub AnswerHeld : ExactQuotes → Type 0
AnswerHeld (ExactQuotes.Quotes q s) = PriceHeld q.bid × PriceHeld q.ask × (s < 2 ^ 32)
AnswerHeld (ExactQuotes.OverStepCap need b s) = b < 2 ^ 32
AnswerHeld (ExactQuotes.Refused r) = r.0 < 256

unfoldable pub PlanHeld : FirstPlan → Type 0
PlanHeld (FirstPlan.Steps n) = n < 2 ^ 32
PlanHeld (FirstPlan.OverCap need b) = b < 2 ^ 32
PlanHeld (FirstPlan.Refused r) = r.0 < 256

-- ---- no line of such an answer is longer than the least line buffer, nor of such a plan
abbrev pub AnswersFit : Type 0
AnswersFit = (a : ExactQuotes) → AnswerHeld a → length (answer_line a) ≤ least_room

abbrev pub PlansFit : Type 0
PlansFit = (p : FirstPlan) → PlanHeld p → length (plan_line p) ≤ least_room

-- ---- 8: the buffer has fewer than 64 bytes, whatever the line; no other, and a refusal leaves the buffer as it was
abbrev pub WriterRefusals : Type 0
WriterRefusals = (t b : List ℕ) (k : ℕ) → ((wrote (line_for t b) ≡ Err (by k)) ↔ ((k ≡ small_buffer) × (length b < least_room))) × (wrote (line_for t b) ≡ Err (by k) → text_left (line_for t b) b ≡ b)
