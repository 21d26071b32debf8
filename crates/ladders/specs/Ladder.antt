-- Change requests 4 and 7: a ladder, one line for each lot from minus the bound to the bound. Definitions only.
use Rattle.std.specs.Prelude.{◌≡◌, ◌⊎◌, ◌↔◌, ℕ, zero, suc, ◌+◌, ◌*◌, ◌<◌, ◌≤◌, Bool, true, false, List, [], ◌++◌, ℤ, pos, ◌-ℤ◌, length, leb, Result, Ok, Err}
use Rattle.quote.specs.Quotes.{exact_quotes}
use Rattle.model.specs.Configuration.{turned}
use Rattle.prices.specs.Facing.{Pair}
use Rattle.model.specs.Model.{check_call}
use Rattle.lots.specs.Reckoning.{reckoning, holding_of, quotes_of_lots, Carries, Opposed, Early}
use Rattle.model.specs.declared.GLFTConfig.{GLFTConfig}
use Rattle.prices.specs.declared.GlftQuotes.{GlftQuotes}
use Rattle.quote.specs.declared.ExactQuotes.TheVariants as Exact
use Rattle.lots.specs.declared.Reckoning.{Reckoning}
use Rattle.ladders.specs.Refusals.{small_ladder_buffer}
use Rattle.lines.specs.Lines.{answer_line, least_room, Text, text, refusal, text_left}
use Rattle.elementary.specs.declared.Refusal.{Refusal}
use Rattle.elementary.specs.Checks.{by}

-- ---- the lines
-- how many there are, and the lots of line i, counted from 0
abbrev pub rungs : GLFTConfig → ℕ
rungs c = 2 * c.max_inventory_lots + 1

unfoldable pub lot_at : GLFTConfig → ℕ → ℤ
lot_at c i = pos i -ℤ pos c.max_inventory_lots

unfoldable pub ladder_line : ℤ → GLFTConfig → Reckoning → ℕ → List ℕ
ladder_line mid c r i = answer_line (quotes_of_lots mid c r (lot_at c i))

-- the first k lines, lowest first, each right after the last
unfoldable pub ladder_lines : ℤ → GLFTConfig → Reckoning → ℕ → List ℕ
ladder_lines mid c r zero = []
ladder_lines mid c r (suc k) = ladder_lines mid c r k ++ ladder_line mid c r k

-- all of them, from one reckoning
unfoldable pub ladder : ℤ → GLFTConfig → ℤ → ℕ → List ℕ
ladder mid c vol t = ladder_lines mid c (reckoning c vol t) (rungs c)

-- ---- the ladder that a buffer of so many bytes gets, or the refusal of the whole: what 2, 1 or 3 refuses at holding 0, then 21
abbrev pub ladder_room : GLFTConfig → ℕ
ladder_room c = least_room * rungs c

-- the most of it, for a bound of 200: 401 lines
abbrev pub most_ladder : ℕ
most_ladder = 25_664

unfoldable pub ladder_if : Result Unit Refusal → Bool → List ℕ → Text
ladder_if (Err r) m t = refusal r.0
ladder_if (Ok tt) false t = refusal small_ladder_buffer
ladder_if (Ok tt) true t = text t

unfoldable pub ladder_for : ℤ → GLFTConfig → ℤ → ℕ → ℕ → Text
ladder_for mid c vol t room = ladder_if (check_call mid c vol t) (leb (ladder_room c) room) (ladder mid c vol t)

-- ---- what `write_ladder` answers, and what it leaves in the buffer
unfoldable pub ladder_answer : Text → Result ℕ Refusal
ladder_answer (text t) = Ok (length t)
ladder_answer (refusal n) = Err (by n)

abbrev pub laddered : ℤ → GLFTConfig → ℤ → ℕ → List ℕ → Result ℕ Refusal
laddered mid c vol t b = ladder_answer (ladder_for mid c vol t (length b))

abbrev pub laddered_in : ℤ → GLFTConfig → ℤ → ℕ → List ℕ → List ℕ
laddered_in mid c vol t b = text_left (ladder_for mid c vol t (length b)) b

-- ==== statements, of a desk whose numbers pass
-- line i is the line of `exact_quotes` at the holding of its lots
abbrev pub LadderIsSingle : Type 0
LadderIsSingle = (mid : ℤ) (c : GLFTConfig) (vol : ℤ) (t : ℕ) → check_call mid c vol t ≡ (Ok tt) → (i : ℕ) → i < rungs c
    → ladder_line mid c (reckoning c vol t) i ≡ answer_line (exact_quotes mid (holding_of c (lot_at c i)) c vol t)

-- line i of the ladder of c and line j of that of d, which is c with the drift turned: the same report or refusal before prices, or the distances exchanged;
-- where both quote, the bid of one and the ask of the other add up to twice the mid
abbrev pub LinesFace : ℤ → GLFTConfig → GLFTConfig → ℤ → ℕ → ℕ → ℕ → Type 0
LinesFace mid c d vol t i j = (turned c ≡ d) × Opposed mid c vol t (holding_of c (lot_at c i)) (holding_of d (lot_at d j))
    × ((x y : GlftQuotes) (s r : ℕ) → quotes_of_lots mid c (reckoning c vol t) (lot_at c i) ≡ Exact.Quotes x s → quotes_of_lots mid d (reckoning d vol t) (lot_at d j) ≡ Exact.Quotes y r → Pair mid x y)

-- opposite lines, the first and the last before all: a ladder is paired with itself for drift 0 alone, any other with the ladder of the opposite drift
abbrev pub LadderMirror : Type 0
LadderMirror = (mid : ℤ) (c : GLFTConfig) (vol : ℤ) (t : ℕ) → check_call mid c vol t ≡ (Ok tt) → (i j : ℕ) → i + j ≡ 2 * c.max_inventory_lots → LinesFace mid c (turned c) vol t i j

abbrev pub LadderOwnMirror : Type 0
LadderOwnMirror = (mid : ℤ) (c : GLFTConfig) (vol : ℤ) (t : ℕ) → c.drift ≡ pos 0 → check_call mid c vol t ≡ (Ok tt) → (i j : ℕ) → i + j ≡ 2 * c.max_inventory_lots
    → LinesFace mid c c vol t i j

-- what refuses a ladder as a whole refuses that of the opposite drift
abbrev pub LadderMirrorRefusals : Type 0
LadderMirrorRefusals = (mid : ℤ) (c : GLFTConfig) (vol : ℤ) (t : ℕ) (b : List ℕ) (n : ℕ)
    → (laddered mid c vol t b ≡ Err (by n)) ↔ (laddered mid (turned c) vol t b ≡ Err (by n))

-- one run: the steps of all lines that carry steps agree
abbrev pub LadderOneRun : Type 0
LadderOneRun = (mid : ℤ) (c : GLFTConfig) (vol : ℤ) (t i j n m : ℕ)
    → Carries (quotes_of_lots mid c (reckoning c vol t) (lot_at c i)) n → Carries (quotes_of_lots mid c (reckoning c vol t) (lot_at c j)) m → n ≡ m

-- the room of every ladder is within the most, so a buffer of so many bytes gets no 21
abbrev pub LaddersBounded : Type 0
LaddersBounded = (mid : ℤ) (c : GLFTConfig) (vol : ℤ) (t : ℕ) → check_call mid c vol t ≡ (Ok tt) → ladder_room c ≤ most_ladder

-- a ladder fits its buffer
abbrev pub LadderFits : Type 0
LadderFits = (mid : ℤ) (c : GLFTConfig) (vol : ℤ) (t : ℕ) (b : List ℕ) (n : ℕ) → laddered mid c vol t b ≡ Ok n → n ≤ length b

-- ---- the whole is refused by n just where n is 2, 1 or 3 and `exact_quotes` refuses by it at holding 0, and by 21 where that refuses by none of them and the
-- buffer has too little room; by no other number, and a refusal leaves the buffer as it was
abbrev pub Unrefused : ℤ → GLFTConfig → ℤ → ℕ → Type 0
Unrefused mid c vol t = (n : ℕ) → Early n → exact_quotes mid (pos 0) c vol t ≡ Exact.Refused (by n) → ⊥

abbrev pub LadderRefusals : Type 0
LadderRefusals = (mid : ℤ) (c : GLFTConfig) (vol : ℤ) (t : ℕ) (b : List ℕ) (n : ℕ)
    → ((laddered mid c vol t b ≡ Err (by n))
    ↔ ((Early n × (exact_quotes mid (pos 0) c vol t ≡ Exact.Refused (by n))) ⊎ ((n ≡ small_ladder_buffer) × Unrefused mid c vol t × (length b < ladder_room c))))
    × (laddered mid c vol t b ≡ Err (by n) → laddered_in mid c vol t b ≡ b)
