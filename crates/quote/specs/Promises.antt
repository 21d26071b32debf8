-- The buyer's first and third demands for the entries of this layer, as named statements. Each is proved once, in proofs/. Definitions only.
use Rattle.std.specs.Prelude.{◌≡◌, ℕ, ◌≤◌, true, false, ◌⊎◌, ◌↔◌, ℤ, neg_ℤ, Float, Option, Ok, Err}
use Rattle.elementary.specs.Float.{positive}
use Rattle.elementary.specs.Checks.{Refuses, Passes, by}
use Rattle.vector.specs.Refusals.{numerical}
use Rattle.plan.specs.Plan.{cap}
use Rattle.distances.specs.Distances.{fine}
use Rattle.distances.specs.Refusing.{EntryFails}
use Rattle.distances.specs.Promises.{exchanged, exchanged_sides}
use Rattle.distances.specs.declared.Answer.{Answer}
use Rattle.quote.specs.Refusals.{capped}
use Rattle.amounts.specs.Amounts.{tau_of}
use Rattle.model.specs.Configuration.{turned}
use Rattle.model.specs.Model.{lots, model_of, input_of, exact_checks, closed_checks}
use Rattle.quote.specs.ClosedForm.{slope, bid_form, ask_form}
use Rattle.quote.specs.Quotes.{exact_answer, optimal_answer, closed_answer, exact_steps, exact_by, exact_quotes, wrapped, optimal_quotes, closed_form_quotes}
use Rattle.model.specs.declared.GLFTConfig.{GLFTConfig}
use Rattle.model.specs.declared.Model.{Model}
use Rattle.prices.specs.declared.GlftQuotes.{GlftQuotes}
use Rattle.quote.specs.declared.ExactQuotes.TheVariants as Exact
use Rattle.prices.specs.Refusing.{Priced}
use Rattle.prices.specs.Facing.{Pair}

-- ==== Demand 3, as change request 7 has it: two calls of one entry, alike in all but the holding and the drift, which the second has with the other sign.
-- The opposite of a 64-bit number is a number of ℤ always, so nothing is asked here; where 64 bits hold both, there is a second call.
-- ---- (a) before prices: the same report or refusal, or the distances exchanged bit for bit, an absent side facing an absent one; the defined run's
-- steps agree, under a refusal too, and are at most 11,000
abbrev pub ExactMirror : Type 0
ExactMirror = (mid h : ℤ) (c : GLFTConfig) (vol : ℤ) (t : ℕ)
    → (exact_answer mid (neg_ℤ h) (turned c) vol t ≡ exchanged (exact_answer mid h c vol t)) × (exact_steps mid (neg_ℤ h) (turned c) vol t ≡ exact_steps mid h c vol t) × (exact_steps mid h c vol t ≤ cap)

-- the wrapper's two replies: the same refusal, 12 where the answer is the report; steps as above
abbrev pub OptimalMirror : Type 0
OptimalMirror = (mid h : ℤ) (c : GLFTConfig) (vol : ℤ) (t : ℕ)
    → (optimal_answer mid (neg_ℤ h) (turned c) vol t ≡ exchanged (optimal_answer mid h c vol t)) × (exact_steps mid (neg_ℤ h) (turned c) vol t ≡ exact_steps mid h c vol t) × (exact_steps mid h c vol t ≤ cap)

abbrev pub ClosedMirror : Type 0
ClosedMirror = (mid h : ℤ) (c : GLFTConfig) (vol : ℤ) → closed_answer mid (neg_ℤ h) (turned c) vol ≡ exchanged_sides (closed_answer mid h c vol)

-- ---- (b) prices that face each other (prices, Facing)
-- Quotes may be refused at one sign alone: 13 and 14 look at prices, and prices are not exchanged. With mid 9 × 10^15 billionths, tau 0 and bound 1,
-- the holding of 1 lot has an ask alone, above the limit: 13; minus 1 lot has a bid alone, which is fine.
abbrev pub ExactPairs : Type 0
ExactPairs = (mid h : ℤ) (c : GLFTConfig) (vol : ℤ) (t : ℕ) (q q' : GlftQuotes) (s s' : ℕ)
    → exact_quotes mid h c vol t ≡ Exact.Quotes q s → exact_quotes mid (neg_ℤ h) (turned c) vol t ≡ Exact.Quotes q' s' → Pair mid q q' × (s ≡ s') × (s ≡ exact_steps mid h c vol t)

-- ---- (c) the wrapper, and the closed form
-- the wrapper's quotes are its answer, priced
abbrev pub OptimalPriced : Type 0
OptimalPriced = (mid h : ℤ) (c : GLFTConfig) (vol : ℤ) (t : ℕ) → optimal_quotes mid h c vol t ≡ wrapped (exact_by mid c.min_spread (optimal_answer mid h c vol t))

abbrev pub OptimalPairs : Type 0
OptimalPairs = (mid h : ℤ) (c : GLFTConfig) (vol : ℤ) (t : ℕ) (q q' : GlftQuotes) (s s' : ℕ)
    → optimal_quotes mid h c vol t ≡ Ok (q, s) → optimal_quotes mid (neg_ℤ h) (turned c) vol t ≡ Ok (q', s') → Pair mid q q' × (s ≡ s') × (s ≡ exact_steps mid h c vol t)

abbrev pub ClosedPairs : Type 0
ClosedPairs = (mid h : ℤ) (c : GLFTConfig) (vol : ℤ) (q q' : GlftQuotes)
    → closed_form_quotes mid h c vol ≡ Ok q → closed_form_quotes mid (neg_ℤ h) (turned c) vol ≡ Ok q' → Pair mid q q'

-- ==== Demand 1: each refusal is the reply in just the situation that document 01 names
-- 11: the checks all pass, and the float entry fails from the model's floats: its run does, or a read of its vector
abbrev pub ExactFails : ℤ → ℤ → GLFTConfig → ℤ → ℕ → Type 0
ExactFails mid h c vol t =
    let m = model_of c vol in
    Passes (exact_checks mid h c vol t) × EntryFails m.k m.base (input_of m (tau_of c.terminal_time t)) (lots h c)

-- and of the closed form: the slope is not finite and positive, an elementary refusal under it included; or it is, and a present distance is not finite
pub data FormFails (m : Model) (q : ℤ) : Type 0 where
  by_slope : positive (slope m) ≡ false → FormFails m q
  by_bid : positive (slope m) ≡ true → fine (bid_form m q) ≡ false → FormFails m q
  by_ask : positive (slope m) ≡ true → fine (ask_form m q) ≡ false → FormFails m q

abbrev pub ClosedFails : ℤ → ℤ → GLFTConfig → ℤ → Type 0
ClosedFails mid h c vol =
    Passes (closed_checks mid h c vol) × FormFails (model_of c vol) (lots h c)

-- an answer has distances, and their prices are refused
abbrev pub PricedOf : ℤ → ℤ → Answer → ℕ → Type 0
PricedOf mid least r n = (b : Option Float) × (a : Option Float) × (s : ℕ) × (r ≡ Answer.Distances b a s) × Priced mid least b a n

abbrev pub ExactPriced : ℤ → ℤ → GLFTConfig → ℤ → ℕ → ℕ → Type 0
ExactPriced mid h c vol t n = PricedOf mid c.min_spread (exact_answer mid h c vol t) n

abbrev pub ClosedPriced : ℤ → ℤ → GLFTConfig → ℤ → ℕ → Type 0
ClosedPriced mid h c vol n = (b : Option Float) × (a : Option Float) × (closed_answer mid h c vol ≡ Ok (b, a)) × Priced mid c.min_spread b a n

-- exact_quotes refuses by n just where the checks do, by 11 where the float entry fails after them, or where the prices do
abbrev pub ExactRefused : ℤ → ℤ → GLFTConfig → ℤ → ℕ → ℕ → Type 0
ExactRefused mid h c vol t n = Refuses (exact_checks mid h c vol t) n ⊎ (((n ≡ numerical) × ExactFails mid h c vol t) ⊎ ExactPriced mid h c vol t n)

abbrev pub ExactRefusals : Type 0
ExactRefusals = (mid h : ℤ) (c : GLFTConfig) (vol : ℤ) (t n : ℕ) → (exact_quotes mid h c vol t ≡ Exact.Refused (by n)) ↔ ExactRefused mid h c vol t n

-- the wrapper refuses where exact_quotes does, and by 12 just where that reports the cap
abbrev pub OptimalRefusals : Type 0
OptimalRefusals = (mid h : ℤ) (c : GLFTConfig) (vol : ℤ) (t n : ℕ)
    → (optimal_quotes mid h c vol t ≡ Err (by n))
    ↔ ((exact_quotes mid h c vol t ≡ Exact.Refused (by n)) ⊎ ((n ≡ capped) × ((need : Float) × (b : ℕ) × (s : ℕ) × (exact_quotes mid h c vol t ≡ Exact.OverStepCap need b s))))

-- the closed form never reports the cap: its answer has no such case
abbrev pub ClosedRefusals : Type 0
ClosedRefusals = (mid h : ℤ) (c : GLFTConfig) (vol : ℤ) (n : ℕ)
    → (closed_form_quotes mid h c vol ≡ Err (by n)) ↔ (Refuses (closed_checks mid h c vol) n ⊎ (((n ≡ numerical) × ClosedFails mid h c vol) ⊎ ClosedPriced mid h c vol n))
