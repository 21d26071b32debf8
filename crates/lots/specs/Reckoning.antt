-- Change request 4: one reckoning for every holding. Definitions only.
use Rattle.std.specs.Prelude.{◌≡◌, ◌⊎◌, ◌↔◌, ℕ, ◌≤◌, Bool, true, false, ◌&&◌, List, ◌∷◌, [], ℤ, pos, neg_ℤ, nat_abs, ◌*ℤ◌, Float, Ok, Err}
use Rattle.elementary.specs.Float.{0ᶠ}
use Rattle.elementary.specs.Elementary.{outside}
use Rattle.elementary.specs.Checks.{Verdict, passes, refused, first_failing, Refuses, Passes, by}
use Rattle.vector.specs.Refusals.{configuration}
use Rattle.vector.specs.Values.{refused_vector, value_vector}
use Rattle.vector.specs.declared.Outcome.{Outcome}
use Rattle.vector.specs.declared.VectorAnswer.{VectorAnswer}
use Rattle.distances.specs.Promises.{exchanged}
use Rattle.distances.specs.declared.Answer.TheVariants as Answer
use Rattle.distances.specs.Distances.{lent}
use Rattle.distances.specs.Reading.{answer_from}
use Rattle.amounts.specs.Refusals.{limits}
use Rattle.model.specs.Refusals.{market}
use Rattle.amounts.specs.Amounts.{amount_ok, above0, tau_of}
use Rattle.model.specs.Configuration.{turned}
use Rattle.model.specs.Model.{model_of, model_ok, input_of, check_call, exact_model}
use Rattle.quote.specs.Quotes.{exact_answer, exact_quotes, quotes_by_answer}
use Rattle.prices.specs.Facing.{Pair}
use Rattle.quote.specs.Promises.{PricedOf}
use Rattle.model.specs.declared.GLFTConfig.{GLFTConfig}
use Rattle.model.specs.declared.Model.{Model}
use Rattle.prices.specs.declared.GlftQuotes.{GlftQuotes}
use Rattle.quote.specs.declared.ExactQuotes.{ExactQuotes}
use Rattle.lots.specs.declared.Reckoning.{Reckoning}

-- ---- the reckoning
-- a value vector, or 5 in its place where a float of the model is not fine
unfoldable pub reckon_if : Bool → VectorAnswer → VectorAnswer
reckon_if false a = refused_vector (by outside)
reckon_if true a = a

-- a number beside a vector; a report or a refusal stands alone, with 0.0 beside it
unfoldable pub beside : Outcome → Float → Float
beside (Outcome.Done s) x = x
beside (Outcome.OverCap need b s) x = 0ᶠ
beside (Outcome.Refused n) x = 0ᶠ

-- the model's k and base beside its value vector
unfoldable pub reckoned : Model → VectorAnswer → Reckoning
reckoned m a = record { k = beside a.outcome m.k; base = beside a.outcome m.base; vector = a }

unfoldable pub reckoning : GLFTConfig → ℤ → ℕ → Reckoning
reckoning c vol t = let m = model_of c vol in reckoned m (reckon_if (model_ok m) (value_vector (input_of m (tau_of c.terminal_time t))))

-- ---- quotes at q lots from a vector
unfoldable pub quotes_from : ℤ → ℤ → Float → Float → ℤ → VectorAnswer → ExactQuotes
quotes_from mid least k base q a = quotes_by_answer mid least (answer_from a k base q)

-- ---- quotes of so many lots from a reckoning: is the lot size positive, or 1; is the lots' holding, lots × lot size, within the limit, or 2
unfoldable pub holding_of : GLFTConfig → ℤ → ℤ
holding_of c q = q *ℤ c.lot_size

abbrev pub lots_checks : GLFTConfig → ℤ → List (Bool × ℕ)
lots_checks c q = (above0 c.lot_size, configuration) ∷ (amount_ok (holding_of c q), limits) ∷ []

unfoldable pub lots_if : Verdict → ExactQuotes → ExactQuotes
lots_if passes x = x
lots_if (refused n) x = ExactQuotes.Refused (by n)

unfoldable pub quotes_of_lots : ℤ → GLFTConfig → Reckoning → ℤ → ExactQuotes
quotes_of_lots mid c r q = lots_if (first_failing (lots_checks c q)) (quotes_from mid c.min_spread r.k r.base q r.vector)

-- a reckoning whose vector's arrays are lent: k, base, the run's outcome, and the vector's length, weights and offsets
abbrev pub lent_reckoning : Float → Float → Outcome → ℕ → List Float → List Float → Reckoning
lent_reckoning k base e n w o = record { k = k; base = base; vector = record { outcome = e; vector = lent n w o } }

-- ==== statements
-- where a call's model is made, the quotes from its value vector are those of `exact_quotes`
abbrev pub FromVector : Type 0
FromVector = (mid h : ℤ) (c : GLFTConfig) (vol : ℤ) (t : ℕ) (m : Model) (q : ℤ) → exact_model mid h c vol t ≡ Ok (m, q)
    → quotes_from mid c.min_spread m.k m.base q (value_vector (input_of m (tau_of c.terminal_time t))) ≡ exact_quotes mid h c vol t

-- where a call's numbers pass, the quotes of so many lots, within the bound, from its reckoning are those of `exact_quotes` at their holding
abbrev pub LotsAreSingle : Type 0
LotsAreSingle = (mid : ℤ) (c : GLFTConfig) (vol : ℤ) (t : ℕ) (q : ℤ) → check_call mid c vol t ≡ (Ok tt) → nat_abs q ≤ c.max_inventory_lots
    → quotes_of_lots mid c (reckoning c vol t) q ≡ exact_quotes mid (holding_of c q) c vol t

-- where the reckoning ends in a report or a refusal, so do the quotes of any lots whose holding is within the limit; beyond it they are refused by 2 all the same
pub data Ends (r : Reckoning) : ExactQuotes → Type 0 where
  by_report : {need : Float} {b s : ℕ} → r.vector.outcome ≡ Outcome.OverCap need b s → Ends r (ExactQuotes.OverStepCap need b s)
  by_refusal : {n : ℕ} → r.vector.outcome ≡ Outcome.Refused (by n) → Ends r (ExactQuotes.Refused (by n))

abbrev pub LotsEnd : Type 0
LotsEnd = (mid : ℤ) (c : GLFTConfig) (vol : ℤ) (t : ℕ) (q : ℤ) (x : ExactQuotes) → check_call mid c vol t ≡ (Ok tt) → Ends (reckoning c vol t) x
    → quotes_of_lots mid c (reckoning c vol t) q ≡ lots_if (first_failing ((amount_ok (holding_of c q), limits) ∷ [])) x

-- the steps that a reply carries
unfoldable pub Carries : ExactQuotes → ℕ → Type 0
Carries (ExactQuotes.Quotes q s) n = s ≡ n
Carries (ExactQuotes.OverStepCap need b s) n = s ≡ n
Carries (ExactQuotes.Refused r) n = ⊥

-- one run: all replies from one reckoning that carry steps carry the same
abbrev pub OneRun : Type 0
OneRun = (mid : ℤ) (c : GLFTConfig) (r : Reckoning) (q p : ℤ) (n m : ℕ) → Carries (quotes_of_lots mid c r q) n → Carries (quotes_of_lots mid c r p) m → n ≡ m

-- before prices, the answers at two holdings, the second with the drift turned: the same report or refusal, or the distances exchanged
abbrev pub Opposed : ℤ → GLFTConfig → ℤ → ℕ → ℤ → ℤ → Type 0
Opposed mid c vol t h g = exact_answer mid g (turned c) vol t ≡ exchanged (exact_answer mid h c vol t)

-- opposite lots and drifts: opposed before prices; where both end in quotes, their prices face each other
abbrev pub LotsMirror : Type 0
LotsMirror = (mid : ℤ) (c : GLFTConfig) (vol : ℤ) (t : ℕ) (q : ℤ) → check_call mid c vol t ≡ (Ok tt) → nat_abs q ≤ c.max_inventory_lots
    → Opposed mid c vol t (holding_of c q) (holding_of c (neg_ℤ q))
    × ((x y : GlftQuotes) (s r : ℕ) → quotes_of_lots mid c (reckoning c vol t) q ≡ ExactQuotes.Quotes x s → quotes_of_lots mid (turned c) (reckoning (turned c) vol t) (neg_ℤ q) ≡ ExactQuotes.Quotes y r → Pair mid x y)

-- what refuses a call whatever the holding is what refuses it by 2, 1 or 3 at holding 0
abbrev pub Early : ℕ → Type 0
Early n = (n ≡ limits) ⊎ ((n ≡ configuration) ⊎ (n ≡ market))

abbrev pub CheckRefusals : Type 0
CheckRefusals = (mid : ℤ) (c : GLFTConfig) (vol : ℤ) (t n : ℕ) → (check_call mid c vol t ≡ Err (by n)) ↔ (Early n × (exact_quotes mid (pos 0) c vol t ≡ ExactQuotes.Refused (by n)))

-- quotes from a vector are refused by 2 where the mid or the min spread is beyond the limit; else where the answer from the vector is, or its prices
abbrev pub FromRefusals : Type 0
FromRefusals = (mid least : ℤ) (k base : Float) (q : ℤ) (a : VectorAnswer) (n : ℕ)
    → (quotes_from mid least k base q a ≡ ExactQuotes.Refused (by n))
    ↔ (((n ≡ limits) × ((amount_ok mid && amount_ok least) ≡ false))
    ⊎ (((amount_ok mid && amount_ok least) ≡ true) × ((answer_from a k base q ≡ Answer.Refused (by n)) ⊎ PricedOf mid least (answer_from a k base q) n)))

-- those of so many lots by 1 where the lot size is not positive, by 2 where the holding is beyond the limit; else where those from the vector are
abbrev pub LotsRefusals : Type 0
LotsRefusals = (mid : ℤ) (c : GLFTConfig) (r : Reckoning) (q : ℤ) (n : ℕ)
    → (quotes_of_lots mid c r q ≡ ExactQuotes.Refused (by n))
    ↔ (Refuses (lots_checks c q) n ⊎ (Passes (lots_checks c q) × (quotes_from mid c.min_spread r.k r.base q r.vector ≡ ExactQuotes.Refused (by n))))
