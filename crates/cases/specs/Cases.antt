-- The M cases of document 01, and those of change request 7, as one table: a question and its reply a row. Definitions only.
use Rattle.std.specs.Prelude.{◌≡◌, ℕ, ◌-◌, ◌*◌, List, ◌∷◌, ◌++◌, map, [], ℤ, pos, neg_ℤ, Float, Option, Some, None, Result, Ok, Err}
use Rattle.elementary.specs.Float.{◌⊕◌, ◌⊘◌, hex, whole, 0ᶠ, ½ᶠ, 1ᶠ, 2ᶠ}
use Rattle.elementary.specs.Elementary.{LN2}
use Rattle.series.specs.Refusals.{numerical}
use Rattle.operator.specs.Vectors.{fill}
use Rattle.plan.specs.Plan.{Fixed, Turn, going, ended, vector, over_cap, failed, cap, norm, first_turn, fixed}
use Rattle.plan.specs.declared.RunInput.{RunInput}
use Rattle.distances.specs.FloatEntry.{float_entry}
use Rattle.vector.specs.declared.ValueVector.{ValueVector}
use Rattle.distances.specs.declared.Answer.{Answer}
use Rattle.distances.specs.declared.FloatAnswer.{FloatAnswer}
use Rattle.model.specs.Model.{new_model, input_of}
use Rattle.amounts.specs.Amounts.{tau_of, billion}
use Rattle.model.specs.Configuration.{new_config}
use Rattle.quote.specs.Quotes.{exact_quotes, optimal_quotes, closed_form_quotes}
use Rattle.model.specs.declared.GLFTConfig.{GLFTConfig}
use Rattle.quote.specs.declared.ExactQuotes.{ExactQuotes}
use Rattle.elementary.specs.declared.Refusal.{Refusal}
use Rattle.prices.specs.declared.GlftQuotes.{GlftQuotes}
use Rattle.model.specs.declared.Model.{Model}

-- ---- what a desk types
pub record Case : Type 0 where
  pub mid : ℤ
  pub holding : ℤ
  pub volatility : ℤ
  pub config : GLFTConfig
  pub current : ℕ

abbrev pub case : (mid holding volatility risk k a : ℤ) (bound : ℕ) (lot : ℤ) (terminal current : ℕ) (spread drift : ℤ) → Case
case mid holding volatility risk k a bound lot terminal current spread drift =
    record {
      mid = mid;
      holding = holding;
      volatility = volatility;
      config = record {
        risk_aversion = risk;
        order_intensity_k = k;
        intensity_scale_a = a;
        max_inventory_lots = bound;
        lot_size = lot;
        terminal_time = terminal;
        min_spread = spread;
        drift = drift;
      };
      current = current;
    }

-- the amount n
abbrev pub units : ℕ → ℤ
units n = pos (n * billion)

-- mid 100, volatility, risk aversion, k, A and lot size 1, bound 1, holding 0, min spread and drift 0, terminal and current time 1000 ms
abbrev pub default : Case
default = case (units 100) (units 0) (units 1) (units 1) (units 1) (units 1) 1 (units 1) 1000 1000 (units 0) (units 0)

-- the default but for one number
abbrev pub with_mid : ℤ → Case
with_mid x = case x (units 0) (units 1) (units 1) (units 1) (units 1) 1 (units 1) 1000 1000 (units 0) (units 0)

abbrev pub with_holding : ℤ → Case
with_holding x = case (units 100) x (units 1) (units 1) (units 1) (units 1) 1 (units 1) 1000 1000 (units 0) (units 0)

abbrev pub with_volatility : ℤ → Case
with_volatility x = case (units 100) (units 0) x (units 1) (units 1) (units 1) 1 (units 1) 1000 1000 (units 0) (units 0)

abbrev pub with_risk : ℤ → Case
with_risk x = case (units 100) (units 0) (units 1) x (units 1) (units 1) 1 (units 1) 1000 1000 (units 0) (units 0)

abbrev pub with_k : ℤ → Case
with_k x = case (units 100) (units 0) (units 1) (units 1) x (units 1) 1 (units 1) 1000 1000 (units 0) (units 0)

abbrev pub with_a : ℤ → Case
with_a x = case (units 100) (units 0) (units 1) (units 1) (units 1) x 1 (units 1) 1000 1000 (units 0) (units 0)

abbrev pub with_bound : ℕ → Case
with_bound b = case (units 100) (units 0) (units 1) (units 1) (units 1) (units 1) b (units 1) 1000 1000 (units 0) (units 0)

abbrev pub with_lot : ℤ → Case
with_lot x = case (units 100) (units 0) (units 1) (units 1) (units 1) (units 1) 1 x 1000 1000 (units 0) (units 0)

abbrev pub with_terminal : ℕ → Case
with_terminal t = case (units 100) (units 0) (units 1) (units 1) (units 1) (units 1) 1 (units 1) t 1000 (units 0) (units 0)

abbrev pub with_current : ℕ → Case
with_current t = case (units 100) (units 0) (units 1) (units 1) (units 1) (units 1) 1 (units 1) 1000 t (units 0) (units 0)

abbrev pub with_spread : ℤ → Case
with_spread x = case (units 100) (units 0) (units 1) (units 1) (units 1) (units 1) 1 (units 1) 1000 1000 x (units 0)

abbrev pub with_drift : ℤ → Case
with_drift x = case (units 100) (units 0) (units 1) (units 1) (units 1) (units 1) 1 (units 1) 1000 1000 (units 0) x

-- ---- questions and replies
pub data Question : Type 0 where
  -- the entries of the quote layer
  config model exact optimal closed : Case → Question
  -- the float entry, from a case: the value vector and the distances
  reckoning : Case → Question
  -- and from k, alpha, beta, eta, base, bound, tau and q
  floats : Float → Float → Float → Float → Float → ℕ → Float → ℤ → Question
  -- the first plan, from alpha, beta, eta, bound and tau
  plan : Float → Float → Float → ℕ → Float → Question

pub data Reply : Type 0 where
  passes : Reply
  refused : ℕ → Reply
  -- bid, ask and steps
  quotes : Option ℤ → Option ℤ → ℕ → Reply
  -- weights, offsets, n, steps, the base distance, and the distances of bid and ask
  reckoned : List Float → List Float → ℕ → ℕ → Float → Option Float → Option Float → Reply
  -- the norm, the steps and their length
  planned : Float → ℕ → Float → Reply
  -- steps needed, budget left and steps spent
  over_the_cap : Float → ℕ → ℕ → Reply

unfoldable pub of_config : Result GLFTConfig Refusal → Reply
of_config (Ok c) = passes
of_config (Err r) = refused r.0

unfoldable pub of_model : Result (Model × ℤ) Refusal → Reply
of_model (Ok (m, q)) = passes
of_model (Err r) = refused r.0

unfoldable pub of_exact : ExactQuotes → Reply
of_exact (ExactQuotes.Quotes q s) = quotes q.bid q.ask s
of_exact (ExactQuotes.OverStepCap need b s) = over_the_cap need b s
of_exact (ExactQuotes.Refused r) = refused r.0

unfoldable pub of_optimal : Result (GlftQuotes × ℕ) Refusal → Reply
of_optimal (Ok (q, s)) = quotes q.bid q.ask s
of_optimal (Err r) = refused r.0

-- the closed form has no steps
unfoldable pub of_closed : Result GlftQuotes Refusal → Reply
of_closed (Ok q) = quotes q.bid q.ask 0
of_closed (Err r) = refused r.0

unfoldable pub of_answer : Float → ValueVector → Answer → Reply
of_answer base v (Answer.Distances b a s) = reckoned v.w v.log_offset v.n s base b a
of_answer base v (Answer.OverCap need b s) = over_the_cap need b s
of_answer base v (Answer.Refused r) = refused r.0

unfoldable pub of_floats : Float → FloatAnswer → Reply
of_floats base f = of_answer base f.vector f.answer

unfoldable pub reckoned_from : Result (Model × ℤ) Refusal → Float → Reply
reckoned_from (Ok (m, q)) tau = of_floats m.base (float_entry m.k m.base (input_of m tau) q)
reckoned_from (Err r) tau = refused r.0

-- a plan ends no run with a vector: the second clause is never met
unfoldable pub of_turn : Fixed → Turn → Reply
of_turn p (going g) = planned (norm p g.left g.right) g.steps g.dt
of_turn p (ended (vector w o s)) = passes
of_turn p (ended (over_cap need b)) = over_the_cap need b (cap - b)
of_turn p (ended (failed s)) = refused numerical

abbrev input : Float → Float → Float → ℕ → Float → RunInput
input alpha beta eta bound tau = record { alpha = alpha; beta = beta; eta = eta; bound = bound; tau = tau }

unfoldable pub reply : Question → Reply
reply (config c) = of_config (new_config c.config)
reply (model c) = of_model (new_model c.mid c.holding c.config c.volatility)
reply (exact c) = of_exact (exact_quotes c.mid c.holding c.config c.volatility c.current)
reply (optimal c) = of_optimal (optimal_quotes c.mid c.holding c.config c.volatility c.current)
reply (closed c) = of_closed (closed_form_quotes c.mid c.holding c.config c.volatility)
reply (reckoning c) = reckoned_from (new_model c.mid c.holding c.config c.volatility) (tau_of c.config.terminal_time c.current)
reply (floats k alpha beta eta base bound tau q) = of_floats base (float_entry k base (input alpha beta eta bound tau) q)
reply (plan alpha beta eta bound tau) = let p = fixed (input alpha beta eta bound tau) in of_turn p (first_turn p tau)

-- ---- the table
infix 70 ◌⇒◌
abbrev pub Row : Type 0
Row = Question × Reply

abbrev pub ◌⇒◌ : Question → Reply → Row
q ⇒ r = (q, r)

-- one reply to several questions about a case
abbrev pub ask : List (Case → Question) → Case → Reply → List Row
ask qs c r = map (λ q. q c ⇒ r) qs

-- the entries that look at the configuration, at the mid and the holding too, and that end in exact quotes; and the two that say whether the numbers pass
abbrev pub entries : List (Case → Question)
entries = config ∷ model ∷ exact ∷ optimal ∷ closed ∷ []

abbrev pub calls : List (Case → Question)
calls = model ∷ exact ∷ optimal ∷ closed ∷ []

abbrev pub exacts : List (Case → Question)
exacts = exact ∷ optimal ∷ []

abbrev pub checks : List (Case → Question)
checks = config ∷ model ∷ []

-- the amount limit, and one more
abbrev pub most : ℤ
most = pos 9_000_000_000_000_000

abbrev pub over : ℤ
over = pos 9_000_000_000_000_001

-- glft.rs, configuration. A holding at the limit passes this check, and is then too many lots.
unfoldable pub configuration_cases : List Row
configuration_cases =
    ask entries (with_bound 0) (refused 1)
    ++ ask checks (with_bound 200) passes
    ++ ask entries (with_bound 201) (refused 1)
    ++ ask entries (with_terminal 0) (refused 1)
    ++ ask entries (with_spread (neg_ℤ (pos 1))) (refused 1)
    ++ ask calls (with_mid (units 0)) (refused 3)
    ++ ask (model ∷ []) (with_mid most) passes
    ++ ask (model ∷ []) (with_holding most) (refused 4)
    ++ ask (model ∷ []) (with_volatility most) passes
    ++ ask checks (with_risk most) passes
    ++ ask checks (with_k most) passes
    ++ ask checks (with_a most) passes
    ++ ask checks (with_lot most) passes
    ++ ask checks (with_spread most) passes
    ++ ask calls (with_mid over) (refused 2)
    ++ ask calls (with_holding over) (refused 2)
    ++ ask calls (with_holding (neg_ℤ over)) (refused 2)
    ++ ask calls (with_volatility over) (refused 2)
    ++ ask entries (with_risk over) (refused 2)
    ++ ask entries (with_k over) (refused 2)
    ++ ask entries (with_a over) (refused 2)
    ++ ask entries (with_lot over) (refused 2)
    ++ ask entries (with_spread over) (refused 2)

-- a price by its billionths, and none
abbrev pub price : ℕ → Option ℤ
price n = Some (pos n)

abbrev pub no_price : Option ℤ
no_price = None

-- glft.rs, holding
unfoldable pub holding_cases : List Row
holding_cases =
    ask calls (with_holding (pos 1_500_000_000)) (refused 4)
    ++ ask calls (with_holding (units 2)) (refused 4)
    ++ ask exacts (with_holding (units 1)) (quotes no_price (price 100_693_147_181) 0)
    ++ ask exacts (with_holding (neg_ℤ (units 1))) (quotes (price 99_306_852_819) no_price 0)

-- n weights of 1.0 and n offsets of 0.0 in arrays of 401, and 0 steps
abbrev pub at_end : ℕ → Float → Option Float → Option Float → Reply
at_end n base bid ask = reckoned (fill n 1ᶠ ++ fill (401 - n) 0ᶠ) (fill 401 0ᶠ) n 0 base bid ask

abbrev pub by : Float → Option Float
by d = Some d

abbrev pub no_side : Option Float
no_side = None

-- glft.rs, value vector. The current time at the terminal time and past it, or tau not above zero: for every model and holding this is AtTheEnd, among the
-- promises of `distances`. The default's base distance is LN2. A tau of 5500 has no mark, and stands beside the tau that is over the cap.
unfoldable pub vector_cases : List Row
vector_cases =
    reckoning default ⇒ at_end 3 LN2 (by LN2) (by LN2)
    ∷ reckoning (with_current 1001) ⇒ at_end 3 LN2 (by LN2) (by LN2)
    ∷ reckoning (with_current 9_000_000_000_000_000) ⇒ at_end 3 LN2 (by LN2) (by LN2)
    ∷ reckoning (with_terminal 1) ⇒ at_end 3 LN2 (by LN2) (by LN2)
    ∷ reckoning (with_holding (units 1)) ⇒ at_end 3 LN2 no_side (by LN2)
    ∷ reckoning (with_holding (neg_ℤ (units 1))) ⇒ at_end 3 LN2 (by LN2) no_side
    ∷ reckoning (with_bound 2) ⇒ at_end 5 LN2 (by LN2) (by LN2)
    ∷ reckoning (with_bound 200) ⇒ at_end 401 LN2 (by LN2) (by LN2)
    ∷ floats 1ᶠ 1ᶠ 0ᶠ 1ᶠ ½ᶠ 1 0ᶠ (pos 0) ⇒ at_end 3 ½ᶠ (by ½ᶠ) (by ½ᶠ)
    ∷ floats 1ᶠ 1ᶠ 0ᶠ 1ᶠ ½ᶠ 1 (whole (neg_ℤ (pos 1))) (pos 1) ⇒ at_end 3 ½ᶠ no_side (by ½ᶠ)
    ∷ floats 2ᶠ 1ᶠ 0ᶠ 1ᶠ 1ᶠ 200 0ᶠ (neg_ℤ (pos 200)) ⇒ at_end 401 1ᶠ (by 1ᶠ) no_side
    ∷ plan 1ᶠ 0ᶠ 1ᶠ 1 1ᶠ ⇒ planned (whole (pos 4)) 2 ½ᶠ
    ∷ plan 1ᶠ 0ᶠ 1ᶠ 1 (whole (pos 5500)) ⇒ planned (whole (pos 4)) 11_000 ½ᶠ
    ∷ plan 1ᶠ 0ᶠ 1ᶠ 1 (whole (pos 5500) ⊕ ½ᶠ) ⇒ over_the_cap (whole (pos 11_001)) 11_000 0
    ∷ floats 1ᶠ 1ᶠ 0ᶠ 1ᶠ 1ᶠ 1 (whole (pos 5500) ⊕ ½ᶠ) (pos 0) ⇒ over_the_cap (whole (pos 11_001)) 11_000 0
    ∷ []

-- glft.rs, quotes
unfoldable pub quote_cases : List Row
quote_cases =
    ask exacts default (quotes (price 99_306_852_819) (price 100_693_147_181) 0)
    ++ ask exacts (with_spread (units 2)) (quotes (price 99_000_000_000) (price 101_000_000_000) 0)

-- change request 7. A drift passes, but in a closed-form call, and at the end it moves no quote. Beta not finite is 5; where time is left, so large that the diagonal is not finite, it is 11.
abbrev pub largest : Float
largest = hex 0x7FEFFFFFFFFFFFFF

unfoldable pub drift_cases : List Row
drift_cases =
    ask checks (with_drift most) passes
    ++ ask checks (with_drift (neg_ℤ most)) passes
    ++ ask entries (with_drift over) (refused 2)
    ++ ask entries (with_drift (neg_ℤ over)) (refused 2)
    ++ ask exacts (with_drift (units 1)) (quotes (price 99_306_852_819) (price 100_693_147_181) 0)
    ++ ask (closed ∷ []) (with_drift (pos 1)) (refused 22)
    ++ ask (closed ∷ []) (with_drift (neg_ℤ most)) (refused 22)
    ++ (floats 1ᶠ 1ᶠ (hex 0x7FF0000000000000) 1ᶠ ½ᶠ 1 0ᶠ (pos 0) ⇒ refused 5
    ∷ floats 1ᶠ 1ᶠ largest 1ᶠ ½ᶠ 2 0ᶠ (pos 0) ⇒ at_end 5 ½ᶠ (by ½ᶠ) (by ½ᶠ)
    ∷ floats 1ᶠ 1ᶠ largest 1ᶠ ½ᶠ 2 1ᶠ (pos 0) ⇒ refused 11
    ∷ plan 1ᶠ 2ᶠ 1ᶠ 1 2ᶠ ⇒ planned (whole (pos 6)) 6 (2ᶠ ⊘ whole (pos 6))
    ∷ plan 1ᶠ (whole (neg_ℤ (pos 2))) 1ᶠ 1 2ᶠ ⇒ planned (whole (pos 6)) 6 (2ᶠ ⊘ whole (pos 6))
    ∷ [])

unfoldable pub table : List Row
table = configuration_cases ++ holding_cases ++ vector_cases ++ quote_cases ++ drift_cases

-- each reply is what the definitions give
abbrev pub Cases : Type 0
Cases = map (λ r. reply r.0) table ≡ map (λ r. r.1) table
