-- Change request 8: a table of value vectors, which two desks share. Definitions only.
use Rattle.std.specs.Prelude.{ℕ, zero, suc, ◌+◌, ◌%◌, min, Bool, ◌&&◌, ◌||◌, cond, List, [], ◌∷◌, ◌++◌, map, length, get_or, set, take, drop, replicate, ℤ, leb, eqb, Float, Option, Some, None, Result, Ok, Err}
use Rattle.std.specs.Float.{binary64}
use Rattle.std.specs.Float.Ieee.{to_bits}
use Rattle.elementary.specs.Float.{hex}
use Rattle.elementary.specs.Checks.{Verdict, passes, refused, first_failing, check_of, by}
use Rattle.operator.specs.Vectors.{tab, every}
use Rattle.operator.specs.Operator.{rows}
use Rattle.plan.specs.Plan.{cap, room, bound_ok}
use Rattle.plan.specs.declared.RunInput.{RunInput}
use Rattle.vector.specs.Values.{value_vector}
use Rattle.vector.specs.declared.ValueVector.{ValueVector}
use Rattle.vector.specs.declared.Outcome.TheVariants as Outcome
use Rattle.vector.specs.declared.VectorAnswer.{VectorAnswer}
use Rattle.distances.specs.Distances.{lent}
use Rattle.distances.specs.Reading.{answer_from}
use Rattle.distances.specs.declared.Answer.{Answer}
use Rattle.amounts.specs.Amounts.{tau_of}
use Rattle.model.specs.Model.{input_of, exact_model}
use Rattle.model.specs.declared.GLFTConfig.{GLFTConfig}
use Rattle.quote.specs.Quotes.{quotes_by_answer}
use Rattle.quote.specs.declared.ExactQuotes.{ExactQuotes}
use Rattle.table.specs.Refusals.{small_table, bad_table}
use Rattle.table.specs.Places.{table_room, rows_kept, filled_at, next_at, row_at, steps_at, length_at, bound_at, alpha_at, beta_at, eta_at, tau_at, weight_at, offset_at}
use Rattle.elementary.specs.declared.Refusal.{Refusal}
use Rattle.model.specs.declared.Model.{Model}

-- ---- what a table holds
abbrev pub number : List ℕ → ℕ → ℕ
number t i = get_or t i 0

abbrev pub filled : List ℕ → ℕ
filled t = number t filled_at

abbrev pub next : List ℕ → ℕ
next t = number t next_at

-- a row's vector, as it stands, with its steps
unfoldable pub row_vector : List ℕ → ℕ → VectorAnswer
row_vector t r =
    record {
      outcome = Outcome.Done (number t (steps_at r));
      vector = lent (number t (length_at r)) (tab room (λ i. hex (number t (weight_at r i)))) (tab room (λ i. hex (number t (offset_at r i))));
    }

-- ---- the checks, in order: 23, and then 24, which looks at the filled rows alone, and at no float
-- no more than four filled rows; a next row of 0 to 3, and with fewer than four filled just their count
unfoldable pub counts_ok : ℕ → ℕ → Bool
counts_ok f n = leb f rows_kept && (leb n 3 && (leb rows_kept f || eqb n f))

-- no more than 11,000 steps, and a length of 2 × bound + 1 for a bound of 1 to 200
unfoldable pub row_ok : List ℕ → ℕ → Bool
row_ok t r = leb (number t (steps_at r)) cap && (bound_ok (number t (bound_at r)) && eqb (number t (length_at r)) (rows (number t (bound_at r))))

-- of a table, the two counts and each filled row
unfoldable pub table_ok : List ℕ → Bool
table_ok t = counts_ok (filled t) (next t) && every (filled t) (row_ok t)

abbrev pub room_checks : List ℕ → List (Bool × ℕ)
room_checks t = (leb table_room (length t), small_table) ∷ []

abbrev pub table_checks : List ℕ → List (Bool × ℕ)
table_checks t = room_checks t ++ (table_ok t, bad_table) ∷ []

-- ---- a row agrees with what a vector is made from: the bound, and four floats bit for bit
abbrev pub bits : Float → ℕ
bits x = to_bits binary64 x

unfoldable pub agrees : List ℕ → RunInput → ℕ → Bool
agrees t x r =
    eqb (number t (bound_at r)) x.bound && eqb (number t (alpha_at r)) (bits x.alpha) && eqb (number t (beta_at r)) (bits x.beta) && eqb (number t (eta_at r)) (bits x.eta)
    && eqb (number t (tau_at r)) (bits x.tau)

-- the first of n rows, from row r on, of which p holds
unfoldable pub first_from : ℕ → ℕ → (ℕ → Bool) → Option ℕ
first_from r zero p = None
first_from r (suc n) p = cond (p r) (Some r) (first_from (suc r) n p)

-- of the filled rows the first that agrees
abbrev pub found : List ℕ → RunInput → Option ℕ
found t x = first_from 0 (filled t) (agrees t x)

-- ---- a new row takes the place of the oldest: the rows are taken in turn
-- a list with u from place i on; its other numbers stay
unfoldable pub put_at : ℕ → List ℕ → List ℕ → List ℕ
put_at i u t = take i t ++ (u ++ drop (i + length u) t)

-- a row's numbers, from its first
unfoldable pub row_numbers : RunInput → ℕ → ValueVector → List ℕ
row_numbers x s v = (s ∷ v.n ∷ x.bound ∷ bits x.alpha ∷ bits x.beta ∷ bits x.eta ∷ bits x.tau ∷ []) ++ (map bits v.w ++ map bits v.log_offset)

-- in the next row; then one row more is filled, of four at the most, and the row after it is the next, the first after the last
unfoldable pub with_row : RunInput → ℕ → ValueVector → List ℕ → List ℕ
with_row x s v t = put_at (row_at (next t)) (row_numbers x s v) (set (set t filled_at (min rows_kept (suc (filled t)))) next_at (suc (next t) % rows_kept))

-- ---- a call
-- its vector: the row that was found, as it stands, or the one that is made
unfoldable pub vector_in : Option ℕ → List ℕ → RunInput → VectorAnswer
vector_in (Some r) t x = row_vector t r
vector_in None t x = value_vector x

-- the table after it: a vector that was made is kept where the call ends in quotes
unfoldable pub kept_in : Option ℕ → ExactQuotes → RunInput → ValueVector → List ℕ → List ℕ
kept_in (Some r) e x v t = t
kept_in None (ExactQuotes.Quotes q s) x v t = with_row x s v t
kept_in None (ExactQuotes.OverStepCap need b s) x v t = t
kept_in None (ExactQuotes.Refused n) x v t = t

-- the reply, and the table after it
pub record Used : Type 0 where
  pub reply : ExactQuotes
  pub table : List ℕ

-- by the model: from its vector, or refused by 2, 1, 3, 4 or 5
unfoldable pub used_with : Result (Model × ℤ) Refusal → ℤ → ℤ → Float → List ℕ → Used
used_with (Err n) mid least tau t = record { reply = ExactQuotes.Refused n; table = t }
used_with (Ok (m, q)) mid least tau t =
    let x = input_of m tau in
    let f = found t x in
    let a = vector_in f t x in
    let e = quotes_by_answer mid least (answer_from a m.k m.base q) in
    record { reply = e; table = kept_in f e x a.vector t }

-- by the table's checks, which come first
unfoldable pub used_if : Verdict → List ℕ → Used → Used
used_if passes t u = u
used_if (refused n) t u = record { reply = ExactQuotes.Refused (by n); table = t }

-- of a table, the mid, the holding, the configuration, the volatility and the current time
unfoldable pub table_used : List ℕ → ℤ → ℤ → GLFTConfig → ℤ → ℕ → Used
table_used t mid h c vol now = used_if (first_failing (table_checks t)) t (used_with (exact_model mid h c vol now) mid c.min_spread (tau_of c.terminal_time now) t)

-- the answer before prices, which the reply is made from
unfoldable pub answer_with : Result (Model × ℤ) Refusal → Float → List ℕ → Answer
answer_with (Err n) tau t = Answer.Refused n
answer_with (Ok (m, q)) tau t = let x = input_of m tau in answer_from (vector_in (found t x) t x) m.k m.base q

unfoldable pub answer_if : Verdict → Answer → Answer
answer_if passes a = a
answer_if (refused n) a = Answer.Refused (by n)

unfoldable pub table_answer : List ℕ → ℤ → ℤ → GLFTConfig → ℤ → ℕ → Answer
table_answer t mid h c vol now = answer_if (first_failing (table_checks t)) (answer_with (exact_model mid h c vol now) (tau_of c.terminal_time now) t)

-- ---- clearing, by 23 alone: every number is 0, those past the 4,096th too
unfoldable pub cleared_if : Verdict → List ℕ → List ℕ
cleared_if passes t = replicate (length t) 0
cleared_if (refused n) t = t

abbrev pub cleared_by : List ℕ → Result Unit Refusal
cleared_by t = check_of (first_failing (room_checks t))

abbrev pub cleared : List ℕ → List ℕ
cleared t = cleared_if (first_failing (room_checks t)) t
