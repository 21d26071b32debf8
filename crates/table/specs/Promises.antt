-- Change request 8, as named statements. Each is proved once, in proofs/. Definitions only.
use Rattle.std.specs.Prelude.{◌≡◌, ◌⊎◌, ◌↔◌, ◌≢◌, ℕ, suc, ◌+◌, ◌*◌, ◌-◌, ◌%◌, ◌<◌, ◌≤◌, min, List, [], ◌∷◌, ◌++◌, length, ℤ, neg_ℤ, Option, Some, None, Err}
use Rattle.elementary.specs.Checks.{Refuses, Passes, by}
use Rattle.operator.specs.Vectors.{at}
use Rattle.plan.specs.Plan.{cap, room, largest_bound}
use Rattle.plan.specs.declared.RunInput.{RunInput}
use Rattle.vector.specs.Refusals.{numerical}
use Rattle.vector.specs.Values.{value_vector}
use Rattle.vector.specs.declared.ValueVector.{ValueVector}
use Rattle.distances.specs.Distances.{place}
use Rattle.distances.specs.Reading.{answer_from}
use Rattle.distances.specs.Refusing.{ReadFails}
use Rattle.distances.specs.Promises.{exchanged}
use Rattle.distances.specs.declared.Answer.{Answer}
use Rattle.amounts.specs.Amounts.{tau_of}
use Rattle.model.specs.Configuration.{turned}
use Rattle.model.specs.Model.{lots, model_of, input_of, exact_checks}
use Rattle.model.specs.declared.GLFTConfig.{GLFTConfig}
use Rattle.prices.specs.Facing.{Pair}
use Rattle.prices.specs.declared.GlftQuotes.{GlftQuotes}
use Rattle.quote.specs.Quotes.{exact_by, exact_quotes, exact_steps}
use Rattle.quote.specs.Promises.{PricedOf}
use Rattle.quote.specs.declared.ExactQuotes.{ExactQuotes}
use Rattle.table.specs.Refusals.{small_table, bad_table}
use Rattle.table.specs.Places.{table_room, rows_kept, filled_at, next_at, row_size, row_at, steps_at, length_at, bound_at, alpha_at, beta_at, eta_at, tau_at, weight_at, offset_at}
use Rattle.table.specs.Table.{number, filled, next, row_vector, bits, found, table_used, table_answer, cleared_by, cleared}

-- ---- the calls of both desks, in any order, clearing among them; each has its own numbers
pub data Call : Type 0 where
  clear : Call
  quote : ℤ → ℤ → GLFTConfig → ℤ → ℕ → Call

-- the table after a call, and after a list of them
unfoldable pub after_call : Call → List ℕ → List ℕ
after_call clear t = cleared t
after_call (quote mid h c vol now) t = (table_used t mid h c vol now).table

unfoldable pub after_all : List Call → List ℕ → List ℕ
after_all [] t = t
after_all (k ∷ l) t = after_all l (after_call k t)

-- the replies to the quotes that are asked for, with the table and without one
unfoldable pub replies : List Call → List ℕ → List ExactQuotes
replies [] t = []
replies (clear ∷ l) t = replies l (cleared t)
replies (quote mid h c vol now ∷ l) t = (table_used t mid h c vol now).reply ∷ replies l (table_used t mid h c vol now).table

unfoldable pub alone : List Call → List ExactQuotes
alone [] = []
alone (clear ∷ l) = alone l
alone (quote mid h c vol now ∷ l) = exact_quotes mid h c vol now ∷ alone l

-- ==== from a cleared table, every answer is the one of `exact_quotes` for the call's own numbers, steps included
abbrev pub TableAnswers : Type 0
TableAnswers = (t : List ℕ) → table_room ≤ length t → (l : List Call) → replies l (cleared t) ≡ alone l

-- ==== a row that agrees is taken as it stands
-- what a call's vector is made from
abbrev pub input_for : GLFTConfig → ℤ → ℕ → RunInput
input_for c vol now = input_of (model_of c vol) (tau_of c.terminal_time now)

-- row r has this bound, and these floats bit for bit
pub record Same (t : List ℕ) (x : RunInput) (r : ℕ) : Type 0 where
  pub bound : number t (bound_at r) ≡ x.bound
  pub alpha : number t (alpha_at r) ≡ bits x.alpha
  pub beta : number t (beta_at r) ≡ bits x.beta
  pub eta : number t (eta_at r) ≡ bits x.eta
  pub tau : number t (tau_at r) ≡ bits x.tau

-- the first filled row that agrees, by its place; and no filled row does
pub record First (t : List ℕ) (x : RunInput) (r : ℕ) : Type 0 where
  pub row : r < filled t
  pub same : Same t x r
  pub before : (i : ℕ) → i < r → Same t x i → ⊥

abbrev pub NoneAgrees : List ℕ → RunInput → Type 0
NoneAgrees t x = (i : ℕ) → i < filled t → Same t x i → ⊥

-- what 24 names, in its words; of the rows, the filled ones alone
pub data Fails (t : List ℕ) : Type 0 where
  many_filled : rows_kept < filled t → Fails t
  far_next : 3 < next t → Fails t
  next_not_count : filled t < rows_kept → next t ≢ filled t → Fails t
  many_steps : (r : ℕ) → r < filled t → cap < number t (steps_at r) → Fails t
  no_bound : (r : ℕ) → r < filled t → number t (bound_at r) ≡ 0 → Fails t
  large_bound : (r : ℕ) → r < filled t → largest_bound < number t (bound_at r) → Fails t
  other_length : (r : ℕ) → r < filled t → number t (length_at r) ≢ 2 * number t (bound_at r) + 1 → Fails t

-- a table that passes, got in whatever way
abbrev pub Passing : List ℕ → Type 0
Passing t = (table_room ≤ length t) × (Fails t → ⊥)

-- the answer before prices that row r gives a call, as the row stands
abbrev pub row_answer : List ℕ → ℕ → ℤ → GLFTConfig → ℤ → Answer
row_answer t r h c vol = answer_from (row_vector t r) (model_of c vol).k (model_of c vol).base (lots h c)

pub record TableTaken : Type 0 where
  -- the quotes are those of the row's weights and offsets
  pub quotes : (t : List ℕ) (mid h : ℤ) (c : GLFTConfig) (vol : ℤ) (now r : ℕ) → Passing t → Passes (exact_checks mid h c vol now) → First t (input_for c vol now) r
      → (table_used t mid h c vol now).reply ≡ exact_by mid c.min_spread (row_answer t r h c vol)
  -- with the row's steps
  pub steps : (t : List ℕ) (mid h : ℤ) (c : GLFTConfig) (vol : ℤ) (now r : ℕ) (q : GlftQuotes) (s : ℕ) → First t (input_for c vol now) r
      → (table_used t mid h c vol now).reply ≡ ExactQuotes.Quotes q s → s ≡ number t (steps_at r)

-- ==== which calls change nothing, on any table at all
pub record TableUnchanged : Type 0 where
  -- one that ends in a cap report or a refusal
  pub no_quotes : (t : List ℕ) (mid h : ℤ) (c : GLFTConfig) (vol : ℤ) (now : ℕ)
      → ((q : GlftQuotes) (s : ℕ) → (table_used t mid h c vol now).reply ≡ ExactQuotes.Quotes q s → ⊥) → (table_used t mid h c vol now).table ≡ t
  -- one that reuses a row
  pub reuse : (t : List ℕ) (mid h : ℤ) (c : GLFTConfig) (vol : ℤ) (now r : ℕ) → First t (input_for c vol now) r → (table_used t mid h c vol now).table ≡ t
  -- clearing, where it is refused
  pub not_cleared : (t : List ℕ) → length t < table_room → cleared t ≡ t

-- ==== what a call that adds a row changes, and nothing else
-- row r holds a vector, with its steps and what it was made from
pub record RowHolds (t : List ℕ) (r : ℕ) (x : RunInput) (s : ℕ) (v : ValueVector) : Type 0 where
  pub steps : number t (steps_at r) ≡ s
  pub size : number t (length_at r) ≡ v.n
  pub same : Same t x r
  pub weights : (i : ℕ) → i < room → number t (weight_at r i) ≡ bits (at v.w i)
  pub offsets : (i : ℕ) → i < room → number t (offset_at r i) ≡ bits (at v.log_offset i)

-- u is t with one row more
pub record Added (t u : List ℕ) (x : RunInput) (s : ℕ) (v : ValueVector) : Type 0 where
  pub filled_rows : filled u ≡ min rows_kept (suc (filled t))
  pub next_row : next u ≡ suc (next t) % rows_kept
  pub row : RowHolds u (next t) x s v
  pub others : (i : ℕ) → i ≢ filled_at → i ≢ next_at → (i < row_at (next t)) ⊎ (row_at (next t) + row_size ≤ i) → number u i ≡ number t i
  pub same_length : length u ≡ length t

-- ---- the rows are taken in turn, the oldest going first
-- what a call adds: its own input, where no row agrees and it ends in quotes
unfoldable pub adds_by : Option ℕ → ExactQuotes → RunInput → List RunInput
adds_by (Some r) e x = []
adds_by None (ExactQuotes.Quotes q s) x = x ∷ []
adds_by None (ExactQuotes.OverStepCap need b s) x = []
adds_by None (ExactQuotes.Refused n) x = []

abbrev pub adds : List ℕ → ℤ → ℤ → GLFTConfig → ℤ → ℕ → List RunInput
adds t mid h c vol now = adds_by (found t (input_for c vol now)) (table_used t mid h c vol now).reply (input_for c vol now)

-- what the calls of a list add since the last clearing, the newest first, in front of what was added before them
unfoldable pub history : List Call → List ℕ → List RunInput → List RunInput
history [] t l = l
history (clear ∷ k) t l = history k (cleared t) []
history (quote mid h c vol now ∷ k) t l = history k (table_used t mid h c vol now).table (adds t mid h c vol now ++ l)

-- row r is the value vector of an input
abbrev pub MadeFrom : List ℕ → ℕ → RunInput → Type 0
MadeFrom t r x = Same t x r × (row_vector t r ≡ value_vector x)

-- place i of a list
pub data At (x : RunInput) : List RunInput → ℕ → Type 0 where
  head : {l : List RunInput} → At x (x ∷ l) 0
  tail : {y : RunInput} {l : List RunInput} {i : ℕ} → At x l i → At x (y ∷ l) (suc i)

-- of n added, the i-th newest of the last four is in row (n - 1 - i) mod 4: so the n-th goes where the (n - 4)-th, the oldest, was
pub record InTurn (t : List ℕ) (l : List RunInput) : Type 0 where
  pub count : filled t ≡ min rows_kept (length l)
  pub turn : next t ≡ length l % rows_kept
  pub row : (i : ℕ) (x : RunInput) → i < rows_kept → At x l i → MadeFrom t ((length l - suc i) % rows_kept) x

pub record RowsInTurn : Type 0 where
  pub added : (t : List ℕ) (mid h : ℤ) (c : GLFTConfig) (vol : ℤ) (now : ℕ) (q : GlftQuotes) (s : ℕ) → NoneAgrees t (input_for c vol now)
      → (table_used t mid h c vol now).reply ≡ ExactQuotes.Quotes q s
      → Added t (table_used t mid h c vol now).table (input_for c vol now) s (value_vector (input_for c vol now)).vector
  pub in_turn : (t : List ℕ) → table_room ≤ length t → (l : List Call) → InTurn (after_all l (cleared t)) (history l (cleared t) [])

-- ==== each refusal is the reply in just the situation that the change request names
-- after the checks: 11, 13 and 14 from the row that is taken, or those of `exact_quotes` where none agrees
pub data LaterRefused (t : List ℕ) (mid h : ℤ) (c : GLFTConfig) (vol : ℤ) (now n : ℕ) : Type 0 where
  row_read : (r : ℕ) → First t (input_for c vol now) r → n ≡ numerical → ReadFails (row_vector t r).vector (model_of c vol).k (model_of c vol).base (place c.max_inventory_lots (lots h c))
      → LaterRefused t mid h c vol now n
  row_priced : (r : ℕ) → First t (input_for c vol now) r → PricedOf mid c.min_spread (row_answer t r h c vol) n → LaterRefused t mid h c vol now n
  made : NoneAgrees t (input_for c vol now) → exact_quotes mid h c vol now ≡ ExactQuotes.Refused (by n) → LaterRefused t mid h c vol now n

pub record TableRefusals : Type 0 where
  pub small : (t : List ℕ) (mid h : ℤ) (c : GLFTConfig) (vol : ℤ) (now : ℕ) → ((table_used t mid h c vol now).reply ≡ ExactQuotes.Refused (by small_table)) ↔ (length t < table_room)
  pub bad : (t : List ℕ) (mid h : ℤ) (c : GLFTConfig) (vol : ℤ) (now : ℕ)
      → ((table_used t mid h c vol now).reply ≡ ExactQuotes.Refused (by bad_table)) ↔ ((table_room ≤ length t) × Fails t)
  -- on a table that passes: the checks of `exact_quotes`, and then the vector's and the prices'
  pub others : (t : List ℕ) (mid h : ℤ) (c : GLFTConfig) (vol : ℤ) (now n : ℕ) → Passing t
      → ((table_used t mid h c vol now).reply ≡ ExactQuotes.Refused (by n))
      ↔ (Refuses (exact_checks mid h c vol now) n ⊎ (Passes (exact_checks mid h c vol now) × LaterRefused t mid h c vol now n))
  -- clearing knows 23 alone
  pub clearing : (t : List ℕ) (n : ℕ) → (cleared_by t ≡ Err (by n)) ↔ ((n ≡ small_table) × (length t < table_room))

-- ==== clearing: every number is 0, and there are as many
pub record TableCleared : Type 0 where
  pub zeros : (t : List ℕ) → table_room ≤ length t → (i : ℕ) → number (cleared t) i ≡ 0
  pub same_length : (t : List ℕ) → length (cleared t) ≡ length t

-- ==== the reply is the answer before prices, priced
abbrev pub TablePriced : Type 0
TablePriced = (t : List ℕ) (mid h : ℤ) (c : GLFTConfig) (vol : ℤ) (now : ℕ) → (table_used t mid h c vol now).reply ≡ exact_by mid c.min_spread (table_answer t mid h c vol now)

-- ==== demand 3, for two calls anywhere in such lists, from cleared tables: before prices the same report or refusal, or the distances exchanged; where both
-- end in quotes their prices face each other, and their steps are those of the defined run
abbrev pub TableMirror : Type 0
TableMirror = (t t' : List ℕ) → table_room ≤ length t → table_room ≤ length t' → (l l' : List Call) (mid h : ℤ) (c : GLFTConfig) (vol : ℤ) (now : ℕ)
    → let u = after_all l (cleared t) in let u' = after_all l' (cleared t') in
    (table_answer u' mid (neg_ℤ h) (turned c) vol now ≡ exchanged (table_answer u mid h c vol now))
    × ((q q' : GlftQuotes) (s s' : ℕ) → (table_used u mid h c vol now).reply ≡ ExactQuotes.Quotes q s → (table_used u' mid (neg_ℤ h) (turned c) vol now).reply ≡ ExactQuotes.Quotes q' s'
    → Pair mid q q' × (s ≡ s') × (s ≡ exact_steps mid h c vol now))
