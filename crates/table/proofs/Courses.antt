-- How a call goes, one of four ways: refused by the table's checks, refused by those of `exact_quotes`, from a row that agrees, or from a vector that is made. Assumes nothing.
use Rattle.std.specs.Prelude.{Option, Some, None, Ok, Result}
use mathlib.Core.Path.{◌≡◌, refl}
use Prim.Native.Nat.{ℕ}
use mathlib.Core.List.{List}
use lib.IntN.{ℤ}
use lib.Ieee.Bits.{is_true}
use Rattle.elementary.specs.Checks.{Verdict, passes, refused, first_failing, Refuses, Passes, by}
use Rattle.elementary.proofs.Checks.{first_failing_lem, none_failing}
use Rattle.plan.specs.declared.RunInput.{RunInput}
use Rattle.vector.specs.Values.{value_vector}
use Rattle.distances.specs.Reading.{answer_from}
use Rattle.distances.proofs.Reading.{entry_reads}
use Rattle.distances.specs.declared.Answer.{Answer}
use Rattle.amounts.specs.Amounts.{amount_ok, tau_of}
use Rattle.model.specs.Model.{lots, model_of, model_from, model_by, exact_checks, exact_model}
use Rattle.model.specs.declared.GLFTConfig.{GLFTConfig}
use Rattle.model.proofs.Passed.{Made, stopped, passed, made as made_by, exact_passed, bound_passed, lots_passed, tau_passed, floats_passed, goes_on, exact_amounts}
use Rattle.quote.specs.Quotes.{exact_from, exact_answer, exact_by, exact_quotes, from_if, quotes_by_answer}
use Rattle.quote.specs.declared.ExactQuotes.{ExactQuotes}
use Rattle.table.specs.Table.{table_checks, found, vector_in, kept_in, Used, answer_with, used_with, used_if, answer_if, table_used, table_answer}
use Rattle.table.specs.Promises.{input_for, row_answer}
use Rattle.model.specs.declared.Model.{Model}
use Rattle.elementary.specs.declared.Refusal.{Refusal}

module _ (t : List ℕ) (mid h : ℤ) (c : GLFTConfig) (vol : ℤ) (now : ℕ) where
  abbrev x : RunInput
  x = input_for c vol now

  abbrev least : ℤ
  least = c.min_spread

  -- ---- where the call's numbers pass, the answer of `exact_quotes` before prices is read from the value vector
  pub read_exact : Passes (exact_checks mid h c vol now) → exact_answer mid h c vol now ≡ answer_from (value_vector x) (model_of c vol).k (model_of c vol).base (lots h c)
  unfolding exact_answer exact_from exact_model model_of model_from model_by
  read_exact k =
      let m = model_of c vol in
      let p = exact_passed mid h c vol now k in
      rw (goes_on m (lots h c) k) (entry_reads m.k m.base x (lots h c) (floats_passed m (tau_of c.terminal_time now) p.4 (tau_passed mid h c vol now p.0)) (bound_passed c p.1) (lots_passed h c p.3))

  -- and the limits of 2 are kept
  priced : Passes (exact_checks mid h c vol now) → (r : Answer) → quotes_by_answer mid least r ≡ exact_by mid least r
  unfolding quotes_by_answer from_if exact_model
  priced k r =
      let a = exact_amounts mid h c vol now (model_of c vol) (lots h c) (goes_on (model_of c vol) (lots h c) k) in
      rw (is_true (amount_ok mid) a.0, is_true (amount_ok least) a.1)

  -- ---- the four ways, with the reply, the table after it, and the answer before prices
  pub data Course : Used → Answer → Type 0 where
    table_refused : {n : ℕ} → Refuses (table_checks t) n → Course (record { reply = ExactQuotes.Refused (by n); table = t }) (Answer.Refused (by n))
    checks_refused : {n : ℕ} → Passes (table_checks t) → Refuses (exact_checks mid h c vol now) n → Course (record { reply = ExactQuotes.Refused (by n); table = t }) (Answer.Refused (by n))
    taken : (r : ℕ) → Passes (table_checks t) → Passes (exact_checks mid h c vol now) → found t x ≡ Some r
        → Course (record { reply = exact_by mid least (row_answer t r h c vol); table = t }) (row_answer t r h c vol)
    made : Passes (table_checks t) → Passes (exact_checks mid h c vol now) → found t x ≡ None
        → Course (record { reply = exact_quotes mid h c vol now; table = kept_in None (exact_quotes mid h c vol now) x (value_vector x).vector t }) (exact_answer mid h c vol now)

  by_found : Passes (table_checks t) → Passes (exact_checks mid h c vol now) → (f : Option ℕ) → found t x ≡ f
      → Course (used_with (Ok (model_of c vol, lots h c)) mid least (tau_of c.terminal_time now) t) (answer_with (Ok (model_of c vol, lots h c)) (tau_of c.terminal_time now) t)
  unfolding used_with answer_with vector_in kept_in exact_quotes
  by_found p k (Some r) e = rw (e, priced k (row_answer t r h c vol)) (taken r p k e)
  by_found p k None e = rw (e, ← (read_exact k), priced k (exact_answer mid h c vol now)) (made p k e)

  by_model : Passes (table_checks t) → {a : Result (Model × ℤ) Refusal} → Made (exact_checks mid h c vol now) (model_of c vol) (lots h c) a
      → Course (used_with a mid least (tau_of c.terminal_time now) t) (answer_with a (tau_of c.terminal_time now) t)
  unfolding used_with answer_with
  by_model p (stopped k) = checks_refused p k
  by_model p (passed k) = by_found p k (found t x) refl

  by_checks : (v : Verdict) → first_failing (table_checks t) ≡ v
      → Course (used_if v t (used_with (exact_model mid h c vol now) mid least (tau_of c.terminal_time now) t)) (answer_if v (answer_with (exact_model mid h c vol now) (tau_of c.terminal_time now) t))
  unfolding used_if answer_if exact_model
  by_checks passes e = by_model ((none_failing (table_checks t)).0 e) (made_by _ _ _)
  by_checks (refused n) e = table_refused ((first_failing_lem (table_checks t) n).0 e)

  pub course : Course (table_used t mid h c vol now) (table_answer t mid h c vol now)
  unfolding table_used table_answer
  course = by_checks (first_failing (table_checks t)) refl
