-- A row whose arrays are lent, and a call by what its checks say, its model and the row that is found. Assumes nothing.
use Rattle.std.specs.Prelude.{Some, None, Result, Ok, Err}
use mathlib.Core.Path.{◌≡◌, sym, ap, ◌∙◌}
use Prim.Native.Nat.{ℕ, ◌+◌, ◌-◌, ◌≤◌}
use native.Mathlib.Omega.{arith}
use mathlib.Core.Bool.{true}
use mathlib.Core.List.{List}
use lib.ListN.{length, take, drop, length-map, length-drop}
use lib.Seq.{length-take-le, get_or-take, get_or-drop}
use lib.IntN.{ℤ}
use lib.Ieee.{Float}
use Rattle.elementary.specs.Float.{hex}
use Rattle.elementary.specs.Checks.{first_failing, check_of}
use Rattle.elementary.proofs.Checks.{check_passes, check_refused, none_failing}
use Rattle.operator.specs.Vectors.{at, tab}
use Rattle.operator.proofs.Lists.{tab_own, tab_ext}
use Rattle.plan.specs.Plan.{room}
use Rattle.plan.specs.declared.RunInput.{RunInput}
use Rattle.vector.specs.Values.{value_vector}
use Rattle.vector.specs.declared.Outcome.TheVariants as Outcome
use Rattle.distances.specs.Distances.{lent}
use Rattle.distances.specs.Reading.{floats, read_by, answer_from}
use Rattle.distances.proofs.Readable.{at_map}
use Rattle.amounts.specs.Amounts.{tau_of}
use Rattle.model.specs.Model.{input_of, exact_model}
use Rattle.model.specs.declared.GLFTConfig.{GLFTConfig}
use Rattle.model.specs.declared.Model.{Model}
use Rattle.quote.specs.Quotes.{quotes_by_answer}
use Rattle.quote.specs.declared.ExactQuotes.{ExactQuotes}
use Rattle.table.specs.Places.{table_room, row_at, steps_at, weight_at, offset_at}
use Rattle.table.specs.Table.{number, row_vector, row_ok, table_ok, table_checks, found, vector_in, kept_in, used_with, used_if, table_used}
use Rattle.table.proofs.Checked.{table_passed}
use Rattle.table.proofs.FirstRow.{found_row}
use Rattle.table.proofs.Sound.{checks_passed, long_passed}
use Rattle.elementary.specs.declared.Refusal.{Refusal}

-- ---- a part of a table, as floats
part_floats : (t : List ℕ) (a n : ℕ) → a + n ≤ length t → floats (take n (drop a t)) ≡ tab n (λ i. hex (number t (a + i)))
part_floats t a n h =
    let l = take n (drop a t) in
    let e : length l ≡ n = length-take-le n (drop a t) (rw (length-drop a t) (omega arith)) in
    tab_own n (floats l) (length-map l hex ∙ e)
    ∙ tab_ext n (at (floats l)) (λ i. hex (number t (a + i))) (λ i k. at_map hex l i 0 (omega (arith, e)) ∙ ap hex (get_or-take n (drop a t) i 0 k ∙ get_or-drop a t i 0))

-- a row from its first number on, its arrays lent
module _ (t : List ℕ) (r p : ℕ) (e : p ≡ row_at r) (long : table_room ≤ length t) (h : r ≤ 3) where
  weights_lent : floats (take (p + 408 - (p + 7)) (drop (p + 7) t)) ≡ tab room (λ i. hex (number t (weight_at r i)))
  weights_lent = let z : p + 408 - (p + 7) ≡ room = omega arith in rw (z, e) (part_floats t (row_at r + 7) room (omega arith))

  offsets_lent : floats (take (p + 809 - (p + 408)) (drop (p + 408) t)) ≡ tab room (λ i. hex (number t (offset_at r i)))
  offsets_lent = let z : p + 809 - (p + 408) ≡ room = omega arith in rw (z, e) (part_floats t (row_at r + 408) room (omega arith))

  pub first_is : number t (p + 0) ≡ number t (steps_at r)
  first_is = ap (number t) (omega (arith, e))

  pub row_read : (k base : Float) (q : ℤ)
      → read_by (Outcome.Done (number t (p + 0))) (lent (number t (p + 1)) (floats (take (p + 408 - (p + 7)) (drop (p + 7) t))) (floats (take (p + 809 - (p + 408)) (drop (p + 408) t)))) k base q
      ≡ answer_from (row_vector t r) k base q
  unfolding answer_from row_vector
  row_read k base q = rw (weights_lent, offsets_lent, first_is, e)

-- ---- a call
-- a table whose checks pass
pub ready : (t : List ℕ) → Ok tt ≡ check_of (first_failing (table_checks t)) → (table_room ≤ length t) × (table_ok t ≡ true)
ready t e =
    let p = (none_failing (table_checks t)).0 (check_passes (first_failing (table_checks t)) e) in
    (long_passed t p, checks_passed t p)

-- the row that is found is one of the four, and passes
pub row_ready : (t : List ℕ) (x : RunInput) (r : ℕ) → table_ok t ≡ true → found t x ≡ Some r → (r ≤ 3) × (row_ok t r ≡ true)
row_ready t x r o e =
    let p = table_passed t o in
    let k = (found_row t x r e).0 in
    (omega (arith, k, p.few), p.each_row r k)

module _ (m : Model) (q mid least : ℤ) (tau : Float) (t : List ℕ) where
  -- from a row
  pub used_row : (r : ℕ) → found t (input_of m tau) ≡ Some r
      → used_with (Ok (m, q)) mid least tau t ≡ record { reply = quotes_by_answer mid least (answer_from (row_vector t r) m.k m.base q); table = t }
  unfolding used_with vector_in kept_in
  used_row r e = rw e

  -- from a vector that is made
  pub used_made : (x : RunInput) → x ≡ input_of m tau → (mid' least' q' : ℤ) → mid' ≡ mid → least' ≡ least → q' ≡ q → found t x ≡ None → (e : ExactQuotes) (u : List ℕ)
      → e ≡ quotes_by_answer mid' least' (answer_from (value_vector x) m.k m.base q') → u ≡ kept_in None e x (value_vector x).vector t
      → (e ≡ (used_with (Ok (m, q)) mid least tau t).reply) × (u ≡ (used_with (Ok (m, q)) mid least tau t).table)
  unfolding used_with vector_in
  used_made x ex mid' least' q' em el eq f e u a b =
      let g = ap (found t) (sym ex) ∙ f in
      let r = rw (em, el, eq, ex) at a in
      (rw g r, rw (g, ← r) (rw ex at b))

module _ (t : List ℕ) (mid h : ℤ) (c : GLFTConfig) (vol : ℤ) (now : ℕ) where
  -- refused by the table's checks
  pub used_stopped : (r : Refusal) → Err r ≡ check_of (first_failing (table_checks t)) → table_used t mid h c vol now ≡ record { reply = ExactQuotes.Refused r; table = t }
  unfolding table_used used_if
  used_stopped r e = rw (check_refused (first_failing (table_checks t)) r e)

  -- by the model, where they pass
  used_model : Ok tt ≡ check_of (first_failing (table_checks t)) → (a : Result (Model × ℤ) Refusal) → exact_model mid h c vol now ≡ a
      → table_used t mid h c vol now ≡ used_with a mid c.min_spread (tau_of c.terminal_time now) t
  unfolding table_used used_if
  used_model e a f = rw (check_passes (first_failing (table_checks t)) e, f)

  -- which is given
  pub used_given : Ok tt ≡ check_of (first_failing (table_checks t)) → (m : Model) (q : ℤ) → exact_model mid h c vol now ≡ Ok (m, q)
      → (q' mid' least : ℤ) (tau : Float) → q' ≡ q → mid' ≡ mid → least ≡ c.min_spread → tau ≡ tau_of c.terminal_time now → (e : ExactQuotes) (u : List ℕ)
      → e ≡ (used_with (Ok (m, q')) mid' least tau t).reply → u ≡ (used_with (Ok (m, q')) mid' least tau t).table
      → (e ≡ (table_used t mid h c vol now).reply) × (u ≡ (table_used t mid h c vol now).table)
  used_given k m q f q' mid' least tau eq em el et e u a b =
      let w = used_model k (Ok (m, q)) f in
      (rw w (rw (eq, em, el, et) at a), rw w (rw (eq, em, el, et) at b))

  -- or refused
  pub used_refused : Ok tt ≡ check_of (first_failing (table_checks t)) → (r : Refusal) → exact_model mid h c vol now ≡ Err r
      → table_used t mid h c vol now ≡ record { reply = ExactQuotes.Refused r; table = t }
  unfolding used_with
  used_refused k r f = used_model k (Err r) f
