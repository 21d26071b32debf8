-- A new vector takes the rows in turn, the oldest going first. Assumes nothing.
use Rattle.std.specs.Prelude.{Option, Some, None}
use mathlib.Core.Path.{◌≡◌, refl, sym, ap, ◌∙◌, subst}
use Prim.Native.Nat.{ℕ, zero, suc, ◌-◌, ◌%◌, ◌<◌, ◌≤◌, suc-le-suc}
use native.Mathlib.Nat.{zero-lt-suc}
use native.Mathlib.Omega.{arith}
use mathlib.Core.List.{List, [], ◌∷◌, ◌++◌}
use lib.ListN.{length}
use lib.IntN.{ℤ}
use Rattle.elementary.specs.Checks.{Passes, by}
use Rattle.plan.specs.declared.RunInput.{RunInput}
use Rattle.vector.specs.Values.{value_vector}
use Rattle.distances.specs.declared.Answer.{Answer}
use Rattle.model.specs.Model.{lots, model_of, exact_checks}
use Rattle.model.specs.declared.GLFTConfig.{GLFTConfig}
use Rattle.prices.specs.declared.GlftQuotes.{GlftQuotes}
use Rattle.quote.specs.Quotes.{exact_by, exact_quotes}
use Rattle.quote.specs.declared.ExactQuotes.{ExactQuotes}
use Rattle.table.specs.Places.{table_room, rows_kept}
use Rattle.table.specs.Table.{next, found, with_row, kept_in, Used, table_used, cleared}
use Rattle.table.specs.Promises.{Call, clear, quote, after_call, after_all, NoneAgrees, Added, input_for, adds_by, adds, history, MadeFrom, At, head, tail, InTurn, RowsInTurn}
use Rattle.table.proofs.Checked.{table_passed}
use Rattle.table.proofs.Courses.{Course, table_refused, checks_refused, taken, made, course, read_exact}
use Rattle.vector.proofs.Arrays.{Ran, ran}
use Rattle.table.proofs.Done.{done_of}
use Rattle.table.proofs.Sound.{Sound, sound_cleared, cleared_zeros, call_right, checks_passed, long_passed, added, new_made, old_made}
use Rattle.table.proofs.Unchanged.{found_first}

-- ---- quotes that a call makes a vector for: that vector is full
module _ (t : List ℕ) (mid h : ℤ) (c : GLFTConfig) (vol : ℤ) (now : ℕ) where
  abbrev x : RunInput
  x = input_for c vol now

  made_ran : (q : GlftQuotes) (s : ℕ) → Passes (exact_checks mid h c vol now) → exact_quotes mid h c vol now ≡ ExactQuotes.Quotes q s → Ran x.bound s (value_vector x)
  unfolding exact_quotes
  made_ran q s k e =
      ran x s (done_of mid c.min_spread q s (model_of c vol).k (model_of c vol).base (lots h c) (value_vector x) (ap (exact_by mid c.min_spread) (sym (read_exact t mid h c vol now k)) ∙ e))

  -- ---- what such a call changes
  kept_is : (q : GlftQuotes) (s : ℕ) (e : ExactQuotes) → e ≡ ExactQuotes.Quotes q s → kept_in None e x (value_vector x).vector t ≡ with_row x s (value_vector x).vector t
  unfolding kept_in
  kept_is q s e d = rw d

  by_course : (q : GlftQuotes) (s : ℕ) → NoneAgrees t x → {v : Used} {a : Answer} → Course t mid h c vol now v a → v.reply ≡ ExactQuotes.Quotes q s → Added t v.table x s (value_vector x).vector
  by_course q s n (table_refused k) e = let z : ◌≡◌ {A = ℕ} 0 1 = cc in absurd (omega arith)
  by_course q s n (checks_refused p k) e = let z : ◌≡◌ {A = ℕ} 0 1 = cc in absurd (omega arith)
  by_course q s n (taken r p k d) e = let f = found_first t x r d in absurd (n r f.row f.same)
  by_course q s n (made p k d) e =
      subst (λ (u : List ℕ). Added t u x s (value_vector x).vector) (sym (kept_is q s (exact_quotes mid h c vol now) e))
      (added t x s (made_ran q s k e) (long_passed t p) (table_passed t (checks_passed t p)))

-- ---- in turn
at_length : {x : RunInput} {l : List RunInput} {i : ℕ} → At x l i → i < length l
at_length (head) = zero-lt-suc _
at_length (tail a) = suc-le-suc (at_length a)

module _ (t : List ℕ) (x : RunInput) (s : ℕ) (f : Ran x.bound s (value_vector x)) (o : Sound t) (l : List RunInput) (w : InTurn t l) where
  abbrev u : List ℕ
  u = with_row x s (value_vector x).vector t

  turn_row : (i : ℕ) (y : RunInput) → i < rows_kept → At y (x ∷ l) i → MadeFrom u ((length (x ∷ l) - suc i) % rows_kept) y
  turn_row zero y k (head) =
      let n = length l in
      let e : next t ≡ (suc n - 1) % 4 = omega (arith, w.turn) in
      subst (λ (r : ℕ). MadeFrom u r x) e (new_made t x s f o.long o.passed)
  turn_row (suc i) y k (tail a) =
      let n = length l in
      let b = at_length a in
      let e : (n - suc i) % 4 ≡ (suc n - suc (suc i)) % 4 = omega arith in
      subst (λ (r : ℕ). MadeFrom u r y) e (old_made t x s f o.long o.passed ((n - suc i) % 4) y (λ z. omega (arith, w.turn, z, b, k)) (w.row i y (omega (arith, k)) a))

  pub turn_added : InTurn u (x ∷ l)
  turn_added =
      let a = added t x s f o.long o.passed in
      record { count = omega (arith, w.count, a.filled_rows); turn = omega (arith, w.turn, a.next_row); row = turn_row }

adds_none : (f : Option ℕ) (n : ℕ) (x : RunInput) → adds_by f (ExactQuotes.Refused (by n)) x ≡ []
unfolding adds_by
adds_none (Some r) n x = refl
adds_none None n x = refl

module _ (t : List ℕ) (mid h : ℤ) (c : GLFTConfig) (vol : ℤ) (now : ℕ) (o : Sound t) (l : List RunInput) (w : InTurn t l) where
  abbrev y : RunInput
  y = input_for c vol now

  turn_made : Passes (exact_checks mid h c vol now) → (e : ExactQuotes) → exact_quotes mid h c vol now ≡ e → InTurn (kept_in None e y (value_vector y).vector t) (adds_by None e y ++ l)
  unfolding kept_in adds_by
  turn_made k (ExactQuotes.Quotes q s) e = turn_added t y s (made_ran t mid h c vol now q s k e) o l w
  turn_made k (ExactQuotes.OverStepCap need b s) e = w
  turn_made k (ExactQuotes.Refused n) e = w

  turn_course : {v : Used} {a : Answer} → Course t mid h c vol now v a → InTurn v.table (adds_by (found t y) v.reply y ++ l)
  unfolding adds_by
  turn_course (table_refused {n} k) = rw (adds_none (found t y) n y) w
  turn_course (checks_refused {n} p k) = rw (adds_none (found t y) n y) w
  turn_course (taken r p k e) = rw e w
  turn_course (made p k e) = rw e (turn_made k (exact_quotes mid h c vol now) refl)

turn_cleared : (t : List ℕ) → table_room ≤ length t → InTurn (cleared t) []
turn_cleared t h = record { count = cleared_zeros t h 0; turn = cleared_zeros t h 1; row = λ i x k a. nothing a }
  where
    nothing : {x : RunInput} {i : ℕ} {A : Type 0} → At x [] i → A
    nothing a = absurd (omega (arith, at_length a))

turns : (l : List Call) (t : List ℕ) (k : List RunInput) → Sound t → InTurn t k → InTurn (after_all l t) (history l t k)
unfolding after_all after_call history
turns [] t k o w = w
turns (clear ∷ l) t k o w = turns l (cleared t) [] (sound_cleared t o.long) (turn_cleared t o.long)
turns (quote mid h c vol now ∷ l) t k o w =
    turns l (table_used t mid h c vol now).table (adds t mid h c vol now ++ k) (call_right t mid h c vol now o).sound (turn_course t mid h c vol now o k w (course t mid h c vol now))

pub rows_in_turn : RowsInTurn
rows_in_turn =
    record {
      added = λ t mid h c vol now q s n e. by_course t mid h c vol now q s n (course t mid h c vol now) e;
      in_turn = λ t h l. turns l (cleared t) [] (sound_cleared t h) (turn_cleared t h);
    }
