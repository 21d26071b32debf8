-- A table that came from a cleared one: every filled row is the value vector of an input. Clearing makes it so, every call keeps it so, and every answer is then that of `exact_quotes`. Assumes nothing.
use Rattle.std.specs.Prelude.{Some, None}
use mathlib.Core.Path.{◌≡◌, refl, sym, ap, ◌∙◌, subst}
use mathlib.Core.Logic.{◌≢◌}
use Prim.Native.Nat.{ℕ, zero, suc, ◌+◌, ◌*◌, ◌<◌, ◌≤◌, min}
use native.Mathlib.Omega.{arith}
use mathlib.Core.Bool.{Bool, true, false}
use mathlib.Core.List.{List}
use borrow.Author.Tests.{leb-true, le-leb, eqb-true, eqb-false}
use lib.ListN.{length, replicate, length-replicate}
use lib.Dec.{T, eqb}
use lib.IntN.{ℤ}
use lib.Ieee.{Float, binary64, fits}
use lib.Ieee.Bits.{of_bits-to_bits}
use lib.Ieee.Fits.{mul-fits, div-fits}
use Rattle.elementary.specs.Float.{hex}
use Rattle.elementary.specs.Checks.{verdict, first_of, first_failing, Refuses, here, later, Passes, none, each, by}
use Rattle.plan.specs.declared.RunInput.{RunInput}
use Rattle.vector.specs.Values.{value_vector}
use Rattle.vector.specs.declared.VectorAnswer.{VectorAnswer}
use Rattle.vector.specs.declared.Outcome.TheVariants as Outcome
use Rattle.vector.proofs.Fit.{fit_vector}
use Rattle.distances.specs.Reading.{answer_from}
use Rattle.distances.specs.declared.Answer.{Answer}
use Rattle.amounts.specs.Amounts.{tau_of}
use Rattle.model.specs.Model.{lots, model_of, model_from, model_by, exact_checks, exact_model}
use Rattle.model.specs.declared.GLFTConfig.{GLFTConfig}
use Rattle.model.proofs.Passed.{stops}
use Rattle.quote.specs.Quotes.{exact_from, exact_answer, exact_by, exact_quotes}
use Rattle.quote.specs.declared.ExactQuotes.{ExactQuotes}
use Rattle.table.specs.Places.{table_room}
use Rattle.table.specs.Table.{number, filled, next, row_vector, row_ok, table_ok, table_checks, found, bits, with_row, kept_in, Used, table_used, table_answer, cleared_if, cleared}
use Rattle.table.specs.Promises.{Same, MadeFrom, Added, input_for, row_answer}
use Rattle.table.proofs.Checked.{TablePassed, row_pass, table_pass, agreed}
use Rattle.table.proofs.FirstRow.{found_row}
use Rattle.table.proofs.Courses.{Course, table_refused, checks_refused, taken, made, course, read_exact}
use Rattle.table.proofs.Kept.{RowStays, stays_vector, stays_same, stays_ok, held_vector, row_added, others_stay}
use Rattle.vector.proofs.Arrays.{full_arrays, Ran, ran}
use Rattle.table.proofs.Done.{done_of}

-- ---- an input whose floats are binary64s, which its bits give back
pub record FitInput (x : RunInput) : Type 0 where
  pub alpha : T (fits binary64 x.alpha)
  pub beta : T (fits binary64 x.beta)
  pub eta : T (fits binary64 x.eta)
  pub tau : T (fits binary64 x.tau)

-- each of a call's is a product or a quotient
pub input_fits : (c : GLFTConfig) (vol : ℤ) (now : ℕ) → FitInput (input_for c vol now)
unfolding model_of model_from model_by tau_of
input_fits c vol now = record { alpha = div-fits binary64 _ _; beta = mul-fits binary64 _ _; eta = mul-fits binary64 _ _; tau = div-fits binary64 _ _ }

same_float : (n : ℕ) (x y : Float) → T (fits binary64 x) → T (fits binary64 y) → n ≡ bits x → n ≡ bits y → x ≡ y
same_float n x y f g a b = sym (of_bits-to_bits binary64 x f) ∙ ap hex (sym a ∙ b) ∙ of_bits-to_bits binary64 y g

pub one_input : (t : List ℕ) (r : ℕ) (x y : RunInput) → FitInput x → FitInput y → Same t x r → Same t y r → x ≡ y
one_input t r x y f g a b =
    let p : x.alpha ≡ y.alpha = same_float _ _ _ f.alpha g.alpha a.alpha b.alpha in
    let q : x.beta ≡ y.beta = same_float _ _ _ f.beta g.beta a.beta b.beta in
    let u : x.eta ≡ y.eta = same_float _ _ _ f.eta g.eta a.eta b.eta in
    let v : x.tau ≡ y.tau = same_float _ _ _ f.tau g.tau a.tau b.tau in
    let w : x.bound ≡ y.bound = sym a.bound ∙ b.bound in
    λ i. record { alpha = p i; beta = q i; eta = u i; bound = w i; tau = v i }

-- ---- the invariant
pub record Sound (t : List ℕ) : Type 0 where
  pub long : table_room ≤ length t
  pub passed : TablePassed t
  pub made_rows : (r : ℕ) → r < filled t → (x : RunInput) × FitInput x × MadeFrom t r x

-- a table that passes is not refused
pub not_refused : (t : List ℕ) → table_room ≤ length t → table_ok t ≡ true → {n : ℕ} → Refuses (table_checks t) n → ⊥
not_refused t l o (here e) = let z : true ≡ false = sym (le-leb table_room (length t) l) ∙ e in absurd (subst T z tt)
not_refused t l o (later e (here f)) = let z : true ≡ false = sym o ∙ f in absurd (subst T z tt)
not_refused t l o {n = n} (later e (later _ x)) = elim x [ ]

pub checks_passed : (t : List ℕ) → Passes (table_checks t) → table_ok t ≡ true
checks_passed t (each a (each b none)) = b

pub long_passed : (t : List ℕ) → Passes (table_checks t) → table_room ≤ length t
long_passed t (each a (each b none)) = leb-true table_room (length t) a

-- ---- clearing
zeros_at : (n i : ℕ) → number (replicate n 0) i ≡ 0
zeros_at zero i = refl
zeros_at (suc n) zero = refl
zeros_at (suc n) (suc i) = zeros_at n i

pub cleared_is : (t : List ℕ) → table_room ≤ length t → cleared t ≡ replicate (length t) 0
unfolding cleared_if first_failing first_of verdict
cleared_is t h = rw (le-leb table_room (length t) h)

pub cleared_zeros : (t : List ℕ) → table_room ≤ length t → (i : ℕ) → number (cleared t) i ≡ 0
cleared_zeros t h i = rw (cleared_is t h) (zeros_at (length t) i)

pub cleared_long : (t : List ℕ) → table_room ≤ length t → length (cleared t) ≡ length t
cleared_long t h = rw (cleared_is t h) (length-replicate (length t) 0)

pub sound_cleared : (t : List ℕ) → table_room ≤ length t → Sound (cleared t)
sound_cleared t h =
    let f = cleared_zeros t h 0 in
    let n = cleared_zeros t h 1 in
    record {
      long = rw (cleared_long t h) h;
      passed = record { few = omega (arith, f); within = omega (arith, n); in_turn = λ _. n ∙ sym f; each_row = λ r k. absurd (omega (arith, f, k)) };
      made_rows = λ r k. absurd (omega (arith, f, k));
    }

-- ---- a new row
-- one of the filled rows is the new one, or was filled before
module _ (t u : List ℕ) (p : TablePassed t) (c : filled u ≡ min 4 (suc (filled t))) where
  pub was_filled : (r : ℕ) → r < filled u → r ≢ next t → r < filled t
  was_filled r k d = go (eqb (filled t) 4) refl
    where
      go : (b : Bool) → eqb (filled t) 4 ≡ b → r < filled t
      go true e = omega (arith, eqb-true (filled t) 4 e, c, k)
      go false e =
          let f : filled t < 4 = omega (arith, eqb-false (filled t) 4 e, p.few) in
          let g = p.in_turn f in
          omega (arith, c, k, d, g)

-- the new row, and the vector that it is read as
module _ (t : List ℕ) (x : RunInput) (s : ℕ) (f : Ran x.bound s (value_vector x)) (l : table_room ≤ length t) (p : TablePassed t) where
  abbrev u : List ℕ
  u = with_row x s (value_vector x).vector t

  pub added : Added t u x s (value_vector x).vector
  added = row_added x s (value_vector x).vector (full_arrays x) t l p.within

  pub new_made : MadeFrom u (next t) x
  new_made = (
    added.row.same,
    held_vector u (next t) x s (value_vector x).vector added.row (full_arrays x) (fit_vector x)
        ∙ sym (rebuilt (value_vector x) f.is_done),
  )
    where
      rebuilt : (a : VectorAnswer) → a.outcome ≡ Outcome.Done s → a ≡ record { outcome = Outcome.Done s; vector = a.vector }
      rebuilt a e = λ i. record { outcome = e i; vector = a.vector }

  new_ok : row_ok u (next t) ≡ true
  new_ok =
      let h = added.row in
      let b = h.same.bound in
      row_pass u (next t) (record { steps = rw h.steps f.few_steps; least = rw b f.least_bound; most = rw b f.most_bound_lem; size = h.size ∙ f.size ∙ ap (λ (n : ℕ). 2 * n + 1) (sym b) })

  pub old_stays : (r : ℕ) → r ≢ next t → RowStays t u r
  old_stays r d = others_stay t u x s (value_vector x).vector added r d

  pub old_made : (r : ℕ) (y : RunInput) → r ≢ next t → MadeFrom t r y → MadeFrom u r y
  old_made r y d m = (stays_same t u r (old_stays r d) y m.0, stays_vector t u r (old_stays r d) ∙ m.1)

  -- each filled row has what the new one has, and the old ones had
  each_filled : (P : ℕ → Type 0) → P (next t) → ((r : ℕ) → r < filled t → r ≢ next t → P r) → (r : ℕ) → r < filled u → P r
  each_filled P a b r k = go (eqb r (next t)) refl
    where
      go : (z : Bool) → eqb r (next t) ≡ z → P r
      go true e = subst P (sym (eqb-true r (next t) e)) a
      go false e = let d = eqb-false r (next t) e in b r (was_filled t u p added.filled_rows r k d) d

  pub sound_added : Sound t → FitInput x → Sound u
  sound_added o g =
      record {
        long = rw added.same_length l;
        passed =
            record {
              few = omega (arith, added.filled_rows);
              within = omega (arith, added.next_row);
              in_turn = λ k. turn k;
              each_row = each_filled (λ r. row_ok u r ≡ true) new_ok (λ r k d. stays_ok t u r (old_stays r d) ∙ p.each_row r k);
            };
        made_rows =
            each_filled (λ r. (y : RunInput) × FitInput y × MadeFrom u r y) (x, g, new_made)
            (λ r k d. let (y, h, m) = o.made_rows r k in (y, h, old_made r y d m));
      }
    where
      turn : filled u < 4 → next u ≡ filled u
      turn k = let g : filled t < 4 = omega (arith, k, added.filled_rows) in omega (arith, k, added.filled_rows, added.next_row, p.in_turn g)

-- ---- a call
module _ (t : List ℕ) (mid h : ℤ) (c : GLFTConfig) (vol : ℤ) (now : ℕ) (o : Sound t) where
  abbrev x : RunInput
  x = input_for c vol now

  -- the row that is taken is the call's own vector
  own_row : (r : ℕ) → found t x ≡ Some r → row_vector t r ≡ value_vector x
  own_row r e =
      let (k, a, b) = found_row t x r e in
      let (y, g, m) = o.made_rows r k in
      m.1 ∙ ap value_vector (one_input t r y x g (input_fits c vol now) m.0 (agreed t x r a))

  own_answer : Passes (exact_checks mid h c vol now) → (r : ℕ) → found t x ≡ Some r → row_answer t r h c vol ≡ exact_answer mid h c vol now
  own_answer k r e = ap (λ (a : VectorAnswer). answer_from a (model_of c vol).k (model_of c vol).base (lots h c)) (own_row r e) ∙ sym (read_exact t mid h c vol now k)

  refused_alone : {n : ℕ} → Refuses (exact_checks mid h c vol now) n → (exact_answer mid h c vol now ≡ Answer.Refused (by n))
  unfolding exact_answer exact_from exact_model
  refused_alone k = rw (stops (model_of c vol) (lots h c) k)

  -- where a vector is made: kept or not
  kept_sound : (e : ExactQuotes) → exact_quotes mid h c vol now ≡ e → Passes (exact_checks mid h c vol now) → Sound (kept_in None e x (value_vector x).vector t)
  unfolding kept_in exact_quotes
  kept_sound (ExactQuotes.Quotes g s) e k =
      let d = done_of mid c.min_spread g s (model_of c vol).k (model_of c vol).base (lots h c) (value_vector x) (ap (exact_by mid c.min_spread) (sym (read_exact t mid h c vol now k)) ∙ e) in
      sound_added t x s (ran x s d) o.long o.passed o (input_fits c vol now)
  kept_sound (ExactQuotes.OverStepCap need b s) e k = o
  kept_sound (ExactQuotes.Refused n) e k = o

  -- the answer is that of `exact_quotes`, and the table stays sound
  pub record Right (v : Used) (a : Answer) : Type 0 where
    pub sound : Sound v.table
    pub answer : a ≡ exact_answer mid h c vol now
    pub reply : v.reply ≡ exact_quotes mid h c vol now

  right : {v : Used} {a : Answer} → Course t mid h c vol now v a → Right v a
  unfolding exact_quotes exact_by
  right (table_refused k) = absurd (not_refused t o.long (table_pass t o.passed) k)
  right (checks_refused p k) = let e = refused_alone k in record { sound = o; answer = sym e; reply = rw e }
  right (taken r p k e) = let a = own_answer k r e in record { sound = o; answer = a; reply = rw a }
  right (made p k e) = record { sound = kept_sound (exact_quotes mid h c vol now) refl k; answer = refl; reply = refl }

  pub call_right : Right (table_used t mid h c vol now) (table_answer t mid h c vol now)
  call_right = right (course t mid h c vol now)
