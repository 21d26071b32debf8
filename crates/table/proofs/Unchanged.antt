-- A row that agrees is taken as it stands; which calls change nothing; and clearing. Assumes nothing.
use Rattle.std.specs.Prelude.{Some, None}
use mathlib.Core.Path.{◌≡◌, refl, sym, ap, ◌∙◌, subst}
use mathlib.Core.Logic.{◌≢◌}
use Prim.Native.Nat.{ℕ, ◌<◌, ◌≤◌}
use native.Mathlib.Omega.{arith}
use mathlib.Core.Bool.{Bool, true, false}
use mathlib.Core.List.{List}
use borrow.Author.Tests.{lt-leb, leb-true, leb-false, eqb-true, eqb-false}
use lib.ListN.{length}
use lib.Dec.{T, leb, eqb}
use lib.IntN.{ℤ}
use Rattle.elementary.specs.Checks.{verdict, first_of, first_failing, Refuses, here, later, Passes, none, each}
use Rattle.operator.proofs.Lists.{never_true}
use Rattle.plan.specs.declared.RunInput.{RunInput}
use Rattle.vector.specs.Values.{value_vector}
use Rattle.distances.specs.declared.Answer.{Answer}
use Rattle.model.specs.Model.{lots, model_of, exact_checks}
use Rattle.model.specs.declared.GLFTConfig.{GLFTConfig}
use Rattle.prices.specs.declared.GlftQuotes.{GlftQuotes}
use Rattle.quote.specs.Quotes.{exact_by, exact_quotes}
use Rattle.quote.specs.declared.ExactQuotes.{ExactQuotes}
use Rattle.table.specs.Places.{table_room, steps_at}
use Rattle.table.specs.Table.{number, filled, row_vector, agrees, table_ok, found, kept_in, Used, cleared_if, cleared}
use Rattle.table.specs.Promises.{First, NoneAgrees, Fails, many_filled, far_next, next_not_count, many_steps, no_bound, large_bound, other_length, Passing, input_for, row_answer, TableTaken, TableUnchanged, TableCleared}
use Rattle.table.proofs.Checked.{TablePassed, RowPassed, row_passed, row_pass, table_passed, table_pass, agreed, agree}
use Rattle.table.proofs.FirstRow.{found_row, row_found, found_nothing}
use Rattle.table.proofs.Courses.{Course, table_refused, checks_refused, taken, made, course}
use Rattle.table.proofs.Done.{done_of}
use Rattle.table.proofs.Sound.{not_refused, cleared_zeros, cleared_long}

-- ---- checks that pass and refuse
pub both_ways : {l : List (Bool × ℕ)} {n : ℕ} → Passes l → Refuses l n → ⊥
both_ways (each a p) (here e) = absurd (subst T (sym a ∙ e) tt)
both_ways (each a p) (later e k) = both_ways p k
both_ways {n = n} none x = elim x [ ]

-- ---- the row that is found is the first that agrees
module _ (t : List ℕ) (x : RunInput) where
  pub first_found : (r : ℕ) → First t x r → found t x ≡ Some r
  first_found r f = row_found t x r f.row (agree t x r f.same) (λ i k. never_true (agrees t x i) (λ e. f.before i k (agreed t x i e)))

  pub found_first : (r : ℕ) → found t x ≡ Some r → First t x r
  found_first r e = let (k, a, b) = found_row t x r e in record { row = k; same = agreed t x r a; before = λ i h s. absurd (subst T (sym (agree t x i s) ∙ b i h) tt) }

  pub found_none : found t x ≡ None → NoneAgrees t x
  found_none e i k s = absurd (subst T (sym (agree t x i s) ∙ found_nothing t x e i k) tt)

  pub one_first : (r p : ℕ) → First t x r → found t x ≡ Some p → p ≡ r
  one_first r p f e = let z : Some p ≡ Some r = sym e ∙ first_found r f in cc

  pub first_some : (r : ℕ) → First t x r → found t x ≡ None → ⊥
  first_some r f e = found_none e r f.row f.same

-- ---- a table passes just where nothing that 24 names is there
pub no_fails : (t : List ℕ) → table_ok t ≡ true → Fails t → ⊥
no_fails t o f = go (table_passed t o) f
  where
    row : TablePassed t → (r : ℕ) → r < filled t → RowPassed t r
    row p r k = row_passed t r (p.each_row r k)

    go : TablePassed t → Fails t → ⊥
    go p (many_filled h) = omega (arith, p.few)
    go p (far_next h) = omega (arith, p.within)
    go p (next_not_count h d) = d (p.in_turn h)
    go p (many_steps r k h) = omega (arith, (row p r k).steps)
    go p (no_bound r k h) = omega (arith, (row p r k).least)
    go p (large_bound r k h) = omega (arith, (row p r k).most)
    go p (other_length r k h) = h (row p r k).size

-- a test that fails is a fact, and so the other way round
least : (a b : ℕ) → (b < a → ⊥) → a ≤ b
least a b h = go (leb a b) refl
  where
    go : (c : Bool) → leb a b ≡ c → a ≤ b
    go true e = leb-true a b e
    go false e = absurd (h (leb-false a b e))

equal : (a b : ℕ) → (a ≢ b → ⊥) → a ≡ b
equal a b h = go (eqb a b) refl
  where
    go : (c : Bool) → eqb a b ≡ c → a ≡ b
    go true e = eqb-true a b e
    go false e = absurd (h (eqb-false a b e))

module _ (t : List ℕ) (f : Fails t → ⊥) where
  unfailing_row : (r : ℕ) → r < filled t → RowPassed t r
  unfailing_row r k =
      record {
        steps = least _ _ (λ h. f (many_steps r k h));
        least = least _ _ (λ h. f (no_bound r k (omega arith)));
        most = least _ _ (λ h. f (large_bound r k h));
        size = equal _ _ (λ h. f (other_length r k h));
      }

  pub unfailing : table_ok t ≡ true
  unfailing =
      table_pass t
      (record {
        few = least _ _ (λ h. f (many_filled h));
        within = least _ _ (λ h. f (far_next h));
        in_turn = λ h. equal _ _ (λ d. f (next_not_count h d));
        each_row = λ r k. row_pass t r (unfailing_row r k);
      })

-- ---- the statements
module _ (t : List ℕ) (mid h : ℤ) (c : GLFTConfig) (vol : ℤ) (now : ℕ) where
  abbrev x : RunInput
  x = input_for c vol now

  taken_quotes : (r : ℕ) → Passing t → Passes (exact_checks mid h c vol now) → First t x r → {v : Used} {a : Answer} → Course t mid h c vol now v a → v.reply ≡ exact_by mid c.min_spread (row_answer t r h c vol)
  taken_quotes r p k f (table_refused n) = absurd (not_refused t p.0 (unfailing t p.1) n)
  taken_quotes r p k f (checks_refused g n) = absurd (both_ways k n)
  taken_quotes r p k f (taken m g n e) = ap (λ (i : ℕ). exact_by mid c.min_spread (row_answer t i h c vol)) (one_first t x r m f e)
  taken_quotes r p k f (made g n e) = absurd (first_some t x r f e)

  taken_steps : (r : ℕ) (q : GlftQuotes) (s : ℕ) → First t x r → {v : Used} {a : Answer} → Course t mid h c vol now v a → v.reply ≡ ExactQuotes.Quotes q s → s ≡ number t (steps_at r)
  unfolding row_vector
  taken_steps r q s f (table_refused n) e = let z : ◌≡◌ {A = ℕ} 0 1 = cc in absurd (omega arith)
  taken_steps r q s f (checks_refused g n) e = let z : ◌≡◌ {A = ℕ} 0 1 = cc in absurd (omega arith)
  taken_steps r q s f (taken m g n d) e =
      let y = done_of mid c.min_spread q s (model_of c vol).k (model_of c vol).base (lots h c) (row_vector t m) e in
      let z : number t (steps_at m) ≡ s = cc in
      sym z ∙ ap (λ (i : ℕ). number t (steps_at i)) (one_first t x r m f d)
  taken_steps r q s f (made g n d) e = absurd (first_some t x r f d)

  kept_not : (e : ExactQuotes) → ((q : GlftQuotes) (s : ℕ) → e ≡ ExactQuotes.Quotes q s → ⊥) → kept_in None e x (value_vector x).vector t ≡ t
  unfolding kept_in
  kept_not (ExactQuotes.Quotes q s) n = absurd (n q s refl)
  kept_not (ExactQuotes.OverStepCap need b s) n = refl
  kept_not (ExactQuotes.Refused r) n = refl

  unchanged : {v : Used} {a : Answer} → Course t mid h c vol now v a → ((q : GlftQuotes) (s : ℕ) → v.reply ≡ ExactQuotes.Quotes q s → ⊥) → v.table ≡ t
  unchanged (table_refused k) n = refl
  unchanged (checks_refused p k) n = refl
  unchanged (taken r p k e) n = refl
  unchanged (made p k e) n = kept_not (exact_quotes mid h c vol now) n

  reused : (r : ℕ) → First t x r → {v : Used} {a : Answer} → Course t mid h c vol now v a → v.table ≡ t
  reused r f (table_refused k) = refl
  reused r f (checks_refused p k) = refl
  reused r f (taken m p k e) = refl
  reused r f (made p k e) = absurd (first_some t x r f e)

pub table_taken : TableTaken
table_taken =
    record {
      quotes = λ t mid h c vol now r p k f. taken_quotes t mid h c vol now r p k f (course t mid h c vol now);
      steps = λ t mid h c vol now r q s f e. taken_steps t mid h c vol now r q s f (course t mid h c vol now) e;
    }

not_long : (t : List ℕ) → length t < table_room → cleared t ≡ t
unfolding cleared_if first_failing first_of verdict
not_long t h = rw (lt-leb table_room (length t) h)

pub table_unchanged : TableUnchanged
table_unchanged =
    record {
      no_quotes = λ t mid h c vol now n. unchanged t mid h c vol now (course t mid h c vol now) n;
      reuse = λ t mid h c vol now r f. reused t mid h c vol now r f (course t mid h c vol now);
      not_cleared = not_long;
    }

pub table_cleared : TableCleared
table_cleared = record { zeros = cleared_zeros; same_length = same }
  where
    same : (t : List ℕ) → length (cleared t) ≡ length t
    same t = go (leb table_room (length t)) refl
      where
        go : (b : Bool) → leb table_room (length t) ≡ b → length (cleared t) ≡ length t
        go true e = cleared_long t (leb-true table_room (length t) e)
        go false e = ap length (not_long t (leb-false table_room (length t) e))
