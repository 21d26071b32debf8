-- A row of a table: where its numbers stay it is the same row, a vector that was put into it is read back, and what a new row changes. Assumes nothing.
use mathlib.Core.Path.{◌≡◌, refl, sym, ap, ◌∙◌}
use mathlib.Core.Logic.{◌≢◌, ◌⊎◌, inl, inr}
use Prim.Native.Nat.{ℕ, ◌+◌, ◌<◌, ◌≤◌}
use native.Mathlib.Omega.{arith}
use mathlib.Core.Bool.{Bool, true, false}
use mathlib.Core.List.{List}
use borrow.Author.Tests.{ltb-true, ltb-false}
use lib.ListN.{length}
use lib.Dec.{T, ltb}
use lib.Ieee.{Float, binary64, fits}
use lib.Ieee.Bits.{of_bits-to_bits}
use Rattle.elementary.specs.Float.{hex}
use Rattle.operator.specs.Vectors.{at, tab}
use Rattle.operator.proofs.Lists.{tab_ext, tab_own}
use Rattle.plan.specs.Plan.{room}
use Rattle.plan.specs.declared.RunInput.{RunInput}
use Rattle.vector.specs.declared.ValueVector.{ValueVector}
use Rattle.vector.specs.declared.Outcome.{Outcome}
use Rattle.table.specs.Places.{table_room, row_size, row_at, steps_at, weight_at, offset_at}
use Rattle.table.specs.Table.{number, next, row_vector, row_ok, bits, row_numbers, with_row}
use Rattle.table.specs.Promises.{Same, RowHolds, Added}
use Rattle.vector.proofs.Arrays.{Full}
use Rattle.table.proofs.Added.{row_weight, row_offset, length_with, filled_with, next_with, row_with, below_with, above_with}

-- ---- the numbers of a row stay
abbrev pub RowStays : List ℕ → List ℕ → ℕ → Type 0
RowStays t u r = (j : ℕ) → j < row_size → number u (row_at r + j) ≡ number t (row_at r + j)

module _ (t u : List ℕ) (r : ℕ) (k : RowStays t u r) where
  entry : (a i : ℕ) → a + i < row_size → number u (row_at r + a + i) ≡ number t (row_at r + a + i)
  entry a i h = let e : row_at r + a + i ≡ row_at r + (a + i) = omega arith in rw e (k (a + i) h)

  stays_first : number u (steps_at r) ≡ number t (steps_at r)
  stays_first = let z : row_at r + 0 ≡ row_at r = omega arith in rw z at (k 0 (omega arith))

  pub stays_vector : row_vector u r ≡ row_vector t r
  unfolding row_vector
  stays_vector =
      rw (
        stays_first,
        k 1 (omega arith),
        tab_ext room (λ i. hex (number u (weight_at r i))) (λ i. hex (number t (weight_at r i))) (λ j h. ap hex (entry 7 j (omega arith))),
        tab_ext room (λ i. hex (number u (offset_at r i))) (λ i. hex (number t (offset_at r i))) (λ j h. ap hex (entry 408 j (omega arith))),
      )

  pub stays_same : (x : RunInput) → Same t x r → Same u x r
  stays_same x s =
      record {
        bound = k 2 (omega arith) ∙ s.bound;
        alpha = k 3 (omega arith) ∙ s.alpha;
        beta = k 4 (omega arith) ∙ s.beta;
        eta = k 5 (omega arith) ∙ s.eta;
        tau = k 6 (omega arith) ∙ s.tau;
      }

  pub stays_ok : row_ok u r ≡ row_ok t r
  unfolding row_ok
  stays_ok = rw (stays_first, k 1 (omega arith), k 2 (omega arith))

-- ---- a vector that is in a row, each of whose floats is a binary64, is read back as it was
module _ (t : List ℕ) (r : ℕ) (x : RunInput) (s : ℕ) (v : ValueVector) (h : RowHolds t r x s v) where
  read_back : (f : ℕ → ℕ) (l : List Float) → length l ≡ room → ((i : ℕ) → T (fits binary64 (at l i))) → ((i : ℕ) → i < room → number t (f i) ≡ bits (at l i)) → tab room (λ i. hex (number t (f i))) ≡ l
  read_back f l n b e = tab_ext room (λ i. hex (number t (f i))) (at l) (λ i k. ap hex (e i k) ∙ of_bits-to_bits binary64 (at l i) (b i)) ∙ sym (tab_own room l n)

  pub held_vector : Full v → ((i : ℕ) → T (fits binary64 (at v.w i)) × T (fits binary64 (at v.log_offset i)))
      → row_vector t r ≡ record { outcome = Outcome.Done s; vector = v }
  unfolding row_vector
  held_vector f b =
      rw (
        h.steps,
        h.size,
        read_back (weight_at r) v.w f.weights (λ i. (b i).0) h.weights,
        read_back (offset_at r) v.log_offset f.offsets (λ i. (b i).1) h.offsets,
      )

-- ---- what a new row changes
module _ (x : RunInput) (s : ℕ) (v : ValueVector) (full : Full v) (t : List ℕ) (long : table_room ≤ length t) (n : next t ≤ 3) where
  abbrev u : List ℕ
  u = with_row x s v t

  -- number j of the row
  own : (j : ℕ) → j < row_size → number u (row_at (next t) + j) ≡ number (row_numbers x s v) j
  own = row_with x s v full t long n

  row_held : RowHolds u (next t) x s v
  unfolding row_numbers
  row_held =
      record {
        steps = let z : row_at (next t) + 0 ≡ row_at (next t) = omega arith in rw z at (own 0 (omega arith));
        size = own 1 (omega arith);
        same = record { bound = own 2 (omega arith); alpha = own 3 (omega arith); beta = own 4 (omega arith); eta = own 5 (omega arith); tau = own 6 (omega arith) };
        weights = λ i h. let e : weight_at (next t) i ≡ row_at (next t) + (7 + i) = omega arith in ap (number u) e ∙ own (7 + i) (omega arith) ∙ row_weight x s v full i h;
        offsets = λ i h. let e : offset_at (next t) i ≡ row_at (next t) + (408 + i) = omega arith in ap (number u) e ∙ own (408 + i) (omega arith) ∙ row_offset x s v full i h;
      }

  other : (i : ℕ) → 2 ≤ i → (i < row_at (next t)) ⊎ (row_at (next t) + row_size ≤ i) → number u i ≡ number t i
  other i k (inl h) = below_with x s v full t long n i k h
  other i k (inr h) = above_with x s v full t long n i h

  pub row_added : Added t u x s v
  row_added =
      record {
        filled_rows = filled_with x s v full t long n;
        next_row = next_with x s v full t long n;
        row = row_held;
        others = λ i a b h. other i (omega (arith, a, b)) h;
        same_length = length_with x s v full t long n;
      }

-- ---- so every other row stays
apart : (p q j : ℕ) → p ≢ q → j < row_size → (row_at p + j < row_at q) ⊎ (row_at q + row_size ≤ row_at p + j)
apart p q j d k = go (ltb p q) refl
  where
    go : (b : Bool) → ltb p q ≡ b → (row_at p + j < row_at q) ⊎ (row_at q + row_size ≤ row_at p + j)
    go true e = inl (omega (arith, ltb-true p q e))
    go false e = inr (omega (arith, ltb-false p q e, d))

pub others_stay : (t t' : List ℕ) (x : RunInput) (s : ℕ) (v : ValueVector) → Added t t' x s v → (r : ℕ) → r ≢ next t → RowStays t t' r
others_stay t t' x s v a r h j k = a.others (row_at r + j) (λ e. omega arith) (λ e. omega arith) (apart r (next t) j h k)
