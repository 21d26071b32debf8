-- A table with a row more: its two counts, the numbers of the row, and the other numbers, which stay. Assumes nothing.
use mathlib.Core.Path.{◌≡◌, sym, ap, ◌∙◌}
use mathlib.Core.List.{List, [], ◌∷◌, ◌++◌, map}
use Prim.Native.Nat.{ℕ, suc, ◌+◌, ◌%◌, min, ◌<◌, ◌≤◌}
use native.Mathlib.Omega.{arith}
use lib.ListN.{length, get_or, set, length-set, length-map, get_or-append}
use lib.Seq.{get_or-append-add, get_or-set_same, get_or-set_other}
use lib.Ieee.{nan}
use Rattle.plan.specs.declared.RunInput.{RunInput}
use Rattle.vector.specs.declared.ValueVector.{ValueVector}
use Rattle.table.specs.Places.{table_room, rows_kept, row_size, row_at}
use Rattle.table.specs.Table.{number, filled, next, bits, row_numbers, with_row}
use Rattle.table.proofs.Parts.{length_put, put_below, put_in, put_above, length_row}
use Rattle.table.proofs.Stores.{number_bits}
use Rattle.vector.proofs.Arrays.{Full}

-- ---- the numbers of a row
module _ (x : RunInput) (s : ℕ) (v : ValueVector) (full : Full v) where
  abbrev first : List ℕ
  first = s ∷ v.n ∷ x.bound ∷ bits x.alpha ∷ bits x.beta ∷ bits x.eta ∷ bits x.tau ∷ []

  pub row_weight : (i : ℕ) → i < 401 → number (row_numbers x s v) (7 + i) ≡ bits (get_or v.w i nan)
  unfolding row_numbers
  row_weight i h =
      let (w, o) : List ℕ × List ℕ = (map bits v.w, map bits v.log_offset) in
      get_or-append-add first (w ++ o) i 0 ∙ get_or-append w o 0 i (omega (arith, length-map v.w bits, full.weights)) ∙ number_bits v.w i (omega (arith, full.weights))

  pub row_offset : (i : ℕ) → i < 401 → number (row_numbers x s v) (408 + i) ≡ bits (get_or v.log_offset i nan)
  unfolding row_numbers
  row_offset i h =
      let (w, o) : List ℕ × List ℕ = (map bits v.w, map bits v.log_offset) in
      let e : 7 + (length w + i) ≡ 408 + i = omega (arith, length-map v.w bits, full.weights) in
      ap (number (row_numbers x s v)) (sym e) ∙ get_or-append-add first (w ++ o) (length w + i) 0 ∙ get_or-append-add w o i 0 ∙ number_bits v.log_offset i (omega (arith, full.offsets))

-- ---- a row more
module _ (x : RunInput) (s : ℕ) (v : ValueVector) (full : Full v) (t : List ℕ) (h : table_room ≤ length t) (k : next t ≤ 3) where
  abbrev counted : List ℕ
  counted = set (set t 0 (min rows_kept (suc (filled t)))) 1 (suc (next t) % rows_kept)

  size : length counted ≡ length t
  size = simp length-set

  fits : row_at (next t) + length (row_numbers x s v) ≤ length counted
  fits = rw (size, length_row x s v full.weights full.offsets) (omega arith)

  -- as many numbers as before
  pub length_with : length (with_row x s v t) ≡ length t
  unfolding with_row
  length_with = length_put (row_at (next t)) (row_numbers x s v) counted fits ∙ size

  -- the two counts
  pub filled_with : filled (with_row x s v t) ≡ min rows_kept (suc (filled t))
  unfolding with_row
  filled_with =
      put_below (row_at (next t)) (row_numbers x s v) counted fits 0 (omega arith)
      ∙ get_or-set_other (set t 0 (min rows_kept (suc (filled t)))) 1 0 (suc (next t) % rows_kept) 0 (λ e. omega arith)
      ∙ get_or-set_same t 0 (min rows_kept (suc (filled t))) 0 (omega arith)

  pub next_with : next (with_row x s v t) ≡ suc (next t) % rows_kept
  unfolding with_row
  next_with =
      put_below (row_at (next t)) (row_numbers x s v) counted fits 1 (omega arith)
      ∙ get_or-set_same (set t 0 (min rows_kept (suc (filled t)))) 1 (suc (next t) % rows_kept) 0 (simp length-set (omega arith))

  -- the row
  pub row_with : (j : ℕ) → j < row_size → number (with_row x s v t) (row_at (next t) + j) ≡ number (row_numbers x s v) j
  unfolding with_row
  row_with j l = put_in (row_at (next t)) (row_numbers x s v) counted fits j (rw (length_row x s v full.weights full.offsets) l)

  -- and the other numbers
  stays : (i : ℕ) → 2 ≤ i → number counted i ≡ number t i
  stays i l =
      get_or-set_other (set t 0 (min rows_kept (suc (filled t)))) 1 i (suc (next t) % rows_kept) 0 (λ e. omega arith)
      ∙ get_or-set_other t 0 i (min rows_kept (suc (filled t))) 0 (λ e. omega arith)

  pub below_with : (i : ℕ) → 2 ≤ i → i < row_at (next t) → number (with_row x s v t) i ≡ number t i
  unfolding with_row
  below_with i l m = put_below (row_at (next t)) (row_numbers x s v) counted fits i m ∙ stays i l

  pub above_with : (i : ℕ) → row_at (next t) + row_size ≤ i → number (with_row x s v t) i ≡ number t i
  unfolding with_row
  above_with i m =
      put_above (row_at (next t)) (row_numbers x s v) counted fits i (rw (length_row x s v full.weights full.offsets) m) ∙ stays i (omega arith)
