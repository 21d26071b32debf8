-- A list of numbers with a part replaced, and how many numbers a row has. Assumes nothing.
use mathlib.Core.Path.{◌≡◌, ap, ◌∙◌, sym}
use mathlib.Core.List.{List, ◌++◌}
use Prim.Native.Nat.{ℕ, ◌+◌, ◌-◌, ◌<◌, ◌≤◌}
use native.Mathlib.Omega.{arith}
use lib.ListN.{length, take, drop, length-append, length-take, length-drop, length-map, get_or-append}
use lib.Seq.{length-take-le, get_or-append-add, get_or-take, get_or-drop}
use Rattle.plan.specs.declared.RunInput.{RunInput}
use Rattle.vector.specs.declared.ValueVector.{ValueVector}
use Rattle.table.specs.Places.{row_size}
use Rattle.table.specs.Table.{number, put_at, row_numbers}

-- ---- u from place i on
module _ (i : ℕ) (u t : List ℕ) (h : i + length u ≤ length t) where
  -- as many numbers as before
  pub length_put : length (put_at i u t) ≡ length t
  unfolding put_at
  length_put = simp (length-append, length-take, length-drop) (omega arith)

  -- below the part nothing changes
  pub put_below : (j : ℕ) → j < i → number (put_at i u t) j ≡ number t j
  unfolding put_at
  put_below j k = get_or-append (take i t) (u ++ drop (i + length u) t) 0 j (rw (length-take-le i t (omega arith)) k) ∙ get_or-take i t j 0 k

  -- in it stands u
  pub put_in : (j : ℕ) → j < length u → number (put_at i u t) (i + j) ≡ number u j
  unfolding put_at
  put_in j k =
      let e : length (take i t) + j ≡ i + j = ap (λ (m : ℕ). m + j) (length-take-le i t (omega arith)) in
      ap (number (put_at i u t)) (sym e) ∙ get_or-append-add (take i t) (u ++ drop (i + length u) t) j 0 ∙ get_or-append u (drop (i + length u) t) 0 j k

  -- above it nothing changes
  pub put_above : (j : ℕ) → i + length u ≤ j → number (put_at i u t) j ≡ number t j
  unfolding put_at
  put_above j k =
      let n = j - (i + length u) in
      let e : length (take i t) + (length u + n) ≡ j = rw (length-take-le i t (omega arith)) (omega arith) in
      ap (number (put_at i u t)) (sym e) ∙ get_or-append-add (take i t) (u ++ drop (i + length u) t) (length u + n) 0 ∙ get_or-append-add u (drop (i + length u) t) n 0
      ∙ get_or-drop (i + length u) t n 0 ∙ ap (number t) (omega arith)

-- ---- a row's numbers: seven, and two arrays of 401
pub length_row : (x : RunInput) (s : ℕ) (v : ValueVector) → length v.w ≡ 401 → length v.log_offset ≡ 401 → length (row_numbers x s v) ≡ row_size
unfolding row_numbers
length_row x s v w o = simp (length-append, length-map, w, o)
