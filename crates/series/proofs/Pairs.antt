-- Two rows in locals: lists of two entries, and the series of a slice of two rows, which has none between its end rows. Assumes nothing.
use mathlib.Core.Path.{◌≡◌, refl, sym, ap}
use Prim.Native.Nat.{ℕ, zero, suc}
use native.Mathlib.Omega.{arith}
use mathlib.Core.Bool.{Bool, true, false, ◌&&◌, and-true}
use mathlib.Core.List.{List, [], ◌∷◌}
use lib.ListN.{length, set}
use lib.Ieee.{Float}
use Rattle.elementary.specs.Float.{◌⊗◌}
use Rattle.operator.specs.Vectors.{from, tab, at, every_from, every}
use Rattle.series.specs.Series.{operator_over}
use Rattle.series.specs.Slices.{beside_at, slice_row, slice_term, SliceSum, more_terms, series_over}

-- ---- lists of two entries
pub two_entries : (l : List Float) → length l ≡ 2 → at l 0 ∷ at l 1 ∷ [] ≡ l
two_entries [] e = absurd (omega arith)
two_entries (x ∷ []) e = absurd (omega arith)
two_entries (x ∷ y ∷ []) e = refl
two_entries (x ∷ y ∷ z ∷ l) e = absurd (omega arith)

-- both stored
pub both_set : (l : List Float) (x y : Float) → length l ≡ 2 → set (set l 0 x) 1 y ≡ x ∷ y ∷ []
both_set [] x y e = absurd (omega arith)
both_set (a ∷ []) x y e = absurd (omega arith)
both_set (a ∷ b ∷ []) x y e = refl
both_set (a ∷ b ∷ c ∷ l) x y e = absurd (omega arith)

-- each entry times k
pub times_both : (x y k : Float) (f : ℕ → Float) → x ∷ y ∷ [] ≡ tab 2 f → x ⊗ k ∷ y ⊗ k ∷ [] ≡ tab 2 (λ i. f i ⊗ k)
unfolding from
times_both x y k f e = ap (λ (l : List Float). at l 0 ⊗ k ∷ at l 1 ⊗ k ∷ []) e

-- a test of both
pub every_two : (p : ℕ → Bool) → (p 0 && p 1) ≡ every 2 p
unfolding every_from
every_two p = ap (λ (b : Bool). p 0 && b) (sym (and-true (p 1)))

-- ---- no row is made plainly
module _ (d l r : List Float) (eta : Float) where
  same_term : (plain : Bool) (j : ℕ) (t : List Float) → slice_term true false (operator_over 2 d l r) eta j t ≡ slice_term true plain (operator_over 2 d l r) eta j t
  unfolding slice_term slice_row beside_at from
  same_term plain j t = refl

  same_more : (plain : Bool) (k j : ℕ) (c : Bool) (s : SliceSum) → more_terms k c true false (operator_over 2 d l r) eta j s ≡ more_terms k c true plain (operator_over 2 d l r) eta j s
  unfolding more_terms
  same_more plain zero j c s = refl
  same_more plain (suc k) j true s = refl
  same_more plain (suc k) j false s = rw (← same_term plain j s.term) (same_more plain k (suc j) _ _)

  pub same_series : (plain : Bool) (v : List Float) → series_over true false (operator_over 2 d l r) eta v ≡ series_over true plain (operator_over 2 d l r) eta v
  unfolding series_over
  same_series plain v = same_more plain 99 2 _ _
