-- The slices of a step: their lengths, a row as the code reads it, a term more, and the loop over the terms. Assumes nothing.
use mathlib.Core.Path.{◌≡◌, refl, sym, ap, ap₂, ◌∙◌}
use Prim.Native.Nat.{ℕ, zero, suc, ◌+◌, ◌-◌, ◌<◌, ◌≤◌}
use native.Mathlib.Numerals.{add-one}
use native.Mathlib.Omega.{arith}
use mathlib.Core.Bool.{Bool, true, false, ◌&&◌}
use mathlib.Core.List.{List}
use borrow.Author.Tests.{lt-ltb, le-ltb, le-leb}
use lib.IntN.{pos}
use lib.Dec.{T, ltb}
use lib.ListN.{length}
use lib.Ieee.{Float, binary64, fits}
use lib.Ieee.Fits.{sub-fits}
use Rattle.elementary.specs.Float.{◌⊕◌, ◌⊖◌, ◌⊗◌, ◌⊘◌, whole, 0ᶠ, 1ᶠ}
use Rattle.operator.specs.Vectors.{tab, at, before}
use Rattle.series.specs.Series.{Operator, plus, converged}
use Rattle.operator.specs.Slices.{past}
use Rattle.series.specs.Slices.{beside_of, beside_at, slice_row, slice_term, SliceSum, sum_of, with_term, more_terms, step_fits, Sizes}
use Rattle.operator.proofs.Lists.{at_tab, tab_ext}
use Rattle.series.proofs.Terms.{once}
use Rattle.operator.proofs.Slices.{sized_both}

-- ---- lengths
pub sizes_step : (v diag left right term : List Float) → 2 ≤ length v → Sizes (length v) diag left right term → step_fits v diag left right term ≡ true
sizes_step v diag left right term two z =
    rw (le-leb 2 (length v) two, sized_both (length v) (length diag) (length left) z.diag_n z.left_n, sized_both (length v) (length right) (length term) z.right_n z.term_n)

pub never_plain : (b : Bool) → (b && false) ≡ false
never_plain true = refl
never_plain false = refl

-- ---- a row from the entries beside it, as the code reads them
module _ (half plain : Bool) (p : Operator) (eta : Float) (x : List Float) where
  pub row_between : (i : ℕ) (v lower upper y : Float) → i + 1 < p.n → lower ≡ before x i → upper ≡ at x (i + 1) → y ≡ beside_of (ltb 0 i && plain) (at p.left i) (at p.right i) lower upper
      → v ≡ eta ⊗ y ⊖ at p.diagonal i ⊗ at x i → v ≡ slice_row half plain p eta x i
  unfolding slice_row beside_at
  row_between i v lower upper y h el eu ey e =
      let b = ey ∙ ap₂ (beside_of (ltb 0 i && plain) (at p.left i) (at p.right i)) el (eu ∙ ap (at x) (add-one i)) in
      e ∙ ap (λ (z : Float). eta ⊗ z ⊖ at p.diagonal i ⊗ at x i) b
      ∙ sym (ap (λ (t : Bool). eta ⊗ beside_at t (ltb 0 i && plain) half p x i ⊖ at p.diagonal i ⊗ at x i) (lt-ltb (suc i) p.n (omega arith)))

  -- through the factors
  pub row_through : (i : ℕ) (v lower upper : Float) → i + 1 < p.n → lower ≡ before x i → upper ≡ at x (i + 1) → (ltb 0 i && plain) ≡ false
      → v ≡ eta ⊗ (at p.left i ⊗ lower ⊕ at p.right i ⊗ upper) ⊖ at p.diagonal i ⊗ at x i → v ≡ slice_row half plain p eta x i
  unfolding beside_of
  row_through i v lower upper h el eu b e = row_between i v lower upper _ h el eu (sym (ap (λ (t : Bool). beside_of t (at p.left i) (at p.right i) lower upper) b)) e

  -- between the end rows, as `plain` says
  pub row_inner : (i : ℕ) (v lower upper y : Float) → 1 ≤ i → i + 1 < p.n → lower ≡ before x i → upper ≡ at x (i + 1) → y ≡ beside_of plain (at p.left i) (at p.right i) lower upper
      → v ≡ eta ⊗ y ⊖ at p.diagonal i ⊗ at x i → v ≡ slice_row half plain p eta x i
  row_inner i v lower upper y some h el eu ey e = row_between i v lower upper y h el eu (rw (lt-ltb 0 i some) ey) e

  pub row_last : (i : ℕ) (v lower : Float) → i + 1 ≡ p.n → lower ≡ before x i
      → v ≡ eta ⊗ (at p.left i ⊗ lower ⊕ past half (at p.left i) (at p.right i) ⊗ past half lower 0ᶠ) ⊖ at p.diagonal i ⊗ at x i → v ≡ slice_row half plain p eta x i
  unfolding slice_row beside_at beside_of
  row_last i v lower h el e =
      rw el at e
      ∙ sym (ap (λ (t : Bool). eta ⊗ beside_at t (ltb 0 i && plain) half p x i ⊖ at p.diagonal i ⊗ at x i) (le-ltb (suc i) p.n (omega arith)))

  -- a row is a difference, and so a float
  row_fits : (i : ℕ) → T (fits binary64 (slice_row half plain p eta x i))
  unfolding slice_row
  row_fits i = sub-fits binary64 _ _

-- ---- a term more, as the code stores it
pub converged_at : (n m : ℕ) (s t : List Float) → n ≡ m → converged n s t ≡ converged m s t
converged_at n m s t e = rw e

module _ (half plain : Bool) (p : Operator) (eta : Float) where
  pub term_made : (j : ℕ) (t s t' s' : List Float) (c : Bool) → t' ≡ tab p.n (λ i. slice_row half plain p eta t i ⊗ (1ᶠ ⊘ whole (pos j)))
      → s' ≡ tab p.n (λ i. at s i ⊕ slice_row half plain p eta t i ⊗ (1ᶠ ⊘ whole (pos j))) → c ≡ converged p.n s' t'
      → sum_of t' s' c ≡ with_term p.n s (slice_term half plain p eta j t)
  unfolding with_term slice_term plus
  term_made j t s t' s' c et es e =
      ap (sum_of t' s') e
      ∙ ap₂ (λ (a b : List Float). sum_of a b (converged p.n b a)) et (es ∙ tab_ext p.n _ _ (λ i h. ap (λ (y : Float). at s i ⊕ y) (sym (at_tab p.n (λ k. slice_row half plain p eta t k ⊗ (1ᶠ ⊘ whole (pos j))) i h))))

  -- term 1: a row times 1.0 / 1.0 is that row
  by_one : (v : List Float) (i : ℕ) → slice_row half plain p eta v i ≡ slice_row half plain p eta v i ⊗ (1ᶠ ⊘ whole (pos 1))
  by_one v i = sym (once (slice_row half plain p eta v i) (row_fits half plain p eta v i))

  pub first_is : (v : List Float) → tab p.n (slice_row half plain p eta v) ≡ slice_term half plain p eta 1 v
  unfolding slice_term
  first_is v = tab_ext p.n _ _ (λ i h. by_one v i)

  pub first_made : (v t' s' : List Float) (c : Bool) → t' ≡ tab p.n (slice_row half plain p eta v) → s' ≡ tab p.n (λ i. at v i ⊕ slice_row half plain p eta v i) → c ≡ converged p.n s' t'
      → sum_of t' s' c ≡ with_term p.n v (slice_term half plain p eta 1 v)
  unfolding slice_term
  first_made v t' s' c et es e = term_made 1 v v t' s' c (et ∙ first_is v) (es ∙ tab_ext p.n _ _ (λ i h. ap (λ (y : Float). at v i ⊕ y) (by_one v i))) e

  -- ---- the loop over the terms: after term j of the 100
  pub one_more : (j : ℕ) (b : Bool) (s s' r : SliceSum) → j ≤ 100 → b ≡ false → s' ≡ with_term p.n s.sum (slice_term half plain p eta j s.term)
      → more_terms (101 - j) b half plain p eta j s ≡ r → more_terms (101 - (j + 1)) s'.settled half plain p eta (j + 1) s' ≡ r
  unfolding more_terms
  one_more j b s s' r h e m i =
      let u : 101 - j ≡ suc (101 - (j + 1)) = omega arith in
      rw (m, add-one j) (rw (e, u, add-one j) at i)

  -- once it has converged
  pub at_end : (k j : ℕ) (b : Bool) (s : SliceSum) → b ≡ true → more_terms k b half plain p eta j s ≡ s
  unfolding more_terms
  at_end zero j b s e = refl
  at_end (suc k) j b s e = rw e refl

  -- after the loop
  pub ended : (j : ℕ) (c : Bool) (s : SliceSum) → 100 < j → more_terms (101 - j) c half plain p eta j s ≡ s
  unfolding more_terms
  ended j c s h = let z : 101 - j ≡ 0 = omega arith in rw z refl
