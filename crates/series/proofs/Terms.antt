-- A term more of a Taylor series, and what its entries are. Assumes nothing.
use mathlib.Core.Path.{◌≡◌, refl, sym, ap, ap₂, subst, ◌∙◌}
use Prim.Native.Nat.{ℕ, zero, suc}
use mathlib.Core.Bool.{Bool, true, false, ◌&&◌}
use mathlib.Core.List.{List}
use borrow.Author.Tests.{ltb-true, ltb-false}
use lib.IntN.{pos}
use lib.Dec.{T, ltb}
use lib.ListN.{get_or-eq_default}
use lib.Ieee.{Float, nan, binary64, eq, fits}
use lib.Ieee.Bits.{of_bits-fits}
use lib.Ieee.Fits.{nan-fits}
use Rattle.elementary.specs.Float.{◌⊕◌, ◌⊖◌, ◌⊗◌, ◌⊘◌, whole, 1ᶠ, finite}
use Rattle.elementary.specs.Reply.{Reply}
use Rattle.elementary.proofs.Signs.{add_finite}
use Rattle.elementary.proofs.Exact.{one_whole, mul_one_f, one_mul_f, div_one_f}
use Rattle.operator.specs.Vectors.{tab, at, before, after}
use Rattle.series.specs.Series.{Operator, row_at, applied, term, plus, converged, summed, series}
use Rattle.series.specs.Slices.{Fit}
use Rattle.operator.specs.Slices.{OneAt}
use Rattle.operator.proofs.Loops.{at_stored}
use Rattle.operator.proofs.Lists.{length_tab, at_tab, tab_ext}

-- ---- a row
-- row i from the entries beside it, as the code reads them
pub row_is : (p : Operator) (eta : Float) (x : List Float) (i : ℕ) (v lower upper : Float) → lower ≡ before x i → upper ≡ after p.n x i
    → v ≡ eta ⊗ (at p.left i ⊗ lower ⊕ at p.right i ⊗ upper) ⊖ at p.diagonal i ⊗ at x i → v ≡ row_at p eta x i
unfolding row_at
row_is p eta x i v lower upper l u e = rw (← l, ← u) e

-- a factor of 1.0 gives the entry back
pub times_one : (l x : Float) → eq l 1ᶠ ≡ true → T (fits binary64 x) → l ⊗ x ≡ x
times_one l x h t = one_mul_f binary64 l x (ap (eq l) (sym one_whole) ∙ h) t

-- what the rows beside give through factors of 1.0, without their products
pub beside_is : (left right : List Float) (i : ℕ) (lower upper : Float) → OneAt left right i × T (fits binary64 lower) × T (fits binary64 upper)
    → lower ⊕ upper ≡ at left i ⊗ lower ⊕ at right i ⊗ upper
beside_is left right i lower upper o =
    ap₂ (λ (y z : Float). y ⊕ z) (sym (times_one (at left i) lower o.0.0 o.1)) (sym (times_one (at right i) upper o.0.1 o.2))

-- a float times 1.0 / 1.0 is itself
pub once : (x : Float) → T (fits binary64 x) → x ⊗ (1ᶠ ⊘ whole (pos 1)) ≡ x
once x t = ap (λ (y : Float). x ⊗ y) (div_one_f binary64 1ᶠ (of_bits-fits binary64 _) ∙ one_whole) ∙ mul_one_f binary64 x t

-- ---- a term more
-- t' is term j after t and s' the sum with it, and c says whether that has converged
pub record Made (p : Operator) (eta : Float) (j : ℕ) (t s t' s' : List Float) (c : Bool) : Type 0 where
  pub term_is : t' ≡ term p eta j t
  pub sum_is : s' ≡ plus p.n s t'
  pub settled : c ≡ converged p.n s' t'

-- by its rows
module _ (p : Operator) (eta : Float) where
  pub made : (j : ℕ) (t s t' s' : List Float) (c : Bool) → t' ≡ tab p.n (λ i. row_at p eta t i ⊗ (1ᶠ ⊘ whole (pos j))) → s' ≡ tab p.n (λ i. at s i ⊕ row_at p eta t i ⊗ (1ᶠ ⊘ whole (pos j)))
      → c ≡ converged p.n s' t' → Made p eta j t s t' s' c
  unfolding term applied plus
  made j t s t' s' c a b e = record {
    term_is = a ∙ tab_ext p.n _ _ (λ i h. rw (at_tab p.n (row_at p eta t) i h));
    sum_is = b ∙ tab_ext p.n _ _ (λ i h. rw (at_stored t' p.n _ i a h));
    settled = e;
  }

-- ---- the entries of a term and of a sum
pub fit_tab : (n : ℕ) (f : ℕ → Float) → ((i : ℕ) → T (fits binary64 (f i))) → Fit (tab n f)
fit_tab n f h i = go (ltb i n) refl
  where
    go : (b : Bool) → ltb i n ≡ b → T (fits binary64 (at (tab n f) i))
    go true e = subst (λ (x : Float). T (fits binary64 x)) (sym (at_tab n f i (ltb-true i n e))) (h i)
    go false e = subst (λ (x : Float). T (fits binary64 x)) (sym (get_or-eq_default (tab n f) nan (rw (length_tab n f) (ltb-false i n e)))) (nan-fits binary64)

-- a sum is finite only where its term is, and where the sum before it is
pub finite_term : (v t : Float) → finite (v ⊕ t) ≡ (finite t && finite (v ⊕ t))
finite_term v t = go (finite t) (finite (v ⊕ t)) (λ h. (add_finite binary64 v t h).1)
  where
    go : (a b : Bool) → (T b → T a) → b ≡ (a && b)
    go true b h = refl
    go false true h = absurd (h tt)
    go false false h = refl

-- a series at its end
pub at_end : (k : ℕ) (p : Operator) (eta : Float) (j : ℕ) (x : Reply (List Float)) → series k p eta j (summed x) ≡ x
unfolding series
at_end zero p eta j x = refl
at_end (suc k) p eta j x = refl
