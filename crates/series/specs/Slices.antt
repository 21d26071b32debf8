-- What the crate's functions make of the slices that they are lent, whatever their lengths: where these do not fit, they stay as they are. A slice has an entry for each row; or, where half is true, for each row up to the centre, and the others mirror them. Definitions only.
use Rattle.std.specs.Prelude.{◌≡◌, ℕ, zero, suc, ◌-◌, Bool, true, false, ◌&&◌, List, pos, length, T, ltb, leb, Float}
use Rattle.std.specs.Float.{binary64}
use Rattle.std.specs.Float.Ieee.{fits}
use Rattle.elementary.specs.Float.{◌⊕◌, ◌⊖◌, ◌⊗◌, ◌⊘◌, whole, 0ᶠ, 1ᶠ}
use Rattle.operator.specs.Vectors.{tab, at, before}
use Rattle.series.specs.Series.{Operator, operator_over, plus, converged, most_terms}
use Rattle.operator.specs.Slices.{past, both_sized}

-- ---- one Taylor step
-- what the rows beside a row give it: through its factors l and r, or plainly, without them
unfoldable pub beside_of : Bool → Float → Float → Float → Float → Float
beside_of true l r lower upper = lower ⊕ upper
beside_of false l r lower upper = l ⊗ lower ⊕ r ⊗ upper

-- to row i: is there a row after it
unfoldable pub beside_at : Bool → Bool → Bool → Operator → List Float → ℕ → Float
beside_at true plain half p x i = beside_of plain (at p.left i) (at p.right i) (before x i) (at x (suc i))
beside_at false plain half p x i = beside_of false (at p.left i) (past half (at p.left i) (at p.right i)) (before x i) (past half (before x i) 0ᶠ)

-- a row: plainly only between the end rows
unfoldable pub slice_row : Bool → Bool → Operator → Float → List Float → ℕ → Float
slice_row half plain p eta x i = eta ⊗ beside_at (ltb (suc i) p.n) (ltb 0 i && plain) half p x i ⊖ at p.diagonal i ⊗ at x i

unfoldable pub slice_term : Bool → Bool → Operator → Float → ℕ → List Float → List Float
slice_term half plain p eta j t = tab p.n (λ i. slice_row half plain p eta t i ⊗ (1ᶠ ⊘ whole (pos j)))

-- a series: its last term, the sum with it, and whether that has converged
pub record SliceSum : Type 0 where
  pub term : List Float
  pub sum : List Float
  pub settled : Bool

abbrev pub sum_of : List Float → List Float → Bool → SliceSum
sum_of t s c = record { term = t; sum = s; settled = c }

-- a term more
unfoldable pub with_term : ℕ → List Float → List Float → SliceSum
with_term n s t = sum_of t (plus n s t) (converged n (plus n s t) t)

-- at most k terms more, the next one being term j: has the series converged
unfoldable pub more_terms : ℕ → Bool → Bool → Bool → Operator → Float → ℕ → SliceSum → SliceSum
more_terms zero c half plain p eta j s = s
more_terms (suc k) true half plain p eta j s = s
more_terms (suc k) false half plain p eta j s =
    let s' = with_term p.n s.sum (slice_term half plain p eta j s.term) in
    more_terms k s'.settled half plain p eta (suc j) s'

-- term 1 is made through the factors
unfoldable pub series_over : Bool → Bool → Operator → Float → List Float → SliceSum
series_over half plain p eta v =
    let s = with_term p.n v (slice_term half false p eta 1 v) in
    more_terms (most_terms - 1) s.settled half plain p eta 2 s

-- at least two rows, and all slices of one length
abbrev pub five_sized : ℕ → ℕ → ℕ → ℕ → ℕ → Bool
five_sized n diag left right term = leb 2 n && both_sized n diag left && both_sized n right term

abbrev pub step_fits : List Float → List Float → List Float → List Float → List Float → Bool
step_fits v diag left right term = five_sized (length v) (length diag) (length left) (length right) (length term)

unfoldable pub step_if : Bool → Bool → Bool → List Float → List Float → Float → List Float → List Float → List Float → SliceSum
step_if false half plain v diag eta left right term = sum_of term v false
step_if true half plain v diag eta left right term = series_over half plain (operator_over (length v) diag left right) eta v

abbrev pub step_over : Bool → Bool → List Float → List Float → Float → List Float → List Float → List Float → SliceSum
step_over half plain v diag eta left right term = step_if (step_fits v diag left right term) half plain v diag eta left right term

-- ---- what is said of slices
-- all as long as the vector
pub record Sizes (n : ℕ) (diag left right term : List Float) : Type 0 where
  pub diag_n : length diag ≡ n
  pub left_n : length left ≡ n
  pub right_n : length right ≡ n
  pub term_n : length term ≡ n

-- each entry is a binary64, past the end too
abbrev pub Fit : List Float → Type 0
Fit l = (i : ℕ) → T (fits binary64 (at l i))
