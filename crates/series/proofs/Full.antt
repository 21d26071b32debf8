-- What n rows of a slice stand for, all rows or those up to the centre: entries by a rule, tests, extremes, and a term of the series. Each law is one for both. Assumes nothing.
use mathlib.Core.Path.{◌≡◌, refl, sym, ap, ap₂, subst, ◌∙◌}
use Prim.Native.Nat.{ℕ, zero, suc, ◌+◌, ◌-◌, ◌*◌, ◌≤◌, ◌<◌}
use native.Mathlib.Nat.{le_refl, lt_of_lt_of_le}
use native.Mathlib.Numerals.{add-one}
use native.Mathlib.Omega.{arith}
use mathlib.Core.Bool.{Bool, true, false, ◌&&◌, cond, and_comm, true≢false}
use mathlib.Core.List.{List}
use borrow.Author.Tests.{lt-ltb, le-ltb, ltb-true, ltb-false}
use lib.IntN.{pos}
use lib.Dec.{T, ltb}
use lib.ListN.{length}
use lib.Ieee.{Float, inf, binary64, lt, fits}
use Rattle.elementary.specs.Float.{◌⊕◌, ◌⊖◌, ◌⊗◌, ◌⊘◌, whole, 0ᶠ, 1ᶠ, finite}
use Rattle.elementary.specs.Elementary.{EXP, or_nan}
use Rattle.operator.specs.Vectors.{tab, at, fill, before, after, every, fold, larger, smaller, Mirror}
use Rattle.operator.specs.Operator.{rows, left_at, right_at}
use Rattle.series.specs.Series.{Operator, operator_over, row_at, plus, small, converged}
use Rattle.operator.specs.Slices.{past, right_by, Ones}
use Rattle.series.specs.Slices.{beside_of, beside_at, slice_row, slice_term, Fit}
use Rattle.series.specs.Half.{filled_out, mirrored, full_size, full_factors, full, full_operator, Centred}
use Rattle.operator.proofs.Lists.{Opposite, length_tab, at_tab, tab_ext, tab_own, every_ext}
use Rattle.operator.proofs.Loops.{before_later, after_within, after_last, fill_tab}
use Rattle.series.proofs.Terms.{row_is, beside_is, Made, made, fit_tab}
use Rattle.series.proofs.Mirror.{row_alike, factors_opposite}
use Rattle.series.proofs.Half.{at_near, at_far, mirrored_turned, mirrored_tab, every_half, largest_half, smallest_half}

-- ---- the entries
pub at_full : (h : Bool) (n : ℕ) (l r : List Float) (i : ℕ) → i < n → at (full_factors h n l r) i ≡ at l i
unfolding full_factors
at_full false n l r i k = refl
at_full true n l r i k = at_near (n - 1) l r i (omega arith)

full_mirror : (h : Bool) (n : ℕ) (l r : List Float) → h ≡ true → Centred h n l r → Mirror (full_size h n) (full_factors h n l r) (full_factors h n r l)
unfolding full_size full_factors Centred
full_mirror false n l r e c = absurd (true≢false (sym e))
full_mirror true n l r e c = mirrored_turned (n - 1) l r (c refl)

-- a vector is its own mirror
pub own : (h : Bool) (n : ℕ) (l : List Float) → h ≡ true → Opposite (full_size h n) (at (full h n l)) (at (full h n l))
unfolding Mirror Centred
own h n l e = full_mirror h n l l e (λ _. refl)

length_full : (h : Bool) (n : ℕ) (l r : List Float) → length l ≡ n → length (full_factors h n l r) ≡ full_size h n
unfolding full_size full_factors filled_out
length_full false n l r e = e
length_full true n l r e = length_tab (rows (n - 1)) _

-- and each entry is a float
pub fit_full : (h : Bool) (n : ℕ) (l : List Float) → Fit l → Fit (full h n l)
unfolding full_factors filled_out
fit_full false n l f = f
fit_full true n l f = fit_tab (rows (n - 1)) _ (λ i. go i (ltb i (suc (n - 1))))
  where
    go : (i : ℕ) (t : Bool) → T (fits binary64 (cond t (at l i) (at l (rows (n - 1) - 1 - i))))
    go i true = f i
    go i false = f (rows (n - 1) - 1 - i)

-- the rows up to the centre
last_row : (n : ℕ) → 1 ≤ n → n ≡ suc (n - 1)
last_row n some = omega arith

pub size_full : (h : Bool) (n : ℕ) → 1 ≤ n → n ≤ full_size h n
unfolding full_size
size_full false n some = le_refl n
size_full true n some = omega arith

-- entries by a rule f, whose opposite is g: F and G in all rows
pub full_tab : (h : Bool) (n : ℕ) (f g F G : ℕ → Float) → 1 ≤ n → (h ≡ true → Opposite (full_size h n) G F) → ((i : ℕ) → i < n → f i ≡ F i) → ((i : ℕ) → i < n → g i ≡ G i)
    → full_factors h n (tab n f) (tab n g) ≡ tab (full_size h n) F
unfolding full_size full_factors
full_tab false n f g F G some m ef eg = tab_ext n f F ef
full_tab true n f g F G some m ef eg =
    ap (λ (k : ℕ). mirrored (n - 1) (tab k f) (tab k g)) (last_row n some)
    ∙ mirrored_tab (n - 1) f g F G (m refl) (λ i k. ef i (omega arith)) (λ i k. eg i (omega arith))

-- ---- tests and extremes over all rows
every_full : (h : Bool) (n : ℕ) (p : ℕ → Bool) → 1 ≤ n → (h ≡ true → Opposite (full_size h n) p p) → every n p ≡ every (full_size h n) p
unfolding full_size
every_full false n p some m = refl
every_full true n p some m = ap (λ (k : ℕ). every k p) (last_row n some) ∙ every_half (n - 1) p (m refl)

pub largest_full : (h : Bool) (n : ℕ) (f : ℕ → Float) → 1 ≤ n → ((i : ℕ) → T (fits binary64 (f i))) → (h ≡ true → Opposite (full_size h n) f f)
    → fold larger 0ᶠ (tab n f) ≡ fold larger 0ᶠ (tab (full_size h n) f)
unfolding full_size
largest_full false n f some v m = refl
largest_full true n f some v m = ap (λ (k : ℕ). fold larger 0ᶠ (tab k f)) (last_row n some) ∙ largest_half (n - 1) f (m refl) v

pub smallest_full : (h : Bool) (n : ℕ) (f : ℕ → Float) (c : Float) → 1 ≤ n → (h ≡ true → Opposite (full_size h n) f f)
    → lt (fold smaller (inf false) (tab n f)) c ≡ lt (fold smaller (inf false) (tab (full_size h n) f)) c
unfolding full_size
smallest_full false n f c some m = refl
smallest_full true n f c some m = ap (λ (k : ℕ). lt (fold smaller (inf false) (tab k f)) c) (last_row n some) ∙ smallest_half (n - 1) f (m refl) c

module _ (h : Bool) (n : ℕ) (some : 1 ≤ n) where
  -- two vectors, entry by entry
  pub full_with : (g : Float → Float → Float) (s t : List Float) → full h n (tab n (λ i. g (at s i) (at t i))) ≡ tab (full_size h n) (λ i. g (at (full h n s) i) (at (full h n t) i))
  full_with g s t =
      let e : (i : ℕ) → i < n → g (at s i) (at t i) ≡ g (at (full h n s) i) (at (full h n t) i) = λ i k. sym (ap₂ g (at_full h n s s i k) (at_full h n t t i k)) in
      full_tab h n _ _ _ _ some (λ y i j o. ap₂ g (own h n s y i j o) (own h n t y i j o)) e e

  pub every_with : (p : Float → Float → Bool) (s t : List Float) → every n (λ i. p (at s i) (at t i)) ≡ every (full_size h n) (λ i. p (at (full h n s) i) (at (full h n t) i))
  every_with p s t =
      every_ext n _ _ (λ i k. sym (ap₂ p (at_full h n s s i k) (at_full h n t t i k)))
      ∙ every_full h n _ some (λ y i j o. ap₂ p (own h n s y i j o) (own h n t y i j o))

  pub full_fill : (x : Float) → full h n (fill n x) ≡ fill (full_size h n) x
  full_fill x = ap (full h n) (fill_tab n x) ∙ full_tab h n _ _ _ _ some (λ y i j o. refl) (λ i k. refl) (λ i k. refl) ∙ sym (fill_tab (full_size h n) x)

  -- the entries of a slice of n, and of what it stands for
  pub own_tab : (l : List Float) → length l ≡ n → l ≡ tab n (at (full h n l))
  own_tab l e = tab_own n l e ∙ tab_ext n _ _ (λ i k. sym (at_full h n l l i k))

  pub full_own_tab : (l : List Float) → length l ≡ n → tab (full_size h n) (at (full h n l)) ≡ full h n l
  full_own_tab l e = sym (tab_own (full_size h n) (full h n l) (length_full h n l l e))

-- ---- a row of the operator, and a term of the series
module _ (h : Bool) (n : ℕ) (x : List Float) where
  before_full : (k : ℕ) → k < n → before x k ≡ before (full h n x) k
  unfolding before
  before_full zero l = refl
  before_full (suc k) l = sym (at_full h n x x k (omega arith))

  after_full : (k : ℕ) → k + 1 < n → at x (k + 1) ≡ after (full_size h n) (full h n x) k
  after_full k l = sym (at_full h n x x (k + 1) l) ∙ after_within (full h n x) (full_size h n) k (lt_of_lt_of_le l (size_full h n (omega arith)))

-- past the last row
after_last_full : (h : Bool) (n : ℕ) (x : List Float) (k : ℕ) → 2 ≤ n → k + 1 ≡ n → past h (before x k) 0ᶠ ≡ after (full_size h n) (full h n x) k
unfolding full_size full_factors
after_last_full false n x k two e = after_last x n k (omega arith)
after_last_full true n x k two e =
    let c : k ≡ n - 1 = omega arith in
    let f : 2 * (n - 1) - (k + 1) ≡ k - 1 = omega arith in
    sym (before_later x k (omega arith)) ∙ sym (at_far (n - 1) x x (k + 1) (omega arith) (omega arith) ∙ ap (at x) f) ∙ after_within (mirrored (n - 1) x x) (rows (n - 1)) k (omega arith)

module _ (h : Bool) (n : ℕ) (d left right : List Float) (eta : Float) (two : 2 ≤ n) (c : Centred h n left right) where
  abbrev whole_operator : Operator
  whole_operator = full_operator h n d left right

  -- row k from the entries beside it, as the code reads them
  row_full : (x : List Float) (k : ℕ) (v lower upper : Float) → k < n → lower ≡ before x k → upper ≡ after (full_size h n) (full h n x) k
      → v ≡ eta ⊗ (at left k ⊗ lower ⊕ at right k ⊗ upper) ⊖ at d k ⊗ at x k → v ≡ row_at whole_operator eta (full h n x) k
  row_full x k v lower upper l el eu e =
      row_is whole_operator eta (full h n x) k v lower upper (el ∙ before_full h n x k l) eu
      (rw (at_full h n left right k l, at_full h n right left k l, at_full h n d d k l, at_full h n x x k l) e)

  row_opposite : (x : List Float) → h ≡ true → Opposite (full_size h n) (row_at whole_operator eta (full h n x)) (row_at whole_operator eta (full h n x))
  unfolding Centred
  row_opposite x e =
      row_alike (full_size h n) (full h n d) (full h n d) (full_factors h n left right) (full_factors h n left right) (full_factors h n right left) (full_factors h n right left)
      (full_mirror h n d d e (λ _. refl)) (full_mirror h n left right e c) (full_mirror h n right left e (λ t. sym (c t))) eta (full h n x) (full h n x) (full_mirror h n x x e (λ _. refl))

  -- a term by its rows, and the sums with it
  module _ (s t' s' : List Float) (f : ℕ → Float) (m : h ≡ true → Opposite (full_size h n) f f) (et : t' ≡ tab n f) (es : s' ≡ tab n (λ i. at s i ⊕ f i)) where
    term_full : full h n t' ≡ tab (full_size h n) f
    term_full = ap (full h n) et ∙ full_tab h n f f f f (omega arith) m (λ i k. refl) (λ i k. refl)

    sum_full : full h n s' ≡ tab (full_size h n) (λ i. at (full h n s) i ⊕ f i)
    sum_full =
        let e : (i : ℕ) → i < n → at s i ⊕ f i ≡ at (full h n s) i ⊕ f i = λ i k. ap (λ (x : Float). x ⊕ f i) (sym (at_full h n s s i k)) in
        ap (full h n) es ∙ full_tab h n _ _ _ _ (omega arith) (λ y i j o. ap₂ (λ (p q : Float). p ⊕ q) (own h n s y i j o) (m y i j o)) e e

  converged_full : (s t : List Float) (c : Bool) → c ≡ converged n s t → c ≡ converged (full_size h n) (full h n s) (full h n t)
  unfolding converged
  converged_full s t c e = e ∙ every_with h n (omega arith) small s t

  made_full : (j : ℕ) (t s t' s' : List Float) (k : Bool) → t' ≡ tab n (λ i. row_at whole_operator eta (full h n t) i ⊗ (1ᶠ ⊘ whole (pos j)))
      → s' ≡ tab n (λ i. at s i ⊕ row_at whole_operator eta (full h n t) i ⊗ (1ᶠ ⊘ whole (pos j))) → k ≡ converged n s' t'
      → Made whole_operator eta j (full h n t) (full h n s) (full h n t') (full h n s') k
  made_full j t s t' s' k et es e =
      let m : h ≡ true → Opposite (full_size h n) (λ i. row_at whole_operator eta (full h n t) i ⊗ (1ᶠ ⊘ whole (pos j))) (λ i. row_at whole_operator eta (full h n t) i ⊗ (1ᶠ ⊘ whole (pos j))) =
      λ y a b o. ap (λ (x : Float). x ⊗ (1ᶠ ⊘ whole (pos j))) (row_opposite t y a b o) in
      made whole_operator eta j _ _ _ _ k (term_full s t' s' _ m et es) (sum_full s t' s' _ m et es) (converged_full s' t' k e)

  -- a row of a slice
  module _ (plain : Bool) (x : List Float) (f : plain ≡ true → Ones n left right × Fit x) where
    abbrev row : ℕ → Float
    row = slice_row h plain (operator_over n d left right) eta x

    -- a row that is made plainly has factors of 1.0
    besides : (i : ℕ) → i + 1 < n → beside_of (ltb 0 i && plain) (at left i) (at right i) (before x i) (at x (suc i)) ≡ at left i ⊗ before x i ⊕ at right i ⊗ at x (suc i)
    unfolding beside_of
    besides i k = go (ltb 0 i) plain refl refl
      where
        go : (s t : Bool) → ltb 0 i ≡ s → plain ≡ t → beside_of (s && t) (at left i) (at right i) (before x i) (at x (suc i)) ≡ at left i ⊗ before x i ⊕ at right i ⊗ at x (suc i)
        go true true es et =
            let some = ltb-true 0 i es in
            beside_is left right i (before x i) (at x (suc i)) ((f et).0 i some k, subst (λ (y : Float). T (fits binary64 y)) (before_later x i some) ((f et).1 (i - 1)), (f et).1 (suc i))
        go true false es et = refl
        go false t es et = refl

    row_within : (i : ℕ) → i + 1 < n → row i ≡ row_at whole_operator eta (full h n x) i
    unfolding slice_row beside_at
    row_within i k =
        row_full x i (row i) (before x i) (at x (suc i)) (omega arith) refl (ap (at x) (sym (add-one i)) ∙ after_full h n x i k)
        (ap (λ (t : Bool). eta ⊗ beside_at t (ltb 0 i && plain) h (operator_over n d left right) x i ⊖ at d i ⊗ at x i) (lt-ltb (suc i) n (omega arith))
        ∙ ap (λ (y : Float). eta ⊗ y ⊖ at d i ⊗ at x i) (besides i k))

    -- the centre's factors are equal
    past_same : (i : ℕ) → i + 1 ≡ n → past h (at left i) (at right i) ≡ at right i
    unfolding Centred
    past_same i k = go h refl
      where
        go : (t : Bool) → h ≡ t → cond t (at left i) (at right i) ≡ at right i
        go true e = let m : i ≡ n - 1 = omega arith in rw m (c e)
        go false e = refl

    row_end : (i : ℕ) → i + 1 ≡ n → row i ≡ row_at whole_operator eta (full h n x) i
    unfolding slice_row beside_at beside_of
    row_end i k =
        row_full x i (row i) (before x i) (past h (before x i) 0ᶠ) (omega arith) refl (after_last_full h n x i two k)
        (ap (λ (t : Bool). eta ⊗ beside_at t (ltb 0 i && plain) h (operator_over n d left right) x i ⊖ at d i ⊗ at x i) (le-ltb (suc i) n (omega arith))
        ∙ ap (λ (y : Float). eta ⊗ (at left i ⊗ before x i ⊕ y ⊗ past h (before x i) 0ᶠ) ⊖ at d i ⊗ at x i) (past_same i k))

    row_slice : (i : ℕ) → i < n → row i ≡ row_at whole_operator eta (full h n x) i
    row_slice i k = go (ltb (i + 1) n) refl
      where
        go : (t : Bool) → ltb (i + 1) n ≡ t → row i ≡ row_at whole_operator eta (full h n x) i
        go true e = row_within i (ltb-true (i + 1) n e)
        go false e = row_end i (omega (arith, ltb-false (i + 1) n e))

    -- a term over slices, and the sum with it
    pub made_slice : (j : ℕ) (s : List Float) → let t' = slice_term h plain (operator_over n d left right) eta j x in
        Made whole_operator eta j (full h n x) (full h n s) (full h n t') (full h n (plus n s t')) (converged n (plus n s t') t')
    unfolding slice_term plus
    made_slice j s =
        let inv = 1ᶠ ⊘ whole (pos j) in
        let e : (i : ℕ) → i < n → row i ⊗ inv ≡ row_at whole_operator eta (full h n x) i ⊗ inv = λ i k. ap (λ (y : Float). y ⊗ inv) (row_slice i k) in
        made_full j x s _ _ _ (tab_ext n _ _ e) (tab_ext n _ _ (λ i k. ap (λ (y : Float). at s i ⊕ y) (at_tab n (λ m. row m ⊗ inv) i k ∙ e i k))) refl

-- ---- the factors of a plan
left_near : (h : Bool) (n : ℕ) (o : List Float) (i : ℕ) → i < n → left_at o i ≡ left_at (full h n o) i
unfolding left_at
left_near h n o zero k = refl
left_near h n o (suc i) k = sym (ap₂ (λ (x y : Float). or_nan (EXP (x ⊖ y))) (at_full h n o o i (omega arith)) (at_full h n o o (suc i) k))

right_inner : (h : Bool) (n : ℕ) (o : List Float) (i : ℕ) → suc i < n → right_by h n o i ≡ right_at (full_size h n) (full h n o) i
unfolding right_by right_at
right_inner h n o i k =
    rw (lt-ltb (suc i) n k, lt-ltb (suc i) (full_size h n) (lt_of_lt_of_le k (size_full h n (omega arith))))
    (sym (ap₂ (λ (x y : Float). or_nan (EXP (x ⊖ y))) (at_full h n o o (suc i) k) (at_full h n o o i (omega arith))))

right_last : (h : Bool) (n : ℕ) (o : List Float) (i : ℕ) → suc (suc i) ≡ n → right_by h n o (suc i) ≡ right_at (full_size h n) (full h n o) (suc i)
unfolding right_by right_at left_at full_size full_factors
right_last false n o i e = refl
right_last true n o i e =
    let c : suc i ≡ n - 1 = omega arith in
    let f : 2 * (n - 1) - suc (suc i) ≡ i = omega arith in
    rw (le-ltb (suc (suc i)) n (omega arith), lt-ltb (suc (suc i)) (rows (n - 1)) (omega arith))
    (sym (ap₂ (λ (x y : Float). or_nan (EXP (x ⊖ y))) (at_far (n - 1) o o (suc (suc i)) (omega arith) (omega arith) ∙ ap (at o) f) (at_near (n - 1) o o (suc i) (omega arith))))

module _ (h : Bool) (n : ℕ) (o : List Float) (two : 2 ≤ n) where
  right_near : (i : ℕ) → i < n → right_by h n o i ≡ right_at (full_size h n) (full h n o) i
  right_near i k = go (ltb (suc i) n) refl
    where
      go : (t : Bool) → ltb (suc i) n ≡ t → right_by h n o i ≡ right_at (full_size h n) (full h n o) i
      go true e = right_inner h n o i (ltb-true (suc i) n e)
      go false e =
          let l = ltb-false (suc i) n e in
          let p : i ≡ suc (i - 1) = omega arith in
          subst (λ (j : ℕ). right_by h n o j ≡ right_at (full_size h n) (full h n o) j) (sym p) (right_last h n o (i - 1) (omega arith))

  sides : h ≡ true → Opposite (full_size h n) (left_at (full h n o)) (right_at (full_size h n) (full h n o))
  unfolding Centred
  sides y = factors_opposite (full_size h n) (full h n o) (full h n o) (full_mirror h n o o y (λ _. refl))

  pub left_full : full_factors h n (tab n (left_at o)) (tab n (right_by h n o)) ≡ tab (full_size h n) (left_at (full h n o))
  left_full = full_tab h n _ _ _ _ (omega arith) (λ y i j e. sym (sides y j i (omega arith))) (left_near h n o) right_near

  pub right_full : full_factors h n (tab n (right_by h n o)) (tab n (left_at o)) ≡ tab (full_size h n) (right_at (full_size h n) (full h n o))
  right_full = full_tab h n _ _ _ _ (omega arith) (λ y i j e. sides y i j e) right_near (left_near h n o)

-- the centre's are equal
pub centred_factors : (h : Bool) (n : ℕ) (o l r : List Float) → 1 ≤ n → l ≡ tab n (left_at o) → r ≡ tab n (right_by h n o) → Centred h n l r
unfolding Centred right_by
centred_factors h n o l r some el er y =
    rw (el, er, at_tab n (left_at o) (n - 1) (omega arith), at_tab n (right_by h n o) (n - 1) (omega arith), y, le-ltb (suc (n - 1)) n (omega arith))

-- all rows: the right factors are those of the definition
pub right_whole : (n : ℕ) (o : List Float) → tab n (right_by false n o) ≡ tab n (right_at n o)
unfolding right_by right_at
right_whole n o = refl

-- ---- whether every factor is finite
module _ (h : Bool) (n : ℕ) (l r : List Float) (some : 1 ≤ n) (c : Centred h n l r) where
  pub left_opposite : h ≡ true → Opposite (full_size h n) (at (full_factors h n l r)) (at (full_factors h n r l))
  unfolding Mirror
  left_opposite y = full_mirror h n l r y c

  pub right_opposite : h ≡ true → Opposite (full_size h n) (at (full_factors h n r l)) (at (full_factors h n l r))
  right_opposite y i j e = sym (left_opposite y j i (omega arith))

  pub finite_full : every n (λ i. finite (at l i) && finite (at r i)) ≡ every (full_size h n) (λ i. finite (at (full_factors h n l r) i) && finite (at (full_factors h n r l) i))
  finite_full =
      every_ext n _ _ (λ i k. sym (ap₂ (λ (x y : Float). finite x && finite y) (at_full h n l r i k) (at_full h n r l i k)))
      ∙ every_full h n _ some
      (λ y i j e. ap₂ (λ (p q : Float). finite p && finite q) (left_opposite y i j e) (right_opposite y i j e) ∙ and_comm (finite (at (full_factors h n r l) j)) (finite (at (full_factors h n l r) j)))
