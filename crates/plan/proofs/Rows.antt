-- Before any rebalancing each factor is 1.0. Then, without a drift, the row sums grow toward the ends, but an end row has one neighbour, so the end row or the one next to it has the largest. Assumes nothing.
use Rattle.std.proofs.Common.{◌≡◌, ℕ, zero, suc, ◌+◌, ◌-◌, ◌*◌, ◌<◌, ◌≤◌, Bool, true, false, cond, not, ◌&&◌, T, ltb, ◌⊎◌, List, pos, nat_abs, sym, refl, ap, ◌∙◌, subst, inl, inr, le_trans, le_of_eq, arith, ltb-false, ltb-true, le-ltb, lt-ltb}
use lib.ListN.{get_or-replicate}
use lib.Ieee.{Float, nan, binary64, minus, lt, le, eq, is_nan, fits, round, add, sub, of_int, of_bits}
use lib.Ieee.Fits.{add-fits}
use lib.Ieee.Bits.{is_true}
use Rattle.elementary.specs.Float.{◌⊕◌, ◌⊖◌, ◌⊗◌, whole, 0ᶠ, 1ᶠ, 2ᶠ, finite, positive}
use Rattle.elementary.specs.Elementary.{EXP, or_nan}
use Rattle.elementary.proofs.Signs.{nonneg, add_finite, mul_finite}
use Rattle.elementary.proofs.Order.{of_int_mono, le_refl_f, lt→le, finite_below, add_nonneg, add_mono, mul_nonneg, mul_number, mul_twice_number, mul_mono, positive_nonneg}
use Rattle.elementary.proofs.ExpZero.{exp_at_zero}
use Rattle.operator.specs.Vectors.{tab, at, fill, every, larger}
use Rattle.operator.specs.Operator.{left_at, right_at, rows}
use Rattle.plan.specs.Plan.{norm, bound_ok, diagonal_finite}
use Rattle.plan.specs.Count.{first_norm, row_sum}
use Rattle.operator.proofs.Lists.{at_tab, every_ext, every_true}
use Rattle.operator.proofs.Loops.{fold_at}
use Rattle.series.proofs.Extremes.{not_above, first_two}
use Rattle.plan.specs.Drift.{driftless_diagonal, driftless_fixed}
use Rattle.plan.proofs.Lots.{lots, lots_of, lots_are, diagonal_is}
use Rattle.plan.proofs.Plans.{whole_nonneg}
use Rattle.plan.proofs.Bounds.{bound_range}

-- ---- the factors
exp_zero : or_nan (EXP (0ᶠ ⊖ 0ᶠ)) ≡ 1ᶠ
unfolding or_nan eq sub of_bits
exp_zero = ap or_nan (exp_at_zero (0ᶠ ⊖ 0ᶠ) refl)

module _ (n : ℕ) where
  abbrev none : List Float
  none = fill n 0ᶠ

  pub left_one : (i : ℕ) → suc i < n → left_at none (suc i) ≡ 1ᶠ
  unfolding left_at
  left_one i h = rw (get_or-replicate n i 0ᶠ nan (omega arith), get_or-replicate n (suc i) 0ᶠ nan h) exp_zero

  pub right_one : (i : ℕ) → suc i < n → right_at n none i ≡ 1ᶠ
  unfolding right_at
  right_one i h = rw (lt-ltb (suc i) n h, get_or-replicate n i 0ᶠ nan (omega arith), get_or-replicate n (suc i) 0ᶠ nan h) exp_zero

  right_end : (i : ℕ) → suc i ≡ n → right_at n none i ≡ 0ᶠ
  unfolding right_at
  right_end i h = rw (le-ltb (suc i) n (omega arith))

  -- each is finite, so of the first plan's tests the norm's alone is left
  left_fine : (i : ℕ) → i < n → finite (left_at none i) ≡ true
  unfolding left_at finite of_bits
  left_fine zero h = refl
  left_fine (suc i) h = rw (left_one i h) refl

  right_fine : (i : ℕ) → i < n → finite (right_at n none i) ≡ true
  unfolding finite of_bits
  right_fine i h = go (ltb (suc i) n) refl
    where
      go : (t : Bool) → ltb (suc i) n ≡ t → finite (right_at n none i) ≡ true
      go true e = rw (right_one i (ltb-true (suc i) n e)) refl
      go false e = rw (right_end i (omega (arith, ltb-false (suc i) n e))) refl

  pub factors_fine : every n (λ i. finite (at (tab n (left_at none)) i) && finite (at (tab n (right_at n none)) i)) ≡ true
  factors_fine = every_ext n _ (λ i. true) (λ i h. rw (at_tab n (left_at none) i h, at_tab n (right_at n none) i h, left_fine i h, right_fine i h)) ∙ every_true n

-- ---- the sum of each row
module _ (b : ℕ) (alpha eta : Float) where
  row : ℕ → Float
  row i = at (tab (rows b) (driftless_diagonal b alpha eta)) i ⊕ eta ⊗ (at (tab (rows b) (left_at (none (rows b)))) i ⊕ at (tab (rows b) (right_at (rows b) (none (rows b)))) i)

  row_is : (i : ℕ) (l r f : Float) → i < rows b → left_at (none (rows b)) i ≡ l → right_at (rows b) (none (rows b)) i ≡ r → l ⊕ r ≡ f → row i ≡ row_sum alpha eta (lots b i) f
  unfolding row row_sum
  row_is i l r f h el er ef =
      rw (at_tab (rows b) (driftless_diagonal b alpha eta) i h, at_tab (rows b) (left_at (none (rows b))) i h, at_tab (rows b) (right_at (rows b) (none (rows b))) i h, diagonal_is b alpha eta i, el, er, ef)

  -- the end rows, and those between them
  row_first : 1 ≤ b → row 0 ≡ row_sum alpha eta b 1ᶠ
  unfolding left_at add of_bits
  row_first h = row_is 0 0ᶠ 1ᶠ 1ᶠ (omega arith) refl (right_one (rows b) 0 (omega arith)) refl ∙ ap (λ (m : ℕ). row_sum alpha eta m 1ᶠ) (lots_are b 0 ∙ omega arith)

  row_last : (i : ℕ) → suc (suc i) ≡ rows b → row (suc i) ≡ row_sum alpha eta b 1ᶠ
  unfolding add of_bits
  row_last i h = row_is (suc i) 1ᶠ 0ᶠ 1ᶠ (omega arith) (left_one (rows b) i (omega arith)) (right_end (rows b) (suc i) h) refl ∙ ap (λ (m : ℕ). row_sum alpha eta m 1ᶠ) (lots_are b (suc i) ∙ omega arith)

  row_inner : (i : ℕ) → suc (suc i) < rows b → row (suc i) ≡ row_sum alpha eta (lots b (suc i)) 2ᶠ
  unfolding add of_bits
  row_inner i h = row_is (suc i) 1ᶠ 1ᶠ 2ᶠ (omega arith) (left_one (rows b) i (omega arith)) (right_one (rows b) (suc i) h) refl

-- ---- the sums of rows with as many neighbours grow with the lots
pub whole_finite : (m : ℕ) → m ≤ 200 → T (finite (whole (pos m)))
unfolding finite of_int round
whole_finite m h = finite_below (whole (pos m)) (whole (pos 200)) (whole_nonneg m) (of_int_mono binary64 m 200 h) large
  where
    large : T (finite (whole (pos 200)))
    large = tt

module _ (alpha eta : Float) (a : T (positive alpha)) (e : T (positive eta)) where
  a+ : T (nonneg alpha) × T (finite alpha)
  a+ = positive_nonneg alpha a

  e+ : T (nonneg eta) × T (finite eta)
  e+ = positive_nonneg eta e

  -- alpha × q, its square and the row sum are numbers, at or above zero
  module _ (m : ℕ) (h : m ≤ 200) where
    once : Float
    once = alpha ⊗ whole (pos m)

    once_number : T (not (is_nan once))
    unfolding once
    once_number = mul_number binary64 alpha (whole (pos m)) a+.1 (whole_finite m h)

    once_nonneg : T (nonneg once)
    unfolding once
    once_nonneg = mul_nonneg binary64 alpha (whole (pos m)) a+.0 (whole_nonneg m) once_number

    twice_number : T (not (is_nan (once ⊗ whole (pos m))))
    unfolding once
    twice_number = mul_twice_number binary64 alpha (whole (pos m)) a+.0 a+.1 (whole_nonneg m) (whole_finite m h)

    twice_nonneg : T (nonneg (once ⊗ whole (pos m)))
    twice_nonneg = mul_nonneg binary64 once (whole (pos m)) once_nonneg (whole_nonneg m) twice_number

  -- eta times 1.0 or 2.0
  eta_times : (f : Float) → T (nonneg f) → T (finite f) → T (nonneg (eta ⊗ f))
  eta_times f p t = mul_nonneg binary64 eta f e+.0 p (mul_number binary64 eta f e+.1 t)

  two_etas : T (nonneg (2ᶠ ⊗ eta))
  unfolding finite of_bits
  two_etas = mul_nonneg binary64 2ᶠ eta tt e+.0 (mul_number binary64 2ᶠ eta tt e+.1)

  -- a row's diagonal, and its sum with factors that add up to f
  pub square_nonneg : (m : ℕ) → m ≤ 200 → T (nonneg (alpha ⊗ whole (pos m) ⊗ whole (pos m)))
  unfolding once
  square_nonneg m h = twice_nonneg m h

  abbrev diagonal_of : ℕ → Float
  diagonal_of m = alpha ⊗ whole (pos m) ⊗ whole (pos m) ⊕ 2ᶠ ⊗ eta

  pub diag_nonneg : (m : ℕ) → m ≤ 200 → T (nonneg (diagonal_of m))
  diag_nonneg m h = add_nonneg binary64 _ _ (square_nonneg m h) two_etas

  diag_grows : (m n : ℕ) → m ≤ n → n ≤ 200 → T (le (diagonal_of m) (diagonal_of n))
  unfolding once
  diag_grows m n h k =
      let l : m ≤ 200 = omega arith in
      let q = of_int_mono binary64 m n h in
      let first = mul_mono binary64 alpha alpha (whole (pos m)) (whole (pos n)) a+.0 a+.0 (whole_nonneg m) (whole_nonneg n) (once_number m l) (once_number n k) (le_refl_f alpha a+.0) q in
      let square = mul_mono binary64 (once m l) (once n k) (whole (pos m)) (whole (pos n)) (once_nonneg m l) (once_nonneg n k) (whole_nonneg m) (whole_nonneg n) (twice_number m l) (twice_number n k) first q in
      add_mono binary64 _ _ _ _ (twice_nonneg m l) (twice_nonneg n k) two_etas two_etas square (le_refl_f _ two_etas)

  module _ (f : Float) (p : T (nonneg f)) (t : T (finite f)) where
    sum_nonneg : (m : ℕ) → m ≤ 200 → T (nonneg (row_sum alpha eta m f))
    unfolding row_sum
    sum_nonneg m h = add_nonneg binary64 _ _ (diag_nonneg m h) (eta_times f p t)

    sum_grows : (m n : ℕ) → m ≤ n → n ≤ 200 → T (le (row_sum alpha eta m f) (row_sum alpha eta n f))
    unfolding row_sum
    sum_grows m n h k =
        add_mono binary64 _ _ _ _ (diag_nonneg m (omega arith)) (diag_nonneg n k) (eta_times f p t) (eta_times f p t) (diag_grows m n h k) (le_refl_f _ (eta_times f p t))

-- ---- the largest of them
pub two_rows_driftless : (b : ℕ) (alpha eta : Float) → bound_ok b ≡ true → positive alpha ≡ true → positive eta ≡ true
    → first_norm (driftless_fixed b alpha eta) ≡ larger (row_sum alpha eta b 1ᶠ) (row_sum alpha eta (b - 1) 2ᶠ)
unfolding norm driftless_fixed row row_sum finite of_bits
two_rows_driftless b alpha eta ok pa pe =
    fold_at larger 0ᶠ (rows b) (suc (suc (2 * b - 1))) f (omega (arith, low))
    ∙ first_two (2 * b - 1) f (rw first (x+, held)) below
    ∙ rw (first, second)
  where
    range : (1 ≤ b) × (b ≤ 200)
    range = bound_range b ok

    low : 1 ≤ b
    low = range.0

    high : b ≤ 200
    high = range.1

    a : T (positive alpha)
    a = rw pa tt

    e : T (positive eta)
    e = rw pe tt

    f : ℕ → Float
    f = row b alpha eta

    x : Float
    x = row_sum alpha eta b 1ᶠ

    y : Float
    y = row_sum alpha eta (b - 1) 2ᶠ

    first : f 0 ≡ x
    first = row_first b alpha eta low

    second : f 1 ≡ y
    second = row_inner b alpha eta 0 (omega (arith, low)) ∙ ap (λ (m : ℕ). row_sum alpha eta m 2ᶠ) (lots_are b 1 ∙ omega (arith, low))

    x+ : T (nonneg x)
    x+ = sum_nonneg alpha eta a e 1ᶠ tt tt b high

    held : T (fits binary64 x)
    held = add-fits binary64 _ _

    y+ : T (nonneg y)
    y+ = sum_nonneg alpha eta a e 2ᶠ tt tt (b - 1) (omega (arith, high))

    -- another row: the other end, or one with no more lots than the second
    other : (i : ℕ) → 1 ≤ i → suc i < rows b → T (nonneg (f (suc i))) × (T (le (f (suc i)) x) ⊎ T (le (f (suc i)) y))
    other i h k = go (ltb (suc (suc i)) (rows b)) refl
      where
        go : (t : Bool) → ltb (suc (suc i)) (rows b) ≡ t → T (nonneg (f (suc i))) × (T (le (f (suc i)) x) ⊎ T (le (f (suc i)) y))
        go false l = rw (row_last b alpha eta i (omega (arith, ltb-false (suc (suc i)) (rows b) l))) (x+, inl (le_refl_f x x+))
        go true l =
            let inner : suc (suc i) < rows b = ltb-true (suc (suc i)) (rows b) l in
            let few : lots b (suc i) ≤ b - 1 = rw (lots_are b (suc i)) (omega (arith, low)) in
            rw (row_inner b alpha eta i inner)
            (sum_nonneg alpha eta a e 2ᶠ tt tt (lots b (suc i)) (omega (arith, high)), inr (sum_grows alpha eta a e 2ᶠ tt tt (lots b (suc i)) (b - 1) few (omega (arith, high))))

    below : (j : ℕ) → 2 ≤ j → j < 2 + (2 * b - 1) → lt (larger (f 0) (f 1)) (f j) ≡ false
    below zero h k = absurd (omega arith)
    below (suc i) h k = let (p, q) = other i (omega arith) (omega (arith, low)) in rw (first, second) (not_above x y (f (suc i)) x+ y+ p q)

-- ---- where tau times it is finite and positive, so is the end row's sum finite, and with it every entry of the diagonal
first_below : (x y : Float) → T (nonneg x) → T (nonneg y) → T (le x (larger x y))
unfolding larger
first_below x y p q = go (lt x y) refl
  where
    go : (t : Bool) → lt x y ≡ t → T (le x (cond t y x))
    go true e = lt→le x y (rw e tt)
    go false e = le_refl_f x p

pub few_lots : (b i : ℕ) → i < rows b → lots b i ≤ b
few_lots b i h = rw (lots_are b i) (omega arith)

pub few_rows : (b i : ℕ) → i < rows b → nat_abs (minus i b) ≤ b
few_rows b i h = le_trans (le_of_eq (sym (lots_of b i))) (few_lots b i h)

module _ (b : ℕ) (alpha eta : Float) (ok : bound_ok b ≡ true) (pa : positive alpha ≡ true) (pe : positive eta ≡ true) where
  -- every entry is at or above zero, and at most that of the end row
  pub entry_nonneg : (i : ℕ) → i < rows b → T (nonneg (driftless_diagonal b alpha eta i))
  entry_nonneg i h = rw (diagonal_is b alpha eta i) (diag_nonneg alpha eta (rw pa tt) (rw pe tt) (lots b i) (le_trans (few_lots b i h) (bound_range b ok).1))

  entry_finite : T (finite (row_sum alpha eta b 1ᶠ)) → (i : ℕ) → i < rows b → finite (driftless_diagonal b alpha eta i) ≡ true
  unfolding row_sum
  entry_finite t i h =
      let few = few_lots b i h in
      let high = (bound_range b ok).1 in
      rw (diagonal_is b alpha eta i)
      (is_true _ (finite_below _ _ (diag_nonneg alpha eta (rw pa tt) (rw pe tt) (lots b i) (le_trans few high)) (diag_grows alpha eta (rw pa tt) (rw pe tt) (lots b i) b few high) (add_finite binary64 _ _ t).0))

  end_finite : (tau : Float) → positive (tau ⊗ first_norm (driftless_fixed b alpha eta)) ≡ true → T (finite (row_sum alpha eta b 1ᶠ))
  unfolding finite of_bits
  end_finite tau h =
      let high = (bound_range b ok).1 in
      let x+ = sum_nonneg alpha eta (rw pa tt) (rw pe tt) 1ᶠ tt tt b high in
      let y+ = sum_nonneg alpha eta (rw pa tt) (rw pe tt) 2ᶠ tt tt (b - 1) (omega (arith, high)) in
      let norm-finite = (mul_finite binary64 tau (first_norm (driftless_fixed b alpha eta)) (positive_nonneg (tau ⊗ first_norm (driftless_fixed b alpha eta)) (rw h tt)).1).1 in
      finite_below _ _ x+ (first_below _ _ x+ y+) (subst (λ (z : Float). T (finite z)) (two_rows_driftless b alpha eta ok pa pe) norm-finite)

  pub sized_finite : (tau : Float) → positive (tau ⊗ first_norm (driftless_fixed b alpha eta)) ≡ true → diagonal_finite (driftless_fixed b alpha eta) ≡ true
  unfolding driftless_fixed
  sized_finite tau h =
      every_ext (rows b) _ (λ i. true) (λ i k. rw (at_tab (rows b) (driftless_diagonal b alpha eta) i k) (entry_finite (end_finite tau h) i k)) ∙ every_true (rows b)
