-- From either end a vector has the same largest entry, and a smallest entry on the same side of a limit; the first two may hold the largest. NaNs, infinities and both zeros may be among the entries. Assumes nothing.
use mathlib.Core.Path.{◌≡◌, refl, sym, ap, subst, ◌∙◌}
use Prim.Native.Nat.{ℕ, zero, suc, ◌+◌, ◌*◌, ◌≤◌, ◌<◌}
use native.Mathlib.Nat.{le_refl, le_antisymm}
use native.Mathlib.Numerals.{add-one}
use native.Mathlib.Omega.{arith}
use mathlib.Core.Logic.{◌⊎◌, inl, inr}
use mathlib.Core.Bool.{Bool, true, false, not, ◌&&◌, cond, and_assoc, and_comm, and-true, true≢false, false≢true, not-not}
use borrow.Author.Tests.{ltb-true, ltb-false, le-ltb}
use lib.IntN.{pos}
use lib.Dec.{T, not_T, ltb}
use lib.Ieee.{Float, nan, inf, fin, Format, binary64, up, down, below, lt, le, fits, is_nan, of_bits}
use lib.Ieee.Fits.{down_pos}
use lib.Ieee.Bits.{is_true, is_false, of_bits-fits}
use lib.Ieee.Positive.{through}
use Rattle.elementary.specs.Float.{0ᶠ, finite, positive}
use Rattle.elementary.proofs.Signs.{nonneg}
use Rattle.elementary.proofs.Order.{le_trans_f, not_lt→le, lt→le, lt→not_ge, finite_below}
use Rattle.elementary.proofs.Exact.{value_unique, zero_is}
use Rattle.operator.specs.Vectors.{from, tab, every_from, every, fold, larger, smaller}
use Rattle.operator.proofs.Loops.{fold_zero, fold_suc, larger_left}
use Rattle.operator.proofs.Lists.{Opposite, every_each, every_of, same_truth, every_both, every_mirror, fold_mirror}

-- ---- `not below` goes from one value to the next, and to a third, where the middle one is no NaN
-- for ±a / p, ±b / q and ±c / r
below_chain : (s t u : Bool) (a b c p q r : ℕ) → 0 < q → below s (a * q) t (b * p) ≡ false → below t (b * r) u (c * q) ≡ false → below s (a * r) u (c * p) ≡ false
below_chain false false false a b c p q r Q h k = le-ltb (a * r) (c * p) (through c b a r q p Q (ltb-false (b * r) (c * q) k) (ltb-false (a * q) (b * p) h))
below_chain false t true a b c p q r Q h k = refl
below_chain false true false a b c p q r Q h k = le-ltb (a * r) (c * p) (through c 0 a r q p Q (omega (arith, ltb-false 0 (b * r + c * q) k)) (omega arith))
below_chain true false false a b c p q r Q h k =
    let u = ltb-false 0 (a * q + b * p) h in
    le-ltb 0 (a * r + c * p)
    (omega (arith, through a 0 0 p q r Q (omega arith) (omega arith), through c b 0 r q p Q (ltb-false (b * r) (c * q) k) (omega arith)))
below_chain true false true a b c p q r Q h k = le-ltb (c * p) (a * r) (through a 0 c p q r Q (omega (arith, ltb-false 0 (a * q + b * p) h)) (omega arith))
below_chain true true false a b c p q r Q h k =
    let u = ltb-false 0 (b * r + c * q) k in
    le-ltb 0 (a * r + c * p)
    (omega (arith, through a b 0 p q r Q (ltb-false (b * p) (a * q) h) (omega arith), through c 0 0 r q p Q (omega arith) (omega arith)))
below_chain true true true a b c p q r Q h k = le-ltb (c * p) (a * r) (through a b c p q r Q (ltb-false (b * p) (a * q) h) (ltb-false (c * q) (b * r) k))

top : (x : Float) → lt (inf false) x ≡ false
unfolding lt
top nan = refl
top (inf s) = refl
top (fin s m e) = refl

not_below : (x y z : Float) → T (not (is_nan y)) → lt x y ≡ false → lt y z ≡ false → lt x z ≡ false
unfolding lt is_nan
not_below nan y z p h k = refl
not_below (inf true) nan z p h k = absurd p
not_below (inf true) (inf true) z p h k = k
not_below (inf true) (inf false) z p h k = absurd (true≢false h)
not_below (inf true) (fin t n d) z p h k = absurd (true≢false h)
not_below (inf false) y z p h k = top z
not_below (fin s m e) nan z p h k = absurd p
not_below (fin s m e) (inf false) z p h k = absurd (true≢false h)
not_below (fin s m e) (inf true) nan p h k = refl
not_below (fin s m e) (inf true) (inf true) p h k = refl
not_below (fin s m e) (inf true) (inf false) p h k = absurd (true≢false k)
not_below (fin s m e) (inf true) (fin u l g) p h k = absurd (true≢false k)
not_below (fin s m e) (fin t n d) nan p h k = refl
not_below (fin s m e) (fin t n d) (inf u) p h k = k
not_below (fin s m e) (fin t n d) (fin u l g) p h k = below_chain s t u (m * up e) (n * up d) (l * up g) (down e) (down d) (down g) (down_pos d) h k

-- ---- what a comparison that holds says of its sides
asymmetric : (x y : Float) → lt x y ≡ true → lt y x ≡ false
asymmetric x y h = go (lt y x) refl
  where
    go : (b : Bool) → lt y x ≡ b → b ≡ false
    go true k = absurd (lt→not_ge x y (rw h tt) (lt→le y x (rw k tt)))
    go false k = refl

no_nans : (x y : Float) → lt x y ≡ true → T (not (is_nan x)) × T (not (is_nan y))
unfolding lt is_nan
no_nans nan y h = absurd (false≢true h)
no_nans (inf s) nan h = absurd (false≢true h)
no_nans (inf s) (inf t) h = (tt, tt)
no_nans (inf s) (fin t n d) h = (tt, tt)
no_nans (fin s m e) nan h = absurd (false≢true h)
no_nans (fin s m e) (inf t) h = (tt, tt)
no_nans (fin s m e) (fin t n d) h = (tt, tt)

nonneg_no_nan : (x : Float) → T (nonneg x) → T (not (is_nan x))
unfolding is_nan
nonneg_no_nan nan p = p
nonneg_no_nan (inf s) p = tt
nonneg_no_nan (fin s m e) p = tt

upper_nonneg : (x y : Float) → T (nonneg x) → lt x y ≡ true → T (nonneg y)
unfolding lt
upper_nonneg nan y p h = absurd p
upper_nonneg (inf true) y p h = absurd p
upper_nonneg (inf false) y p h = absurd (true≢false (sym h ∙ top y))
upper_nonneg (fin true m e) y p h = absurd p
upper_nonneg (fin false m e) nan p h = absurd (false≢true h)
upper_nonneg (fin false m e) (inf true) p h = absurd (false≢true h)
upper_nonneg (fin false m e) (inf false) p h = tt
upper_nonneg (fin false m e) (fin true n d) p h = absurd (false≢true h)
upper_nonneg (fin false m e) (fin false n d) p h = tt

-- ---- the largest: NaNs, what is below zero and -0 are passed over
-- two values of the format, from +0 up, neither below the other
tie : (f : Format) (x y : Float) → T (nonneg x) → T (nonneg y) → T (fits f x) → T (fits f y) → lt x y ≡ false → lt y x ≡ false → x ≡ y
unfolding lt
tie f nan y p q v w h k = absurd p
tie f (inf true) y p q v w h k = absurd p
tie f (inf false) nan p q v w h k = absurd q
tie f (inf false) (inf true) p q v w h k = absurd q
tie f (inf false) (inf false) p q v w h k = refl
tie f (inf false) (fin t n d) p q v w h k = absurd (true≢false k)
tie f (fin true m e) y p q v w h k = absurd p
tie f (fin false m e) nan p q v w h k = absurd q
tie f (fin false m e) (inf true) p q v w h k = absurd q
tie f (fin false m e) (inf false) p q v w h k = absurd (true≢false h)
tie f (fin false m e) (fin true n d) p q v w h k = absurd q
tie f (fin false m e) (fin false n d) p q v w h k =
    let a = m * up e * down d in
    let b = n * up d * down e in
    value_unique f (fin false m e) (fin false n d) false (m * up e) (down e) (down_pos e) v w (refl, refl) (refl, le_antisymm (ltb-false a b h) (ltb-false b a k))

-- what a fold from +0 has gathered
abbrev pub Gathered : Format → Float → Type 0
Gathered f a = T (nonneg a) × T (fits f a)

larger_comm : (f : Format) (x y : Float) → Gathered f x → Gathered f y → larger x y ≡ larger y x
unfolding larger
larger_comm f x y p q = go (lt x y) (lt y x) refl refl
  where
    go : (b c : Bool) → lt x y ≡ b → lt y x ≡ c → cond b y x ≡ cond c x y
    go true true h k = absurd (true≢false (sym k ∙ asymmetric x y h))
    go true false h k = refl
    go false true h k = refl
    go false false h k = tie f x y p.0 q.0 p.1 q.1 h k

module _ (f : Format) (a x : Float) (p : Gathered f a) (v : T (fits f x)) where
  pub larger_keeps : Gathered f (larger a x)
  unfolding larger
  larger_keeps = go (lt a x) refl
    where
      go : (b : Bool) → lt a x ≡ b → Gathered f (cond b x a)
      go true h = (upper_nonneg a x p.0 h, v)
      go false h = p

  larger_swaps : (y : Float) → T (fits f y) → larger (larger a x) y ≡ larger (larger a y) x
  unfolding larger
  larger_swaps y w = go (lt a x) (lt a y) refl refl
    where
      go : (b c : Bool) → lt a x ≡ b → lt a y ≡ c → cond (lt (cond b x a) y) y (cond b x a) ≡ cond (lt (cond c y a) x) x (cond c y a)
      go true true h k = larger_comm f x y (upper_nonneg a x p.0 h, v) (upper_nonneg a y p.0 k, w)
      go true false h k = rw (h, not_below x a y (nonneg_no_nan a p.0) (asymmetric a x h) k)
      go false true h k = rw (k, not_below y a x (nonneg_no_nan a p.0) (asymmetric a y k) h)
      go false false h k = rw (h, k)

-- two gathered apart, and each with an entry more, are both of them together with the two entries
pub larger_apart : (f : Format) (a b x y : Float) → Gathered f a → Gathered f b → T (fits f x) → T (fits f y) → larger (larger a x) (larger b y) ≡ larger (larger (larger a b) x) y
larger_apart f a b x y p q v w =
    let ax = larger_keeps f a x p v in
    larger_comm f (larger a x) (larger b y) ax (larger_keeps f b y q w)
    ∙ larger_swaps f b y q w (larger a x) ax.1
    ∙ ap (λ (z : Float). larger z y) (larger_comm f b (larger a x) q ax ∙ larger_swaps f a x p v b q.1)

-- +0, from which both begin
pub zero_gathered : Gathered binary64 0ᶠ
zero_gathered = (rw (zero_is binary64) tt, of_bits-fits binary64 0)

-- nothing that is gathered lies below it
pub above_zero : (x : Float) → T (nonneg x) → lt x (fin false 0 (pos 0)) ≡ false
unfolding lt
above_zero nan p = refl
above_zero (inf true) p = absurd p
above_zero (inf false) p = refl
above_zero (fin true m e) p = absurd p
above_zero (fin false m e) p = le-ltb (m * up e * 1) (0 * 1 * down e) (omega arith)

pub larger_zero : (x : Float) → Gathered binary64 x → larger 0ᶠ x ≡ x
unfolding larger
larger_zero x p = larger_comm binary64 0ᶠ x zero_gathered p ∙ rw (zero_is binary64, above_zero x p.0)

pub zero_zero : larger 0ᶠ 0ᶠ ≡ 0ᶠ
unfolding larger
zero_zero = go (lt 0ᶠ 0ᶠ)
  where
    go : (b : Bool) → cond b 0ᶠ 0ᶠ ≡ 0ᶠ
    go true = refl
    go false = refl

-- ---- the largest of many, where none after the first two is above both
settled : (a : Float) (i n : ℕ) (f : ℕ → Float) → ((j : ℕ) → i ≤ j → j < i + n → lt a (f j) ≡ false) → fold larger a (from i n f) ≡ a
unfolding from fold
settled a i zero f h = refl
settled a i (suc n) f h =
    rw (← larger_left a (f i) (h i (le_refl i) (omega arith)), fold)
    (settled a (suc i) n f (λ j l k. h j (omega arith) (omega arith)))

pub first_two : (k : ℕ) (f : ℕ → Float) → Gathered binary64 (f 0) → ((j : ℕ) → 2 ≤ j → j < 2 + k → lt (larger (f 0) (f 1)) (f j) ≡ false)
    → fold larger 0ᶠ (tab (suc (suc k)) f) ≡ larger (f 0) (f 1)
unfolding from fold
first_two k f p h = ap (λ (z : Float). fold larger (larger z (f 1)) (from 2 k f)) (larger_zero (f 0) p) ∙ settled (larger (f 0) (f 1)) 2 k f h

pub not_above : (x y z : Float) → T (nonneg x) → T (nonneg y) → T (nonneg z) → T (le z x) ⊎ T (le z y) → lt (larger x y) z ≡ false
unfolding larger
not_above x y z p q r h = is_false (lt (larger x y) z) (not_T (lt (larger x y) z) (λ l. lt→not_ge (larger x y) z l (go (lt x y) refl h)))
  where
    go : (t : Bool) → lt x y ≡ t → T (le z x) ⊎ T (le z y) → T (le z (cond t y x))
    go true e (inl u) = le_trans_f z x y r p q u (lt→le x y (rw e tt))
    go true e (inr u) = u
    go false e (inl u) = u
    go false e (inr u) = le_trans_f z y x r q p u (not_lt→le x y p q e)

-- ---- no entry is above the largest
module _ (f : ℕ → Float) (v : (i : ℕ) → T (fits binary64 (f i))) where
  one_more : (n : ℕ) → larger (fold larger 0ᶠ (tab n f)) (f n) ≡ fold larger 0ᶠ (tab (suc n) f)
  one_more n = sym (ap (λ (k : ℕ). fold larger 0ᶠ (tab k f)) (sym (add-one n)) ∙ fold_suc larger 0ᶠ n f)

  largest_gathered : (n : ℕ) → Gathered binary64 (fold larger 0ᶠ (tab n f))
  largest_gathered zero = subst (Gathered binary64) (fold_zero larger 0ᶠ f) zero_gathered
  largest_gathered (suc n) = subst (Gathered binary64) (one_more n) (larger_keeps binary64 _ (f n) (largest_gathered n) (v n))

  pub largest_above : (n j : ℕ) → j < n → lt (fold larger 0ᶠ (tab n f)) (f j) ≡ false
  unfolding larger
  largest_above zero j h = absurd (omega arith)
  largest_above (suc n) j h = subst (λ (x : Float). lt x (f j) ≡ false) (one_more n) (go (lt m (f n)) (ltb j n) refl refl (largest_above n j))
    where
      m : Float
      m = fold larger 0ᶠ (tab n f)

      itself : (x : Float) → (b : Bool) → lt x x ≡ b → b ≡ false
      itself x true e = sym e ∙ asymmetric x x e
      itself x false e = refl

      go : (b c : Bool) → lt m (f n) ≡ b → ltb j n ≡ c → (j < n → lt m (f j) ≡ false) → lt (cond b (f n) m) (f j) ≡ false
      go true true e k r = not_below (f n) m (f j) (nonneg_no_nan m (largest_gathered n).0) (asymmetric m (f n) e) (r (ltb-true j n k))
      go true false e k r = let x : j ≡ n = omega (arith, ltb-false j n k) in rw x (itself (f n) (lt (f n) (f n)) refl)
      go false true e k r = r (ltb-true j n k)
      go false false e k r = let x : j ≡ n = omega (arith, ltb-false j n k) in rw x e

  -- entries above zero are finite where the largest is
  zero_is_finite : finite 0ᶠ ≡ true
  unfolding finite of_bits
  zero_is_finite = refl

  largest_finite : (n : ℕ) → ((j : ℕ) → j < n → finite (f j) ≡ true) → finite (fold larger 0ᶠ (tab n f)) ≡ true
  unfolding larger
  largest_finite zero h = subst (λ (x : Float). finite x ≡ true) (fold_zero larger 0ᶠ f) zero_is_finite
  largest_finite (suc n) h = subst (λ (x : Float). finite x ≡ true) (one_more n) (go (lt (fold larger 0ᶠ (tab n f)) (f n)) (h n (omega arith)) (largest_finite n (λ j k. h j (omega arith))))
    where
      go : (b : Bool) → finite (f n) ≡ true → finite (fold larger 0ᶠ (tab n f)) ≡ true → finite (cond b (f n) (fold larger 0ᶠ (tab n f))) ≡ true
      go true x m = x
      go false x m = m

  each_finite : (n : ℕ) → every n (λ i. lt 0ᶠ (f i)) ≡ true → finite (fold larger 0ᶠ (tab n f)) ≡ true → (j : ℕ) → j < n → finite (f j) ≡ true
  each_finite n a m j h =
      let p = upper_nonneg 0ᶠ (f j) zero_gathered.0 (every_each n _ a j h) in
      is_true (finite (f j)) (finite_below (f j) (fold larger 0ᶠ (tab n f)) p (not_lt→le (fold larger 0ᶠ (tab n f)) (f j) (largest_gathered n).0 p (largest_above n j h)) (rw m tt))

  pub positive_all : (n : ℕ) → (every n (λ i. lt 0ᶠ (f i)) && finite (fold larger 0ᶠ (tab n f))) ≡ every n (λ i. positive (f i))
  unfolding positive
  positive_all n = go (every n (λ i. lt 0ᶠ (f i))) refl ∙ sym (every_both n (λ i. finite (f i)) (λ i. lt 0ᶠ (f i)) ∙ and_comm (every n (λ i. finite (f i))) (every n (λ i. lt 0ᶠ (f i))))
    where
      go : (a : Bool) → every n (λ i. lt 0ᶠ (f i)) ≡ a → (a && finite (fold larger 0ᶠ (tab n f))) ≡ (a && every n (λ i. finite (f i)))
      go false e = refl
      go true e = same_truth _ _ (λ m. every_of n _ (each_finite n e m)) (λ m. largest_finite n (every_each n _ m))

-- ---- from either end
pub largest_mirror : (n : ℕ) (f g : ℕ → Float) → ((i : ℕ) → T (fits binary64 (f i))) → Opposite n f g
    → fold larger 0ᶠ (tab n f) ≡ fold larger 0ᶠ (tab n g)
largest_mirror n f g v m =
    fold_mirror larger (Gathered binary64) (λ (x : Float). T (fits binary64 x)) (larger_keeps binary64) (λ a x y p v. larger_swaps binary64 a x p v y) 0ᶠ n f g
    zero_gathered v m

-- ---- the smallest: NaNs are passed over, and of two zeros the first met stays, so the ends may give zeros of either sign
module _ (a x : Float) (p : T (not (is_nan a))) where
  smaller_no_nan : T (not (is_nan (smaller a x)))
  unfolding smaller
  smaller_no_nan = go (lt x a) refl
    where
      go : (b : Bool) → lt x a ≡ b → T (not (is_nan (cond b x a)))
      go true h = (no_nans x a h).0
      go false h = p

  -- the smaller of two is not below c where neither is
  smaller_below : (c : Float) → not (lt (smaller a x) c) ≡ not (lt a c) && not (lt x c)
  unfolding smaller
  smaller_below c = go (lt x a) (lt a c) (lt x c) refl refl refl
    where
      go : (b r s : Bool) → lt x a ≡ b → lt a c ≡ r → lt x c ≡ s → not (lt (cond b x a) c) ≡ not r && not s
      go true true true h k l = rw l
      go true true false h k l = absurd (true≢false (sym h ∙ not_below x c a (no_nans a c k).1 l (asymmetric a c k)))
      go true false s h k l = rw l
      go false true s h k l = rw k
      go false false true h k l = absurd (true≢false (sym l ∙ not_below x a c p h k))
      go false false false h k l = rw k

smallest_below : (c a : Float) → T (not (is_nan a)) → (i n : ℕ) (f : ℕ → Float)
    → not (lt (fold smaller a (from i n f)) c) ≡ not (lt a c) && every_from i n (λ j. not (lt (f j) c))
unfolding from fold every_from
smallest_below c a p i zero f = sym (and-true (not (lt a c)))
smallest_below c a p i (suc n) f =
    smallest_below c (smaller a (f i)) (smaller_no_nan a (f i) p) (suc i) n f
    ∙ ap (λ (b : Bool). b && every_from (suc i) n (λ j. not (lt (f j) c))) (smaller_below a (f i) p c)
    ∙ and_assoc (not (lt a c)) (not (lt (f i) c)) (every_from (suc i) n (λ j. not (lt (f j) c)))

-- the smallest is not below c where no entry is
pub smallest_floor : (c : Float) (n : ℕ) (f : ℕ → Float) → not (lt (fold smaller (inf false) (tab n f)) c) ≡ every n (λ i. not (lt (f i) c))
unfolding is_nan
smallest_floor c n f = smallest_below c (inf false) tt 0 n f ∙ ap (λ (b : Bool). not b && every n (λ i. not (lt (f i) c))) (top c)

pub smallest_mirror : (c : Float) (n : ℕ) (f g : ℕ → Float) → Opposite n f g
    → lt (fold smaller (inf false) (tab n f)) c ≡ lt (fold smaller (inf false) (tab n g)) c
smallest_mirror c n f g m =
    let a = fold smaller (inf false) (tab n f) in
    let b = fold smaller (inf false) (tab n g) in
    let same : not (lt a c) ≡ not (lt b c) =
    smallest_floor c n f ∙ every_mirror n _ _ (λ i j e. ap (λ (x : Float). not (lt x c)) (m i j e)) ∙ sym (smallest_floor c n g) in
    cc (not-not (lt a c), not-not (lt b c))
