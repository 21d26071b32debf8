-- Vectors as lists: the entries of one that is made entry by entry, and the tests and folds over all entries, which come out alike from either end. Assumes nothing.
use mathlib.Core.Path.{◌≡◌, refl, sym, ap, ap₂, ◌∙◌}
use Prim.Native.Nat.{ℕ, zero, suc, ◌+◌, ◌<◌}
use native.Mathlib.Nat.{add-zero, zero-add}
use native.Mathlib.Omega.{arith}
use mathlib.Core.Bool.{Bool, true, false, ◌&&◌, and_assoc, and_comm, true≢false}
use mathlib.Core.List.{List, ◌∷◌}
use borrow.Author.Tests.{ltb-true, ltb-false}
use lib.Dec.{ltb}
use lib.ListN.{length}
use lib.Seq.{ext_get_or}
use lib.Ieee.{Float, nan}
use Rattle.operator.specs.Vectors.{from, tab, at, every_from, every, fold}

-- i and j are opposite places among n
abbrev pub Opposite : {A : Type 0} → ℕ → (ℕ → A) → (ℕ → A) → Type 0
Opposite n f g = (i j : ℕ) → suc (i + j) ≡ n → f i ≡ g j

-- ---- the entries
-- all but the first are those of the function one place up
pub from_up : (i n : ℕ) (f : ℕ → Float) → from (suc i) n f ≡ from i n (λ j. f (suc j))
unfolding from
from_up i zero f = refl
from_up i (suc n) f = ap (λ (l : List Float). f (suc i) ∷ l) (from_up (suc i) n f)

pub length_tab : (n : ℕ) (f : ℕ → Float) → length (tab n f) ≡ n
unfolding from
length_tab zero f = refl
length_tab (suc n) f = ap suc (ap length (from_up 0 n f) ∙ length_tab n (λ j. f (suc j)))

pub at_tab : (n : ℕ) (f : ℕ → Float) (j : ℕ) → j < n → at (tab n f) j ≡ f j
unfolding from
at_tab zero f j h = absurd (omega arith)
at_tab (suc n) f zero h = refl
at_tab (suc n) f (suc j) h = ap (λ (l : List Float). at l j) (from_up 0 n f) ∙ at_tab n (λ j. f (suc j)) j (omega arith)

pub tab_ext : (n : ℕ) (f g : ℕ → Float) → ((j : ℕ) → j < n → f j ≡ g j) → tab n f ≡ tab n g
unfolding from
tab_ext zero f g h = refl
tab_ext (suc n) f g h =
    ap₂ {B = List Float} (λ x l. x ∷ l) (h 0 (omega arith))
    (from_up 0 n f ∙ tab_ext n (λ j. f (suc j)) (λ j. g (suc j)) (λ j k. h (suc j) (omega arith)) ∙ sym (from_up 0 n g))

-- a list is its entries
pub tab_own : (n : ℕ) (l : List Float) → length l ≡ n → l ≡ tab n (at l)
tab_own n l e = ext_get_or nan l (tab n (at l)) (e ∙ sym (length_tab n (at l))) (λ i h. sym (at_tab n (at l) i (rw e at h)))

-- ---- a test of every entry
every_up : (i n : ℕ) (p : ℕ → Bool) → every_from (suc i) n p ≡ every_from i n (λ j. p (suc j))
unfolding every_from
every_up i zero p = refl
every_up i (suc n) p = ap (λ (b : Bool). p (suc i) && b) (every_up (suc i) n p)

pub every_ext : (n : ℕ) (p q : ℕ → Bool) → ((j : ℕ) → j < n → p j ≡ q j) → every n p ≡ every n q
unfolding every_from
every_ext zero p q h = refl
every_ext (suc n) p q h =
    ap₂ ◌&&◌ (h 0 (omega arith))
    (every_up 0 n p ∙ every_ext n (λ j. p (suc j)) (λ j. q (suc j)) (λ j k. h (suc j) (omega arith)) ∙ sym (every_up 0 n q))

-- the last entry apart
pub every_last : (n : ℕ) (p : ℕ → Bool) → every (suc n) p ≡ every n p && p n
unfolding every_from
every_last zero p = and_comm (p 0) true
every_last (suc n) p =
    ap (λ (b : Bool). p 0 && b) (every_up 0 (suc n) p ∙ every_last n (λ j. p (suc j)) ∙ ap (λ (b : Bool). b && p (suc n)) (sym (every_up 0 n p)))
    ∙ sym (and_assoc (p 0) (every_from 1 n p) (p (suc n)))

pub every_true : (n : ℕ) → every n (λ j. true) ≡ true
unfolding every_from
every_true n = go 0 n
  where
    go : (i n : ℕ) → every_from i n (λ j. true) ≡ true
    go i zero = refl
    go i (suc n) = go (suc i) n

-- a test that holds of every entry holds of each, and the other way
pub every_each : (n : ℕ) (p : ℕ → Bool) → every n p ≡ true → (i : ℕ) → i < n → p i ≡ true
every_each zero p e i h = absurd (omega arith)
every_each (suc n) p e i h = go (every n p) (p n) (ltb i n) refl refl refl (sym (every_last n p) ∙ e) (λ es k. every_each n p es i k)
  where
    go : (s t u : Bool) → every n p ≡ s → p n ≡ t → ltb i n ≡ u → (s && t) ≡ true → (every n p ≡ true → i < n → p i ≡ true) → p i ≡ true
    go true true true es et eu f r = r es (ltb-true i n eu)
    go true true false es et eu f r = let x : i ≡ n = omega (arith, ltb-false i n eu) in ap p x ∙ et
    go true false u es et eu f r = absurd (true≢false (sym f))
    go false t u es et eu f r = absurd (true≢false (sym f))

pub every_of : (n : ℕ) (p : ℕ → Bool) → ((i : ℕ) → i < n → p i ≡ true) → every n p ≡ true
every_of n p h = every_ext n p (λ i. true) h ∙ every_true n

-- a test that cannot hold
pub never_true : (b : Bool) → (b ≡ true → ⊥) → b ≡ false
never_true true h = absurd (h refl)
never_true false h = refl

-- a test that fails of one entry fails of all, and the other way
pub every_fails : (n : ℕ) (p : ℕ → Bool) (i : ℕ) → i < n → p i ≡ false → every n p ≡ false
every_fails n p i h e = never_true (every n p) (λ f. true≢false (sym (every_each n p f i h) ∙ e))

pub failing_one : (n : ℕ) (p : ℕ → Bool) → every n p ≡ false → (i : ℕ) × (i < n) × (p i ≡ false)
unfolding every_from
failing_one zero p e = absurd (true≢false e)
failing_one (suc n) p e = go (every n p) (p n) refl refl (sym (every_last n p) ∙ e) (failing_one n p)
  where
    go : (s t : Bool) → every n p ≡ s → p n ≡ t → (s && t) ≡ false → (every n p ≡ false → (i : ℕ) × (i < n) × (p i ≡ false)) → (i : ℕ) × (i < suc n) × (p i ≡ false)
    go false t es et f r = let (i, k, d) = r es in (i, omega (arith, k), d)
    go true false es et f r = (n, omega arith, et)
    go true true es et f r = absurd (true≢false f)

pub same_truth : (a b : Bool) → (a ≡ true → b ≡ true) → (b ≡ true → a ≡ true) → a ≡ b
same_truth true b f g = sym (f refl)
same_truth false true f g = absurd (true≢false (sym (g refl)))
same_truth false false f g = refl

-- two tests of every entry
pub every_both : (n : ℕ) (p q : ℕ → Bool) → every n (λ j. p j && q j) ≡ (every n p && every n q)
unfolding every_from
every_both n p q = go 0 n
  where
    swap : (a b c d : Bool) → (a && b) && (c && d) ≡ (a && c) && (b && d)
    swap true true c d = refl
    swap true false true d = refl
    swap true false false d = refl
    swap false b c d = refl

    go : (i n : ℕ) → every_from i n (λ j. p j && q j) ≡ (every_from i n p && every_from i n q)
    go i zero = refl
    go i (suc n) = ap (λ (b : Bool). (p i && q i) && b) (go (suc i) n) ∙ swap (p i) (q i) (every_from (suc i) n p) (every_from (suc i) n q)

pub every_mirror : (n : ℕ) (p q : ℕ → Bool) → Opposite n p q → every n p ≡ every n q
unfolding every_from
every_mirror zero p q h = refl
every_mirror (suc n) p q h =
    ap₂ ◌&&◌ (h 0 n (omega arith)) (every_up 0 n p ∙ every_mirror n (λ j. p (suc j)) q (λ i j e. h (suc i) j (omega arith)))
    ∙ and_comm (q n) (every n q) ∙ sym (every_last n q)

-- ---- a fold
-- the last entry apart
fold_last : (g : Float → Float → Float) (a : Float) (i n : ℕ) (f : ℕ → Float) → fold g a (from i (suc n) f) ≡ g (fold g a (from i n f)) (f (i + n))
unfolding from fold
fold_last g a i zero f = ap (λ (k : ℕ). g a (f k)) (sym (add-zero i))
fold_last g a i (suc n) f = fold_last g (g a (f i)) (suc i) n f ∙ ap (λ (k : ℕ). g (fold g (g a (f i)) (from (suc i) n f)) (f k)) (omega arith)

-- Where two entries may be taken in in either order, the whole fold may. P holds of what is gathered, Q of each entry.
module _ (g : Float → Float → Float) (P Q : Float → Type 0) (keeps : (a x : Float) → P a → Q x → P (g a x))
    (swaps : (a x y : Float) → P a → Q x → Q y → g (g a x) y ≡ g (g a y) x) where
  fold_first : (a x : Float) (i n : ℕ) (f : ℕ → Float) → P a → Q x → ((j : ℕ) → Q (f j)) → fold g (g a x) (from i n f) ≡ g (fold g a (from i n f)) x
  unfolding from fold
  fold_first a x i zero f p q h = refl
  fold_first a x i (suc n) f p q h =
      ap (λ (b : Float). fold g b (from (suc i) n f)) (swaps a x (f i) p q (h i)) ∙ fold_first (g a (f i)) x (suc i) n f (keeps a (f i) p (h i)) q h

  pub fold_mirror : (a : Float) (n : ℕ) (f h : ℕ → Float) → P a → ((j : ℕ) → Q (f j)) → Opposite n f h
      → fold g a (tab n f) ≡ fold g a (tab n h)
  unfolding from fold
  fold_mirror a zero f h p q m = refl
  fold_mirror a (suc n) f h p q m =
      fold_first a (f 0) 1 n f p (q 0) q
      ∙ ap₂ g
      (ap (fold g a) (from_up 0 n f) ∙ fold_mirror a n (λ j. f (suc j)) h p (λ j. q (suc j)) (λ i j e. m (suc i) j (omega arith)))
      (m 0 n (omega arith) ∙ ap h (sym (zero-add n)))
      ∙ sym (fold_last g a 0 n h)
