-- Loops over float slices: those that store f i at each index i, those that test every entry, and those that fold. Assumes nothing.
use mathlib.Core.Path.{◌≡◌, refl, sym, ap, ap₂, ◌∙◌}
use mathlib.Core.List.{List, [], ◌∷◌, ◌++◌, append-nil}
use Prim.Native.Nat.{ℕ, zero, suc, ◌+◌, ◌-◌, ◌<◌, ◌≤◌}
use native.Mathlib.Nat.{add-zero, zero-add, sub-zero, zero-sub}
use native.Mathlib.Numerals.{add-one}
use native.Mathlib.Omega.{arith}
use mathlib.Core.Bool.{Bool, true, false, ◌&&◌}
use borrow.Author.Tests.{lt-ltb, le-ltb}
use lib.ListN.{length, set, take, drop, get_or-append}
use lib.Seq.{drop-cons, set_at, set-get_or, append_snoc, drop-length, take-suc, get_or-append-add, get_or-drop}
use lib.Ieee.{Float, nan, lt}
use Rattle.elementary.specs.Float.{0ᶠ}
use Rattle.operator.specs.Vectors.{from, tab, fill, at, before, after, every_from, every, fold, larger}
use Rattle.operator.proofs.Lists.{from_up, length_tab, at_tab, every_last}

-- ---- entries by a rule
from_suc : (j i : ℕ) (f : ℕ → Float) → from j (suc i) f ≡ from j i f ++ (f (j + i) ∷ [])
unfolding from
from_suc j zero f = ap (λ (k : ℕ). f k ∷ []) (sym (add-zero j))
from_suc j (suc i) f = ap (λ (l : List Float). f j ∷ l) (from_suc (suc j) i f ∙ ap (λ (k : ℕ). from (suc j) i f ++ (f k ∷ [])) (omega arith))

-- one entry more
pub tab_suc : (i : ℕ) (f : ℕ → Float) → tab (i + 1) f ≡ tab i f ++ (f i ∷ [])
tab_suc i f = rw (add-one i) (from_suc 0 i f ∙ ap (λ (k : ℕ). tab i f ++ (f k ∷ [])) (zero-add i))

-- ---- stores: the first i entries are f's and the others l's
unfoldable pub filled : (ℕ → Float) → List Float → ℕ → List Float
filled f l i = tab i f ++ drop i l

pub filled_zero : (f : ℕ → Float) (l : List Float) → l ≡ filled f l 0
unfolding filled from
filled_zero f l = refl

-- one store
pub stored : (f : ℕ → Float) (l out : List Float) (i : ℕ) (v : Float) → i < length l → out ≡ filled f l i → v ≡ f i → set out i v ≡ filled f l (i + 1)
unfolding filled
stored f l out i v h e d =
    rw (e, d, tab_suc i f, add-one i, drop-cons l i nan h, set_at (tab i f) (at l i) (drop (suc i) l) (f i) i (length_tab i f))
    (sym (append_snoc (tab i f) (f i) (drop (suc i) l)))

-- and the last
pub filled_all : (f : ℕ → Float) (l out : List Float) (i n : ℕ) → i ≡ length l → i ≡ n → out ≡ filled f l i → out ≡ tab n f
unfolding filled
filled_all f l out i n h k e = e ∙ rw (← k, h, drop-length l, append-nil)

-- where the first entries are f's already, nothing has to be stored
pub filled_kept : (f : ℕ → Float) (l : List Float) (n : ℕ) → n ≤ length l → ((k : ℕ) → k < n → at l k ≡ f k) → l ≡ filled f l n
filled_kept f l zero h e = filled_zero f l
filled_kept f l (suc n) h e =
    sym (set-get_or l n nan) ∙ stored f l l n (at l n) (omega arith) (filled_kept f l n (omega arith) (λ k j. e k (omega arith))) (e n (omega arith)) ∙ ap (filled f l) (add-one n)

-- what has been stored, and what has not yet
pub at_filled_before : (f : ℕ → Float) (l : List Float) (i j : ℕ) → j < i → at (filled f l i) j ≡ f j
unfolding filled
at_filled_before f l i j h = get_or-append (tab i f) (drop i l) nan j (rw (length_tab i f) h) ∙ at_tab i f j h

pub at_filled : (f : ℕ → Float) (l : List Float) (i j : ℕ) → i ≤ j → at (filled f l i) j ≡ at l j
unfolding filled
at_filled f l i j h =
    let e : length (tab i f) + (j - i) ≡ j = rw (length_tab i f) (omega arith) in
    ap (at (tab i f ++ drop i l)) (sym e) ∙ get_or-append-add (tab i f) (drop i l) (j - i) nan ∙ get_or-drop i l (j - i) nan ∙ ap (at l) (omega arith)

-- ---- tests of every entry
pub every_zero : (p : ℕ → Bool) → true ≡ every 0 p
unfolding every_from
every_zero p = refl

-- one entry more
pub every_suc : (n : ℕ) (p : ℕ → Bool) → (every n p && p n) ≡ every (n + 1) p
every_suc n p = rw (add-one n) (sym (every_last n p))

-- not where the first entry fails
pub every_first : (n : ℕ) (p : ℕ → Bool) → 0 < n → p 0 ≡ false → false ≡ every n p
unfolding every_from
every_first zero p h e = absurd (omega arith)
every_first (suc n) p h e = rw e

pub every_at : (n m : ℕ) (p : ℕ → Bool) → n ≡ m → every n p ≡ every m p
every_at n m p e = rw e

-- ---- folds
fold_snoc : (g : Float → Float → Float) (a : Float) (l : List Float) (x : Float) → fold g a (l ++ (x ∷ [])) ≡ g (fold g a l) x
unfolding fold
fold_snoc g a [] x = refl
fold_snoc g a (y ∷ l) x = fold_snoc g (g a y) l x

pub fold_zero : (g : Float → Float → Float) (a : Float) (f : ℕ → Float) → a ≡ fold g a (tab 0 f)
unfolding fold from
fold_zero g a f = refl

-- one entry more
pub fold_suc : (g : Float → Float → Float) (a : Float) (i : ℕ) (f : ℕ → Float) → fold g a (tab (i + 1) f) ≡ g (fold g a (tab i f)) (f i)
fold_suc g a i f = rw (tab_suc i f) (fold_snoc g a (tab i f) (f i))

pub fold_take : (g : Float → Float → Float) (a : Float) (l : List Float) (i : ℕ) → i < length l → fold g a (take (i + 1) l) ≡ g (fold g a (take i l)) (at l i)
fold_take g a l i h = rw (add-one i, take-suc l i nan h) (fold_snoc g a (take i l) (at l i))

pub fold_at : (g : Float → Float → Float) (a : Float) (n m : ℕ) (f : ℕ → Float) → n ≡ m → fold g a (tab n f) ≡ fold g a (tab m f)
fold_at g a n m f e = rw e

-- ---- neighbours, as the code reads them
pub before_first : (l : List Float) (i : ℕ) → i ≡ 0 → 0ᶠ ≡ before l i
unfolding before
before_first l zero h = refl
before_first l (suc i) h = absurd (omega arith)

pub before_later : (l : List Float) (i : ℕ) → 0 < i → at l (i - 1) ≡ before l i
unfolding before
before_later l zero h = absurd (omega arith)
before_later l (suc i) h = ap (at l) (omega arith)

pub after_within : (l : List Float) (n i : ℕ) → i + 1 < n → at l (i + 1) ≡ after n l i
unfolding after
after_within l n i h = rw (lt-ltb (suc i) n (omega arith), add-one i)

pub after_last : (l : List Float) (n i : ℕ) → n ≤ i + 1 → 0ᶠ ≡ after n l i
unfolding after
after_last l n i h = rw (le-ltb (suc i) n (omega arith))

-- ---- n times x
pub drop_fill : (n i : ℕ) (x : Float) → drop i (fill n x) ≡ fill (n - i) x
drop_fill n zero x = rw (sub-zero n)
drop_fill zero (suc i) x = rw (zero-sub (suc i))
drop_fill (suc n) (suc i) x = let e : n - i ≡ suc n - suc i = omega arith in drop_fill n i x ∙ ap (λ (k : ℕ). fill k x) e

pub fill_tab : (n : ℕ) (x : Float) → fill n x ≡ tab n (λ k. x)
unfolding from
fill_tab n x = go 0 n
  where
    go : (i m : ℕ) → fill m x ≡ from i m (λ k. x)
    go i zero = refl
    go i (suc m) = ap (λ (l : List Float). x ∷ l) (go (suc i) m)

-- ---- the larger by a test
pub larger_taken : (x y : Float) → lt x y ≡ true → y ≡ larger x y
unfolding larger
larger_taken x y h = rw h

pub larger_left : (x y : Float) → lt x y ≡ false → x ≡ larger x y
unfolding larger
larger_left x y h = rw h

-- ---- what a list of stores holds
pub at_stored : (l : List Float) (n : ℕ) (f : ℕ → Float) (k : ℕ) → l ≡ tab n f → k < n → at l k ≡ f k
at_stored l n f k e h = ap (λ (m : List Float). at m k) e ∙ at_tab n f k h

-- the last entry stored after a loop
pub stored_last : (f : ℕ → Float) (l out : List Float) (i j n : ℕ) (v : Float) → i + 1 ≡ n → j ≡ i → length l ≡ n → out ≡ filled f l i → v ≡ f j → set out j v ≡ tab n f
stored_last f l out i j n v h k e o d = filled_all f l (set out j v) (i + 1) n (h ∙ sym e) h (rw k (stored f l out i v (omega arith) o (rw k at d)))

-- the first entry stored after a loop over the others: until then it is as it was
unfoldable pub later : (ℕ → Float) → List Float → ℕ → Float
later f l zero = at l 0
later f l (suc k) = f (suc k)

pub later_one : (f : ℕ → Float) (l : List Float) → 0 < length l → l ≡ filled (later f l) l 1
unfolding later filled from
later_one f [] h = absurd (omega arith)
later_one f (x ∷ l) h = refl

pub later_is : (f : ℕ → Float) (l : List Float) (k : ℕ) → 0 < k → f k ≡ later f l k
unfolding later
later_is f l zero h = absurd (omega arith)
later_is f l (suc k) h = refl

pub later_first : (f : ℕ → Float) (l out : List Float) (n : ℕ) → 0 < n → out ≡ tab n (later f l) → at out 0 ≡ at l 0
unfolding later
later_first f l out n h e = at_stored out n (later f l) 0 e h

-- and then all are f's
pub later_all : (f : ℕ → Float) (l out : List Float) (n : ℕ) (v : Float) → 0 < n → out ≡ tab n (later f l) → v ≡ f 0 → set out 0 v ≡ tab n f
unfolding later from
later_all f l out zero v h e d = absurd (omega arith)
later_all f l out (suc n) v h e d =
    ap (λ (m : List Float). set m 0 v) e
    ∙ ap₂ {B = List Float} (λ x m. x ∷ m) d (from_up 0 n (later f l) ∙ sym (from_up 0 n f))
