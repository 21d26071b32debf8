-- The slices of the diagonal and the factors: their lengths, what is stored where these fit, and factors of 1.0. Assumes nothing.
use mathlib.Core.Path.{◌≡◌, refl, ap, ap₂, ◌∙◌}
use Prim.Native.Nat.{ℕ, suc, ◌+◌, ◌-◌, ◌≤◌}
use native.Mathlib.Omega.{arith}
use mathlib.Core.Bool.{Bool, true, false, ◌&&◌, false≢true}
use mathlib.Core.List.{List}
use borrow.Author.Tests.{le-leb, eqb-true, eq-eqb}
use lib.Dec.{eqb}
use lib.ListN.{length}
use lib.Ieee.{Float, eq}
use Rattle.elementary.specs.Float.{◌⊗◌, 1ᶠ, finite}
use Rattle.operator.specs.Vectors.{tab, at, every}
use Rattle.operator.specs.Operator.{rows, diagonal_at, left_at}
use Rattle.operator.specs.Slices.{both_sized, diagonal_fits, diagonal_over, scaled_over, right_by, factors_fit, left_over, right_over, both_fine, one_at, ones_between, Ones}
use Rattle.operator.proofs.Lists.{every_each}
use Rattle.operator.proofs.Loops.{every_suc}

-- ---- lengths
pub both_true : (a b : Bool) → (a && b) ≡ true → (a ≡ true) × (b ≡ true)
both_true true b e = (refl, e)
both_true false b e = absurd (false≢true e)

pub both_sized_lem : (n a b : ℕ) → both_sized n a b ≡ true → (a ≡ n) × (b ≡ n)
both_sized_lem n a b e = let s = both_true (eqb a n) (eqb b n) e in (eqb-true a n s.0, eqb-true b n s.1)

pub sized_both : (n a b : ℕ) → a ≡ n → b ≡ n → both_sized n a b ≡ true
sized_both n a b e d = rw (eq-eqb a n e, eq-eqb b n d)

-- ---- what is stored where the lengths fit
module _ (bound : ℕ) (alpha beta eta : Float) (n : ℕ) (d d' : List Float) (long : length d ≡ n) (few : n ≤ rows bound) (e : d' ≡ diagonal_over bound alpha beta eta d) where
  pub diagonal_over_lem : d' ≡ tab n (diagonal_at bound alpha beta eta)
  unfolding diagonal_over
  diagonal_over_lem = e ∙ rw (long, le-leb n (rows bound) few) refl

  pub diagonal_fine : (r : Bool) → r ≡ (diagonal_fits bound d && every (length d) (λ i. finite (at d' i))) → r ≡ every n (λ i. finite (at (tab n (diagonal_at bound alpha beta eta)) i))
  diagonal_fine r f = f ∙ rw (long, le-leb n (rows bound) few, diagonal_over_lem) refl

pub scaled_over_lem : (s : List Float) (dt : Float) (d d' : List Float) → length d ≡ length s → d' ≡ scaled_over s dt d → d' ≡ tab (length s) (λ i. at s i ⊗ dt)
unfolding scaled_over
scaled_over_lem s dt d d' long e = e ∙ rw (eq-eqb (length d) (length s) long) refl

module _ (o left right : List Float) (a : length left ≡ length o) (b : length right ≡ length o) where
  pub left_over_lem : (l' : List Float) → l' ≡ left_over o left right → l' ≡ tab (length o) (left_at o)
  unfolding left_over
  left_over_lem l' e = e ∙ rw (sized_both (length o) (length left) (length right) a b) refl

  pub right_over_lem : (half : Bool) (r' : List Float) → r' ≡ right_over half o left right → r' ≡ tab (length o) (right_by half (length o) o)
  unfolding right_over
  right_over_lem half r' e = e ∙ rw (sized_both (length o) (length left) (length right) a b) refl

  pub factors_over : (l' r' : List Float) (r : Bool) → r ≡ (factors_fit o left right && both_fine (length o) l' r') → r ≡ both_fine (length o) l' r'
  factors_over l' r' r e = e ∙ rw (sized_both (length o) (length left) (length right) a b) refl

-- ---- factors of 1.0 between the end rows
pub ones_between_lem : (n : ℕ) (left right : List Float) → length left ≡ n → ones_between left right ≡ true → Ones n left right
unfolding ones_between
ones_between_lem n left right e o i h k =
    let s = both_true (eqb (length right) (length left)) (every (length left - 2) (λ j. one_at left right (suc j))) o in
    let m : suc (i - 1) ≡ i = omega arith in
    let f = every_each (length left - 2) (λ j. one_at left right (suc j)) s.1 (i - 1) (omega arith) in
    both_true _ _ (rw m at f)

-- one row more
pub ones_more : (left right : List Float) (i : ℕ) (all : Bool) → 1 ≤ i → all ≡ every (i - 1) (λ k. one_at left right (suc k))
    → (all && (eq (at left i) 1ᶠ && eq (at right i) 1ᶠ)) ≡ every (i + 1 - 1) (λ k. one_at left right (suc k))
ones_more left right i all h e =
    let up : i ≡ suc (i - 1) = omega arith in
    let more : i - 1 + 1 ≡ i + 1 - 1 = omega arith in
    ap₂ ◌&&◌ e (ap (one_at left right) up) ∙ every_suc (i - 1) (λ k. one_at left right (suc k)) ∙ ap (λ (k : ℕ). every k (λ j. one_at left right (suc j))) more
