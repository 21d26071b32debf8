-- Rows 0 to the centre stand for all rows of a vector that is its own mirror: its entries, tests of all of them, and the extremes. Assumes nothing.
use mathlib.Core.Path.{◌≡◌, refl, sym, ap, ◌∙◌}
use Prim.Native.Nat.{ℕ, zero, suc, ◌+◌, ◌-◌, ◌*◌, ◌≤◌, ◌<◌}
use native.Mathlib.Nat.{le_refl}
use native.Mathlib.Omega.{arith}
use mathlib.Core.Bool.{Bool, true, false, not, cond, not-not}
use mathlib.Core.List.{List}
use borrow.Author.Tests.{leb-true, leb-false, lt-ltb, le-ltb, ltb-true, ltb-false}
use lib.Dec.{T, ltb, leb}
use lib.Ieee.{Float, inf, binary64, lt, fits}
use Rattle.elementary.specs.Float.{0ᶠ}
use Rattle.operator.specs.Vectors.{tab, at, every, fold, larger, smaller, Mirror}
use Rattle.operator.specs.Operator.{rows}
use Rattle.series.specs.Half.{filled_out, mirrored}
use Rattle.operator.proofs.Lists.{Opposite, at_tab, tab_ext, every_each, every_of, same_truth}
use Rattle.operator.proofs.Loops.{fold_suc, larger_left}
use Rattle.series.proofs.Extremes.{largest_above, smallest_floor}

-- ---- the entries
module _ (b : ℕ) (l r : List Float) where
  pub at_near : (i : ℕ) → i ≤ b → at (mirrored b l r) i ≡ at l i
  unfolding filled_out
  at_near i h = at_tab (rows b) _ i (omega arith) ∙ ap (λ (t : Bool). cond t (at l i) (at r (rows b - 1 - i))) (lt-ltb i (suc b) (omega arith))

  pub at_far : (i : ℕ) → b < i → i < rows b → at (mirrored b l r) i ≡ at r (2 * b - i)
  unfolding filled_out
  at_far i h k = let e : rows b - 1 - i ≡ 2 * b - i = omega arith in at_tab (rows b) _ i k ∙ ap (λ (t : Bool). cond t (at l i) (at r (rows b - 1 - i))) (le-ltb i (suc b) h) ∙ ap (at r) e

-- l and r exchanged it is the same from the far end, where both have one centre
pub mirrored_turned : (b : ℕ) (l r : List Float) → at l b ≡ at r b → Mirror (rows b) (mirrored b l r) (mirrored b r l)
unfolding Mirror
mirrored_turned b l r c i j e = go (leb i b) (leb j b) refl refl
  where
    go : (s t : Bool) → leb i b ≡ s → leb j b ≡ t → at (mirrored b l r) i ≡ at (mirrored b r l) j
    go true true h k =
        let x : i ≡ b = omega (arith, leb-true i b h, leb-true j b k) in
        let y : j ≡ b = omega (arith, leb-true i b h, leb-true j b k) in
        rw (x, y, at_near b l r b (le_refl b), at_near b r l b (le_refl b)) c
    go true false h k =
        let y : 2 * b - j ≡ i = omega arith in
        at_near b l r i (leb-true i b h) ∙ sym (at_far b r l j (leb-false j b k) (omega arith) ∙ ap (at l) y)
    go false true h k =
        let x : 2 * b - i ≡ j = omega arith in
        at_far b l r i (leb-false i b h) (omega arith) ∙ ap (at r) x ∙ sym (at_near b r l j (leb-true j b k))
    go false false h k = absurd (omega (arith, leb-false i b h, leb-false j b k))

-- entries by a rule whose opposite is another: what stands in rows 0 to b of each
pub mirrored_tab : (b : ℕ) (f g F G : ℕ → Float) → Opposite (rows b) G F → ((i : ℕ) → i ≤ b → f i ≡ F i) → ((i : ℕ) → i ≤ b → g i ≡ G i)
    → mirrored b (tab (suc b) f) (tab (suc b) g) ≡ tab (rows b) F
unfolding filled_out
mirrored_tab b f g F G m ef eg = tab_ext (rows b) _ F (λ i h. go i h (ltb i (suc b)) refl)
  where
    go : (i : ℕ) → i < rows b → (t : Bool) → ltb i (suc b) ≡ t → cond t (at (tab (suc b) f) i) (at (tab (suc b) g) (rows b - 1 - i)) ≡ F i
    go i h true e = let k = ltb-true i (suc b) e in at_tab (suc b) f i k ∙ ef i (omega arith)
    go i h false e =
        let k = ltb-false i (suc b) e in
        let j = rows b - 1 - i in
        at_tab (suc b) g j (omega arith) ∙ eg j (omega arith) ∙ m j i (omega arith)

-- ---- a test of every entry: the opposite of a row past the centre stands before it
pub every_half : (b : ℕ) (p : ℕ → Bool) → Opposite (rows b) p p → every (suc b) p ≡ every (rows b) p
every_half b p m = same_truth (every (suc b) p) (every (rows b) p)
    (λ e. every_of (rows b) p (λ i h. go e i h (ltb i (suc b)) refl)) (λ e. every_of (suc b) p (λ i h. every_each (rows b) p e i (omega arith)))
  where
    go : every (suc b) p ≡ true → (i : ℕ) → i < rows b → (t : Bool) → ltb i (suc b) ≡ t → p i ≡ true
    go e i h true k = every_each (suc b) p e i (ltb-true i (suc b) k)
    go e i h false k =
        let past : suc b ≤ i = ltb-false i (suc b) k in
        m i (2 * b - i) (omega arith) ∙ every_each (suc b) p e (2 * b - i) (omega arith)

-- ---- the extremes
module _ (b : ℕ) (f : ℕ → Float) (m : Opposite (rows b) f f) where
  pub largest_half : ((i : ℕ) → T (fits binary64 (f i))) → fold larger 0ᶠ (tab (suc b) f) ≡ fold larger 0ᶠ (tab (rows b) f)
  largest_half v = sym (more b (le_refl b)) ∙ ap (λ (k : ℕ). fold larger 0ᶠ (tab k f)) (omega arith)
    where
      far : (k : ℕ) → k < b → lt (fold larger 0ᶠ (tab (suc b) f)) (f (suc b + k)) ≡ false
      far k h = ap (lt (fold larger 0ᶠ (tab (suc b) f))) (m (suc b + k) (b - suc k) (omega arith)) ∙ largest_above f v (suc b) (b - suc k) (omega arith)

      more : (k : ℕ) → k ≤ b → fold larger 0ᶠ (tab (suc b + k) f) ≡ fold larger 0ᶠ (tab (suc b) f)
      more zero h = ap (λ (k : ℕ). fold larger 0ᶠ (tab k f)) (omega arith)
      more (suc k) h =
          let e : suc b + suc k ≡ suc b + k + 1 = omega arith in
          ap (λ (k : ℕ). fold larger 0ᶠ (tab k f)) e ∙ fold_suc larger 0ᶠ (suc b + k) f ∙ ap (λ (x : Float). larger x (f (suc b + k))) (more k (omega arith))
          ∙ sym (larger_left _ (f (suc b + k)) (far k (omega arith)))

  -- the smallest is on the same side of a limit
  pub smallest_half : (c : Float) → lt (fold smaller (inf false) (tab (suc b) f)) c ≡ lt (fold smaller (inf false) (tab (rows b) f)) c
  smallest_half c =
      let x = lt (fold smaller (inf false) (tab (suc b) f)) c in
      let y = lt (fold smaller (inf false) (tab (rows b) f)) c in
      let same : not x ≡ not y =
      smallest_floor c (suc b) f ∙ every_half b _ (λ i j e. ap (λ (z : Float). not (lt z c)) (m i j e)) ∙ sym (smallest_floor c (rows b) f) in
      cc (not-not x, not-not y)
