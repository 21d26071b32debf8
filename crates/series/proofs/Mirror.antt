-- A series and the one whose diagonal, factors and vector mirror its own stay mirrored through every term, and end alike. Assumes nothing.
use mathlib.Core.Path.{◌≡◌, sym, ◌∙◌}
use Prim.Native.Nat.{ℕ, zero, suc, ◌+◌}
use native.Mathlib.Omega.{arith}
use mathlib.Core.Bool.{Bool, true, false}
use mathlib.Core.List.{List}
use borrow.Author.Tests.{lt-ltb, le-ltb}
use lib.Ieee.{Float, binary64, lt}
use lib.Ieee.Fits.{add-fits}
use Rattle.elementary.specs.Float.{◌⊗◌, 0ᶠ}
use Rattle.elementary.specs.Reply.{Reply, value, refusal, given}
use Rattle.elementary.proofs.Signs.{add_comm_f}
use Rattle.series.specs.Refusals.{numerical}
use Rattle.operator.specs.Vectors.{tab, at, before, after, every, fold, larger, Mirror}
use Rattle.operator.specs.Operator.{left_at, right_at}
use Rattle.series.specs.Series.{operator_over, row_at, applied, term, plus, both_finite, converged, Sum, summing, summed, judge, next_term, series, taylor_step}
use Rattle.operator.proofs.Lists.{Opposite, at_tab, every_mirror}
use Rattle.series.proofs.Extremes.{largest_mirror}

-- ---- a vector and one that mirrors it
pub mirror_sym : (n : ℕ) (l r : List Float) → Mirror n l r → Mirror n r l
unfolding Mirror
mirror_sym n l r m i j e = sym (m j i (omega arith))

pub tab_mirror : (n : ℕ) (f g : ℕ → Float) → Opposite n f g → Mirror n (tab n f) (tab n g)
unfolding Mirror
tab_mirror n f g h i j e = at_tab n f i (omega arith) ∙ h i j e ∙ sym (at_tab n g j (omega arith))

-- ---- a series of each: their values mirror each other and have one largest entry
pub data Replies (n : ℕ) : Reply (List Float) → Reply (List Float) → Type 0 where
  values : {v v' : List Float} → Mirror n v v' → fold larger 0ᶠ v ≡ fold larger 0ᶠ v' → Replies n (value v) (value v')
  refusals : {a : ℕ} → Replies n (refusal a) (refusal a)

data Sums (n : ℕ) : Sum → Sum → Type 0 where
  terms : {t t' s s' : List Float} → Mirror n t t' → Mirror n s s' → Sums n (summing t s) (summing t' s')
  replies : {r r' : Reply (List Float)} → Replies n r r' → Sums n (summed r) (summed r')

module _ (n : ℕ) (s s' t t' : List Float) (S : Mirror n s s') (M : Mirror n t t') where
  plus_mirror : Mirror n (plus n s t) (plus n s' t')
  unfolding plus Mirror
  plus_mirror = tab_mirror n _ _ (λ i j e. rw (S i j e, M i j e))

  plus_largest : fold larger 0ᶠ (plus n s t) ≡ fold larger 0ᶠ (plus n s' t')
  unfolding plus Mirror
  plus_largest = largest_mirror n _ _ (λ i. add-fits binary64 (at s i) (at t i)) (λ i j e. rw (S i j e, M i j e))

  finite_alike : both_finite n s t ≡ both_finite n s' t'
  unfolding both_finite Mirror
  finite_alike = every_mirror n _ _ (λ i j e. rw (S i j e, M i j e))

  converged_alike : converged n s t ≡ converged n s' t'
  unfolding converged Mirror
  converged_alike = every_mirror n _ _ (λ i j e. rw (S i j e, M i j e))

  positive_alike : every n (λ i. lt 0ᶠ (at s i)) ≡ every n (λ i. lt 0ᶠ (at s' i))
  unfolding Mirror
  positive_alike = every_mirror n _ _ (λ i j e. rw (S i j e))

  judges : (a c : Bool) → fold larger 0ᶠ s ≡ fold larger 0ᶠ s' → Sums n (judge a c n t s) (judge a c n t' s')
  unfolding judge given
  judges false c m = replies refusals
  judges true false m = terms M S
  judges true true m = rw positive_alike (go (every n (λ i. lt 0ᶠ (at s' i))))
    where
      go : (b : Bool) → Sums n (summed (given b numerical (value s))) (summed (given b numerical (value s')))
      go true = replies (values S m)
      go false = replies refusals

-- ---- two operators, what is left of one being right of the other
neighbours : (n : ℕ) (x y : List Float) → Mirror n x y → (i j : ℕ) → suc (i + j) ≡ n → before x i ≡ after n y j
unfolding before after Mirror
neighbours n x y m zero j e = rw (le-ltb (suc j) n (omega arith))
neighbours n x y m (suc i) j e = rw (lt-ltb (suc j) n (omega arith)) (m i (suc j) (omega arith))

module _ (n : ℕ) (d d' l l' r r' : List Float) (D : Mirror n d d') (L : Mirror n l r') (R : Mirror n r l') (eta : Float) where
  pub row_alike : (x y : List Float) → Mirror n x y → (i j : ℕ) → suc (i + j) ≡ n → row_at (operator_over n d l r) eta x i ≡ row_at (operator_over n d' l' r') eta y j
  unfolding row_at Mirror
  row_alike x y m i j e =
      let a : at d i ≡ at d' j = D i j e in
      let b : at l i ≡ at r' j = L i j e in
      let c : at r i ≡ at l' j = R i j e in
      let f : at x i ≡ at y j = m i j e in
      let g : before x i ≡ after n y j = neighbours n x y m i j e in
      let h : before y j ≡ after n x i = neighbours n y x (mirror_sym n x y m) j i (omega arith) in
      cc (add_comm_f binary64 (at l i ⊗ before x i) (at r i ⊗ after n x i))

  term_mirror : (j : ℕ) (x y : List Float) → Mirror n x y → Mirror n (term (operator_over n d l r) eta j x) (term (operator_over n d' l' r') eta j y)
  unfolding term applied Mirror
  term_mirror j x y m = tab_mirror n _ _ (λ i k e. rw (tab_mirror n (row_at (operator_over n d l r) eta x) (row_at (operator_over n d' l' r') eta y) (row_alike x y m) i k e))

  next_sums : (j : ℕ) (t t' s s' : List Float) → Mirror n t t' → Mirror n s s'
      → Sums n (next_term (operator_over n d l r) eta j t s) (next_term (operator_over n d' l' r') eta j t' s')
  unfolding next_term
  next_sums j t t' s s' M S =
      let u = term (operator_over n d l r) eta j t in
      let u' = term (operator_over n d' l' r') eta j t' in
      let v = plus n s u in
      let v' = plus n s' u' in
      let M₁ = term_mirror j t t' M in
      let S₁ = plus_mirror n s s' u u' S M₁ in
      rw (finite_alike n v v' u u' S₁ M₁, converged_alike n v v' u u' S₁ M₁)
      (judges n v v' u u' S₁ M₁ (both_finite n v' u') (converged n v' u') (plus_largest n s s' u u' S M₁))

  series_replies : (k j : ℕ) {z z' : Sum} → Sums n z z' → Replies n (series k (operator_over n d l r) eta j z) (series k (operator_over n d' l' r') eta j z')
  unfolding series
  series_replies zero j (replies h) = h
  series_replies (suc k) j (replies h) = h
  series_replies zero j (terms M S) = refusals
  series_replies (suc k) j (terms M S) = series_replies k (suc j) (next_sums j _ _ _ _ M S)

  pub taylor_replies : (x y : List Float) → Mirror n x y → Replies n (taylor_step (operator_over n d l r) eta x) (taylor_step (operator_over n d' l' r') eta y)
  unfolding taylor_step
  taylor_replies x y m = series_replies 100 1 (terms m m)

-- ---- the factors
pub factors_opposite : (n : ℕ) (o o' : List Float) → Mirror n o o' → Opposite n (left_at o) (right_at n o')
unfolding left_at right_at Mirror
factors_opposite n o o' m zero j e = rw (le-ltb (suc j) n (omega arith))
factors_opposite n o o' m (suc i) j e = rw (lt-ltb (suc j) n (omega arith), m i (suc j) (omega arith), m (suc i) j e)

pub factors : (n : ℕ) (o o' : List Float) → Mirror n o o' → Mirror n (tab n (left_at o)) (tab n (right_at n o'))
factors n o o' m = tab_mirror n (left_at o) (right_at n o') (factors_opposite n o o' m)
