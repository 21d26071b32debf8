-- A series that asks once, at its end, whether its sums are finite gives what the definition gives, which asks at each term: a sum that is not finite stays so. Assumes nothing.
use mathlib.Core.Path.{◌≡◌, refl, sym, ap, ◌∙◌}
use Prim.Native.Nat.{ℕ, zero, suc}
use mathlib.Core.Bool.{Bool, true, false, ◌&&◌}
use mathlib.Core.List.{List}
use lib.Ieee.{Float, binary64, lt}
use Rattle.elementary.specs.Float.{◌⊕◌, 0ᶠ, finite, positive}
use Rattle.elementary.specs.Reply.{Reply, value, refusal, given}
use Rattle.elementary.proofs.Signs.{add_comm_f}
use Rattle.series.specs.Refusals.{numerical}
use Rattle.operator.specs.Vectors.{at, every}
use Rattle.series.specs.Series.{Operator, term, plus, both_finite, converged, summing, summed, judge, next_term, series, taylor_step}
use Rattle.series.specs.Late.{late, late_term, late_series, AskedOnce}
use Rattle.operator.proofs.Lists.{at_tab, every_ext, every_both}
use Rattle.series.proofs.Terms.{finite_term, at_end}

late_end : (k : ℕ) (p : Operator) (eta : Float) (j : ℕ) (x : Reply (List Float)) → late_series k p eta j (summed x) ≡ x
unfolding late_series
late_end zero p eta j x = refl
late_end (suc k) p eta j x = refl

-- ---- which sums are finite
abbrev all_finite : ℕ → List Float → Bool
all_finite n s = every n (λ i. finite (at s i))

-- a sum's test stands for its term's, and holds only where that of the sum before it does
both_by_sum : (n : ℕ) (s t : List Float) → both_finite n (plus n s t) t ≡ all_finite n (plus n s t)
unfolding both_finite plus
both_by_sum n s t = every_ext n _ _ (λ i h. rw (at_tab n (λ k. at s k ⊕ at t k) i h) (sym (finite_term (at s i) (at t i))))

finite_before : (n : ℕ) (s t : List Float) → all_finite n (plus n s t) ≡ (all_finite n s && all_finite n (plus n s t))
unfolding plus
finite_before n s t =
    every_ext n _ _ (λ i h. rw (at_tab n (λ k. at s k ⊕ at t k) i h, add_comm_f binary64 (at s i) (at t i)) (finite_term (at t i) (at s i)))
    ∙ every_both n (λ i. finite (at s i)) (λ i. finite (at (plus n s t) i))

all_positive : (n : ℕ) (s : List Float) → every n (λ i. positive (at s i)) ≡ (all_finite n s && every n (λ i. lt 0ᶠ (at s i)))
unfolding positive
all_positive n s = every_both n (λ i. finite (at s i)) (λ i. lt 0ᶠ (at s i))

module _ (p : Operator) (eta : Float) where
  -- from a sum that is not finite
  stuck : (k j : ℕ) (c : Bool) (t s : List Float) → all_finite p.n s ≡ false → late_series k p eta j (late c p.n t s) ≡ refusal numerical
  unfolding late_series late late_term given
  stuck zero j true t s h = rw (all_positive p.n s, h)
  stuck zero j false t s h = refl
  stuck (suc k) j true t s h = rw (all_positive p.n s, h)
  stuck (suc k) j false t s h =
      let t' = term p eta j t in
      stuck k (suc j) (converged p.n (plus p.n s t') t') t' (plus p.n s t') (finite_before p.n s t' ∙ rw h)

  -- from any other
  late_is : (k j : ℕ) (t s : List Float) → late_series k p eta j (summing t s) ≡ series k p eta j (summing t s)
  unfolding late_series late_term series next_term late judge
  late_is zero j t s = refl
  late_is (suc k) j t s = go (both_finite p.n s' t') (converged p.n s' t') refl (late_is k (suc j) t' s')
    where
      t' : List Float
      t' = term p eta j t

      s' : List Float
      s' = plus p.n s (term p eta j t)

      go : (f c : Bool) → both_finite p.n s' t' ≡ f → late_series k p eta (suc j) (summing t' s') ≡ series k p eta (suc j) (summing t' s')
          → late_series k p eta (suc j) (late c p.n t' s') ≡ series k p eta (suc j) (judge f c p.n t' s')
      go false c e on = stuck k (suc j) c t' s' (sym (both_by_sum p.n s t') ∙ e) ∙ sym (at_end k p eta (suc j) (refusal numerical))
      go true false e on = on
      go true true e on =
          late_end k p eta (suc j) _
          ∙ ap (λ (b : Bool). given b numerical (value s')) (all_positive p.n s' ∙ ap (λ (b : Bool). b && every p.n (λ i. lt 0ᶠ (at s' i))) (sym (both_by_sum p.n s t') ∙ e))
          ∙ sym (at_end k p eta (suc j) _)

pub asked_once : AskedOnce
unfolding taylor_step
asked_once p eta v = late_is p eta 100 1 v v
