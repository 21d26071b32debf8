-- A Taylor step refuses just where its series fails. Assumes nothing.
use mathlib.Core.Path.{◌≡◌, refl, sym, ap, ap₂, ◌∙◌}
use Prim.Native.Nat.{ℕ, zero, suc, ◌+◌, ◌-◌, ◌≤◌}
use native.Mathlib.Omega.{arith}
use mathlib.Core.Bool.{Bool, true, false}
use mathlib.Core.List.{List}
use lib.Ieee.{Float}
use Rattle.elementary.specs.Reply.{Reply, value, refusal, given}
use Rattle.series.specs.Refusals.{numerical}
use Rattle.series.specs.Series.{Operator, term, summing, summed, judge, next_term, series, most_terms, taylor_step}
use Rattle.series.specs.Causes.{sum_with, term_finite, term_converged, sum_positive, Summing, begun, more, SeriesFails, not_finite, not_converged, not_positive, SeriesRefused}
use Rattle.series.proofs.Terms.{at_end}

module _ (p : Operator) (eta : Float) where
  -- term j by its tests, k terms being left with it
  by_tests : (k j : ℕ) (t s : List Float) (a b : Bool) → 1 ≤ k → term_finite p eta j t s ≡ a → term_converged p eta j t s ≡ b
      → series k p eta j (summing t s) ≡ series (k - 1) p eta (suc j) (judge a b p.n (term p eta j t) (sum_with p eta j t s))
  unfolding series next_term
  by_tests zero j t s a b h f c = absurd (omega arith)
  by_tests (suc k) j t s a b h f c =
      let e : suc k - 1 ≡ k = omega arith in
      rw e (ap₂ (λ (x y : Bool). series k p eta (suc j) (judge x y p.n (term p eta j t) (sum_with p eta j t s))) f c)

  module _ (v : List Float) where
    -- the definition meets the same states, 101 - j terms being left
    meets : {j : ℕ} {t s : List Float} → Summing p eta v j t s → taylor_step p eta v ≡ series (suc most_terms - j) p eta j (summing t s)
    unfolding taylor_step judge
    meets begun = refl
    meets (more {j} {t} {s} m h f c) =
        let e : suc most_terms - j - 1 ≡ suc most_terms - suc j = omega arith in
        meets m ∙ rw e at (by_tests (suc most_terms - j) j t s true false (omega arith) f c)

    ends : {j : ℕ} {t s : List Float} → Summing p eta v j t s → j ≤ most_terms → (a b : Bool) → term_finite p eta j t s ≡ a → term_converged p eta j t s ≡ b
        → (r : Reply (List Float)) → judge a b p.n (term p eta j t) (sum_with p eta j t s) ≡ summed r → taylor_step p eta v ≡ r
    ends {j} {t} {s} m h a b f c r e =
        let k = suc most_terms - j in
        meets m ∙ by_tests k j t s a b (omega arith) f c ∙ ap (series (k - 1) p eta (suc j)) e ∙ at_end (k - 1) p eta (suc j) r

    fails : SeriesFails p eta v → taylor_step p eta v ≡ refusal numerical
    unfolding judge given series
    fails (not_finite m h f) = ends m h false _ f refl _ refl
    fails (not_converged m) = meets m
    fails (not_positive m h f c z) = ends m h true true f c _ (rw z)

    -- where the k terms left end in a refusal, it is 11 and the series fails
    abbrev Refused : ℕ → Type 0
    Refused n = (n ≡ numerical) × SeriesFails p eta v

    refused : (n k j : ℕ) (t s : List Float) → k + j ≡ suc most_terms → Summing p eta v j t s → series k p eta j (summing t s) ≡ refusal n → Refused n
    unfolding series next_term judge given
    refused n zero j t s h r e = let i : j ≡ suc most_terms = omega arith in (cc, not_converged (rw i at r))
    refused n (suc k) j t s h r e = go (term_finite p eta j t s) (term_converged p eta j t s) refl refl e (refused n k (suc j) _ _ (omega arith))
      where
        over : (b : Bool) → sum_positive p eta j t s ≡ b → term_finite p eta j t s ≡ true → term_converged p eta j t s ≡ true
            → given b numerical (value (sum_with p eta j t s)) ≡ refusal n → Refused n
        over true z f c i = let a : ◌≡◌ {A = ℕ} 0 1 = cc in absurd (omega arith)
        over false z f c i = (cc, not_positive r (omega arith) f c z)

        go : (a b : Bool) → term_finite p eta j t s ≡ a → term_converged p eta j t s ≡ b
            → series k p eta (suc j) (judge a b p.n (term p eta j t) (sum_with p eta j t s)) ≡ refusal n
            → (Summing p eta v (suc j) (term p eta j t) (sum_with p eta j t s) → series k p eta (suc j) (summing (term p eta j t) (sum_with p eta j t s)) ≡ refusal n → Refused n)
            → Refused n
        go false b f c i on = (cc (at_end k p eta (suc j) (refusal numerical)), not_finite r (omega arith) f)
        go true false f c i on = on (more r (omega arith) f c) i
        go true true f c i on = over (sum_positive p eta j t s) refl f c (sym (at_end k p eta (suc j) _) ∙ i)

pub series_refused : SeriesRefused
unfolding taylor_step
series_refused p eta v n = (refused p eta v n most_terms 1 v v refl begun, λ x. rw x.0 (fails p eta v x.1))
