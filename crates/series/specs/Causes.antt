-- Which Taylor steps end in 11, by the terms that they reach: a named statement, proved once, in proofs/. Definitions only.
use Rattle.std.specs.Prelude.{◌≡◌, ◌↔◌, ℕ, suc, ◌≤◌, Bool, true, false, List, Float}
use Rattle.std.specs.Float.Ieee.{lt}
use Rattle.elementary.specs.Float.{0ᶠ}
use Rattle.elementary.specs.Reply.{refusal}
use Rattle.series.specs.Refusals.{numerical}
use Rattle.operator.specs.Vectors.{at, every}
use Rattle.series.specs.Series.{Operator, term, plus, both_finite, converged, most_terms, taylor_step}

-- From the last term t and the sum s before term j: the sum with term j; are term and sum finite; has every entry converged; is every entry of the sum above zero.
abbrev pub sum_with : Operator → Float → ℕ → List Float → List Float → List Float
sum_with p eta j t s = plus p.n s (term p eta j t)

abbrev pub term_finite : Operator → Float → ℕ → List Float → List Float → Bool
term_finite p eta j t s = both_finite p.n (sum_with p eta j t s) (term p eta j t)

abbrev pub term_converged : Operator → Float → ℕ → List Float → List Float → Bool
term_converged p eta j t s = converged p.n (sum_with p eta j t s) (term p eta j t)

abbrev pub sum_positive : Operator → Float → ℕ → List Float → List Float → Bool
sum_positive p eta j t s = every p.n (λ i. lt 0ᶠ (at (sum_with p eta j t s) i))

-- what a series from v meets: the last term and the sum before term j, where terms 1 to j - 1 and their sums are finite and have not converged
pub data Summing (p : Operator) (eta : Float) (v : List Float) : ℕ → List Float → List Float → Type 0 where
  begun : Summing p eta v 1 v v
  more : {j : ℕ} {t s : List Float} → Summing p eta v j t s → j ≤ most_terms → term_finite p eta j t s ≡ true → term_converged p eta j t s ≡ false
      → Summing p eta v (suc j) (term p eta j t) (sum_with p eta j t s)

-- why a series fails: one of its 100 terms or its sum is not finite; none of the 100 converges; one does, and an entry of the sum is not above zero
pub data SeriesFails (p : Operator) (eta : Float) (v : List Float) : Type 0 where
  not_finite : {j : ℕ} {t s : List Float} → Summing p eta v j t s → j ≤ most_terms → term_finite p eta j t s ≡ false → SeriesFails p eta v
  not_converged : {t s : List Float} → Summing p eta v (suc most_terms) t s → SeriesFails p eta v
  not_positive : {j : ℕ} {t s : List Float} → Summing p eta v j t s → j ≤ most_terms → term_finite p eta j t s ≡ true → term_converged p eta j t s ≡ true
      → sum_positive p eta j t s ≡ false → SeriesFails p eta v

-- a Taylor step refuses by 11 alone, and just where its series fails
abbrev pub SeriesRefused : Type 0
SeriesRefused = (p : Operator) (eta : Float) (v : List Float) (n : ℕ) → (taylor_step p eta v ≡ refusal n) ↔ ((n ≡ numerical) × SeriesFails p eta v)
