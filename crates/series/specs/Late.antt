-- A Taylor step as the code sums it: no term is asked whether it is finite, and a sum is asked once, after the last term, where the definition asks at every term. Definitions, and the statement that both are the same.
use Rattle.std.specs.Prelude.{◌≡◌, ℕ, zero, suc, Bool, true, false, List, Float}
use Rattle.elementary.specs.Float.{positive}
use Rattle.elementary.specs.Reply.{Reply, value, refusal, given}
use Rattle.series.specs.Refusals.{numerical}
use Rattle.operator.specs.Vectors.{at, every}
use Rattle.series.specs.Series.{Operator, term, plus, converged, Sum, summing, summed, most_terms, taylor_step}

-- a new term and sum: has every entry converged; then each is to be finite and above zero
unfoldable pub late : Bool → ℕ → List Float → List Float → Sum
late false n t s = summing t s
late true n t s = summed (given (every n (λ i. positive (at s i))) numerical (value s))

unfoldable pub late_term : Operator → Float → ℕ → List Float → List Float → Sum
late_term p eta j t s =
    let t' = term p eta j t in
    let s' = plus p.n s t' in
    late (converged p.n s' t') p.n t' s'

-- at most k terms more, the next one being term j
unfoldable pub late_series : ℕ → Operator → Float → ℕ → Sum → Reply (List Float)
late_series zero p eta j (summed r) = r
late_series (suc k) p eta j (summed r) = r
late_series zero p eta j (summing t s) = refusal numerical
late_series (suc k) p eta j (summing t s) = late_series k p eta (suc j) (late_term p eta j t s)

-- whatever the operator and the vector, NaNs and infinities included
abbrev pub AskedOnce : Type 0
AskedOnce = (p : Operator) (eta : Float) (v : List Float) → late_series most_terms p eta 1 (summing v v) ≡ taylor_step p eta v
