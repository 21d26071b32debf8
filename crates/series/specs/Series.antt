-- Document 01, module 2: the operator on a vector, and one Taylor step. Definitions only.
use Rattle.std.specs.Prelude.{ℕ, zero, suc, Bool, true, false, ◌&&◌, List, pos, Float}
use Rattle.std.specs.Float.Ieee.{lt, le}
use Rattle.elementary.specs.Float.{◌⊕◌, ◌⊖◌, ◌⊗◌, ◌⊘◌, hex, whole, 0ᶠ, 1ᶠ, finite}
use Rattle.elementary.specs.Reply.{Reply, value, refusal, given}
use Rattle.series.specs.Refusals.{numerical}
use Rattle.operator.specs.Vectors.{tab, at, before, after, every, abs}

-- ---- the operator over n rows, with a step's diagonal
pub record Operator : Type 0 where
  pub n : ℕ
  pub diagonal : List Float
  pub left : List Float
  pub right : List Float

abbrev pub operator_over : ℕ → List Float → List Float → List Float → Operator
operator_over n d l r = record { n = n; diagonal = d; left = l; right = r }

-- eta_dt × (left × lower + right × upper) - diagonal × centre
unfoldable pub row_at : Operator → Float → List Float → ℕ → Float
row_at p eta x i = eta ⊗ (at p.left i ⊗ before x i ⊕ at p.right i ⊗ after p.n x i) ⊖ at p.diagonal i ⊗ at x i

unfoldable pub applied : Operator → Float → List Float → List Float
applied p eta x = tab p.n (row_at p eta x)

-- ---- the series: term j is the operator on the last term times (1.0 / j)
unfoldable pub term : Operator → Float → ℕ → List Float → List Float
term p eta j t = let y = applied p eta t in tab p.n (λ i. at y i ⊗ (1ᶠ ⊘ whole (pos j)))

unfoldable pub plus : ℕ → List Float → List Float → List Float
plus n s t = tab n (λ i. at s i ⊕ at t i)

-- is each entry of the term and of the sum finite
unfoldable pub both_finite : ℕ → List Float → List Float → Bool
both_finite n s t = every n (λ i. finite (at t i) && finite (at s i))

-- a term is at most 1e-16 of its sum in magnitude, and so for every entry
abbrev pub tolerance : Float
tolerance = hex 0x3C9CD2B297D889BC

unfoldable pub small : Float → Float → Bool
small s t = le (abs t) (tolerance ⊗ abs s)

unfoldable pub converged : ℕ → List Float → List Float → Bool
converged n s t = every n (λ i. small (at s i) (at t i))

-- a series between two terms, with the last term and the sum; or at its end
pub data Sum : Type 0 where
  summing : List Float → List Float → Sum
  summed : Reply (List Float) → Sum

-- a new term and sum: are all finite, and has every entry converged
unfoldable pub judge : Bool → Bool → ℕ → List Float → List Float → Sum
judge false c n t s = summed (refusal numerical)
judge true false n t s = summing t s
judge true true n t s = summed (given (every n (λ i. lt 0ᶠ (at s i))) numerical (value s))

unfoldable pub next_term : Operator → Float → ℕ → List Float → List Float → Sum
next_term p eta j t s =
    let t' = term p eta j t in
    let s' = plus p.n s t' in
    judge (both_finite p.n s' t') (converged p.n s' t') p.n t' s'

-- at most k terms more, the next one being term j
unfoldable pub series : ℕ → Operator → Float → ℕ → Sum → Reply (List Float)
series zero p eta j (summed r) = r
series (suc k) p eta j (summed r) = r
series zero p eta j (summing t s) = refusal numerical
series (suc k) p eta j (summing t s) = series k p eta (suc j) (next_term p eta j t s)

-- the sum from v, term 0, within 100 terms
abbrev pub most_terms : ℕ
most_terms = 100

unfoldable pub taylor_step : Operator → Float → List Float → Reply (List Float)
taylor_step p eta v = series most_terms p eta 1 (summing v v)
