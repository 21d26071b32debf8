-- A Taylor step over slices is the one over all rows that they stand for. Assumes nothing.
use mathlib.Core.Path.{◌≡◌, refl, sym, ◌∙◌}
use Prim.Native.Nat.{ℕ, zero, suc, ◌≤◌}
use mathlib.Core.Bool.{Bool, true, false, false≢true}
use mathlib.Core.List.{List}
use lib.ListN.{length}
use lib.Ieee.{Float, binary64}
use lib.Ieee.Fits.{add-fits, mul-fits}
use Rattle.elementary.specs.Float.{positive}
use Rattle.elementary.specs.Reply.{value, refusal, given}
use Rattle.series.specs.Refusals.{numerical}
use Rattle.operator.specs.Vectors.{at, every}
use Rattle.series.specs.Series.{Operator, operator_over, plus, summing, taylor_step}
use Rattle.series.specs.Late.{late, late_term, late_series}
use Rattle.series.specs.Slices.{slice_term, SliceSum, with_term, more_terms, series_over, step_if, Fit}
use Rattle.operator.specs.Slices.{Ones}
use Rattle.series.specs.Half.{full_size, full, full_operator, Centred, StepIs, SumIs, StepStands}
use Rattle.series.proofs.Terms.{fit_tab}
use Rattle.series.proofs.Late.{asked_once}
use Rattle.series.proofs.Full.{made_slice}
use Rattle.series.proofs.Slices.{sizes_step}

-- ---- the entries of a term and of a sum
term_fit : (half plain : Bool) (p : Operator) (eta : Float) (j : ℕ) (t : List Float) → Fit (slice_term half plain p eta j t)
unfolding slice_term
term_fit half plain p eta j t = fit_tab _ _ (λ i. mul-fits binary64 _ _)

plus_fit : (n : ℕ) (s t : List Float) → Fit (plus n s t)
unfolding plus
plus_fit n s t = fit_tab _ _ (λ i. add-fits binary64 _ _)

more_fit : (k j : ℕ) (c half plain : Bool) (p : Operator) (eta : Float) (s : SliceSum) → Fit s.sum → Fit (more_terms k c half plain p eta j s).sum
unfolding more_terms with_term
more_fit zero j c half plain p eta s f = f
more_fit (suc k) j true half plain p eta s f = f
more_fit (suc k) j false half plain p eta s f = more_fit k (suc j) _ half plain p eta (with_term p.n s.sum (slice_term half plain p eta j s.term)) (plus_fit p.n _ _)

with_fit : (n : ℕ) (s t : List Float) → Fit t → Fit (with_term n s t).term
unfolding with_term
with_fit n s t f = f

first_fit : (n : ℕ) (s t : List Float) → Fit (with_term n s t).sum
unfolding with_term
first_fit n s t = plus_fit n s t

-- ---- a sum that has converged is good where each entry is positive
good_sum : (n : ℕ) (c : Bool) (l : List Float) → true ≡ c → SumIs n c l (given (every n (λ i. positive (at l i))) numerical (value l))
unfolding StepIs given
good_sum n c l e = rw (← e) (go (every n (λ i. positive (at l i))))
  where
    go : (b : Bool) → StepIs b l (given b numerical (value l))
    go true = (refl, refl)
    go false = refl

-- one that has not is none
no_sum : (n : ℕ) (c : Bool) (l : List Float) → false ≡ c → SumIs n c l (refusal numerical)
unfolding StepIs
no_sum n c l e = rw (← e) refl

module _ (h : Bool) (n : ℕ) (d left right : List Float) (eta : Float) (two : 2 ≤ n) (c : Centred h n left right) where
  abbrev rows_of : Operator
  rows_of = operator_over n d left right

  abbrev all_of : Operator
  all_of = full_operator h n d left right

  -- ---- a term more
  on : (plain : Bool) (k j : ℕ) (t s : List Float) → (plain ≡ true → Ones n left right × Fit t) → let s' = with_term n s (slice_term h plain rows_of eta j t) in
      late_series (suc k) all_of eta j (summing (full h n t) (full h n s)) ≡ late_series k all_of eta (suc j) (late s'.settled (full_size h n) (full h n s'.term) (full h n s'.sum))
  unfolding late_series late_term with_term
  on plain k j t s f = let m = made_slice h n d left right eta two c plain t f j s in rw (m.settled, m.sum_is, m.term_is) refl

  -- ---- the terms after it
  module _ (plain : Bool) (ones : plain ≡ true → Ones n left right) where
    more_stands : (k j : ℕ) (b : Bool) (s : SliceSum) → b ≡ s.settled → Fit s.term → let r = more_terms k b h plain rows_of eta j s in
        SumIs (full_size h n) r.settled (full h n r.sum) (late_series k all_of eta j (late b (full_size h n) (full h n s.term) (full h n s.sum)))
    unfolding more_terms late_series late
    more_stands zero j true s e f = good_sum (full_size h n) s.settled (full h n s.sum) e
    more_stands zero j false s e f = no_sum (full_size h n) s.settled (full h n s.sum) e
    more_stands (suc k) j true s e f = good_sum (full_size h n) s.settled (full h n s.sum) e
    more_stands (suc k) j false s e f =
        let s' = with_term n s.sum (slice_term h plain rows_of eta j s.term) in
        rw (on plain k j s.term s.sum (λ t. (ones t, f))) (more_stands k (suc j) s'.settled s' refl (with_fit n s.sum _ (term_fit h plain rows_of eta j s.term)))

pub step_stands : StepStands
unfolding taylor_step step_if series_over
step_stands half plain v diag left right term eta two z c ones =
    let n = length v in
    let p = operator_over n diag left right in
    let s = with_term n v (slice_term half false p eta 1 v) in
    let first : taylor_step (full_operator half n diag left right) eta (full half n v) ≡ late_series 99 (full_operator half n diag left right) eta 2 (late s.settled (full_size half n) (full half n s.term) (full half n s.sum)) =
    sym (asked_once _ eta (full half n v)) ∙ on half n diag left right eta two c false 99 1 v v (λ t. absurd (false≢true t)) in
    rw (sizes_step v diag left right term two z)
    (rw first (more_stands half n diag left right eta two c plain ones 99 2 s.settled s refl (with_fit n v _ (term_fit half false p eta 1 v))), more_fit 99 2 s.settled half plain p eta s (first_fit n v _))
