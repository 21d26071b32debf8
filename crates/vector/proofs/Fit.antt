-- Each weight and each offset of a value vector is a binary64. Assumes nothing.
use mathlib.Core.Path.{subst, sym}
use Prim.Native.Nat.{ℕ, zero, suc, ◌-◌}
use mathlib.Core.List.{List, [], ◌∷◌, ◌++◌}
use lib.Dec.{T}
use lib.Ieee.{Float, binary64, fits}
use lib.Ieee.Bits.{of_bits-fits}
use lib.Ieee.Fits.{nan-fits, add-fits, div-fits}
use Rattle.elementary.specs.Float.{0ᶠ, 1ᶠ}
use Rattle.elementary.specs.Checks.{Verdict, passes, refused, first_failing}
use Rattle.operator.specs.Vectors.{fill}
use Rattle.operator.specs.Operator.{rows}
use Rattle.series.specs.Slices.{Fit}
use Rattle.series.proofs.Terms.{fit_tab}
use Rattle.plan.specs.Input.{input_checks}
use Rattle.plan.specs.Plan.{Ended, vector, over_cap, failed, Fixed, cap, room}
use Rattle.plan.proofs.Begun.{EndOk}
use Rattle.vector.specs.Run.{divided, run}
use Rattle.vector.specs.Values.{padded, vector_of, blank_vector, refused_vector, vector_by, vector_if, vector_over, value_vector}
use Rattle.vector.specs.Promises.{FitVector, After, divided_only, rebalanced}
use Rattle.plan.specs.declared.RunInput.{RunInput}
use Rattle.vector.specs.declared.ValueVector.{ValueVector}
use Rattle.vector.proofs.Spent.{run_ok}

-- ---- lists whose entries are binary64s
-- one float, however often
fit_fill : (n : ℕ) (x : Float) → T (fits binary64 x) → Fit (fill n x)
fit_fill zero x h i = nan-fits binary64
fit_fill (suc n) x h zero = h
fit_fill (suc n) x h (suc i) = fit_fill n x h i

-- one after the other
fit_append : (l r : List Float) → Fit l → Fit r → Fit (l ++ r)
fit_append [] r f g i = g i
fit_append (x ∷ l) r f g zero = f 0
fit_append (x ∷ l) r f g (suc i) = fit_append l r (λ j. f (suc j)) g i

-- 0.0s and 1.0s
zeros : (n : ℕ) → Fit (fill n 0ᶠ)
zeros n = fit_fill n 0ᶠ (of_bits-fits binary64 _)

ones : (n : ℕ) → Fit (fill n 1ᶠ)
ones n = fit_fill n 1ᶠ (of_bits-fits binary64 _)

-- 0.0 in the places after them
fit_padded : (n : ℕ) (l : List Float) → Fit l → Fit (padded n l)
unfolding padded
fit_padded n l f = fit_append l _ f (zeros (room - n))

-- ---- the weights and offsets of a run
abbrev Both : List Float → List Float → Type 0
Both w o = Fit w × Fit o

-- a weight is a quotient or 1.0; an offset is as before or a sum
after_fit : (p : Fixed) (o v w' o' : List Float) → Fit o → After p o v w' o' → Both w' o'
unfolding divided
after_fit p o v w' o' f (divided_only d e) = (subst Fit (sym d) (fit_tab _ _ (λ i. div-fits binary64 _ _)), subst Fit (sym e) f)
after_fit p o v w' o' f (rebalanced d e) = (subst Fit (sym d) (ones p.n), subst Fit (sym e) (fit_tab _ _ (λ i. add-fits binary64 _ _)))

-- so are those that a run begins with and ends with
run_fit : (x : RunInput) → EndOk cap Both (run x)
run_fit = run_ok Both (λ n. (ones n, zeros n)) (λ p g w o h s. after_fit p g.o s.0 w o h.1 s.2)

-- ---- the reply
abbrev FitBoth : ValueVector → Type 0
FitBoth v = Both v.w v.log_offset

-- of a refusal and of a report
blank_fit : FitBoth blank_vector
unfolding blank_vector
blank_fit = (zeros room, zeros room)

-- by how the run ended
by_fit : (n : ℕ) (e : Ended) → EndOk cap Both e → FitBoth (vector_by n e).vector
unfolding vector_by vector_of refused_vector
by_fit n (vector w o s) h = (fit_padded n w h.0.0, fit_padded n o h.0.1)
by_fit n (over_cap need b) h = blank_fit
by_fit n (failed s) h = blank_fit

-- and by the checks
if_fit : (c : Verdict) (n : ℕ) (e : Ended) → EndOk cap Both e → FitBoth (vector_if c (vector_by n e)).vector
unfolding vector_if refused_vector
if_fit passes n e h = by_fit n e h
if_fit (refused r) n e h = blank_fit

-- of any input
pub fit_vector : FitVector
unfolding value_vector vector_over
fit_vector x i = let (w, o) = if_fit (first_failing (input_checks x)) (rows x.bound) (run x) (run_fit x) in (w i, o i)
