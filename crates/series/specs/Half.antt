-- Without a drift each vector of a run is its own mirror, and rows 0 to the bound decide all of it: what slices over these rows stand for, and that a Taylor step over them is one over all rows. The statement is proved once, in proofs/. Definitions only.
use Rattle.std.specs.Prelude.{◌≡◌, ℕ, suc, ◌-◌, ◌≤◌, Bool, true, false, ◌&&◌, cond, List, length, ltb, Float}
use Rattle.elementary.specs.Float.{positive}
use Rattle.elementary.specs.Reply.{Reply, value, refusal}
use Rattle.operator.specs.Vectors.{tab, at, every}
use Rattle.operator.specs.Operator.{rows}
use Rattle.series.specs.Series.{Operator, operator_over, taylor_step}
use Rattle.series.specs.Slices.{SliceSum, step_over, Sizes, Fit}
use Rattle.operator.specs.Slices.{Ones}

-- ---- m rows of two lists: before row n l's, and from there r's from the far end
unfoldable pub filled_out : ℕ → ℕ → List Float → List Float → List Float
filled_out m n l r = tab m (λ i. cond (ltb i n) (at l i) (at r (m - 1 - i)))

-- all rows of a bound b from rows 0 to b
abbrev pub mirrored : ℕ → List Float → List Float → List Float
mirrored b l r = filled_out (rows b) (suc b) l r

-- ---- n rows of a slice: all rows; or, where half is true, those up to the centre
unfoldable pub full_size : Bool → ℕ → ℕ
full_size false n = n
full_size true n = rows (n - 1)

-- the left factors of all rows, from left and right ones: what is right of a row is left of its mirror image
unfoldable pub full_factors : Bool → ℕ → List Float → List Float → List Float
full_factors false n l r = l
full_factors true n l r = mirrored (n - 1) l r

-- and any other vector, which is its own mirror
abbrev pub full : Bool → ℕ → List Float → List Float
full half n l = full_factors half n l l

-- the operator over all rows
abbrev pub full_operator : Bool → ℕ → List Float → List Float → List Float → Operator
full_operator half n d left right = operator_over (full_size half n) (full half n d) (full_factors half n left right) (full_factors half n right left)

-- the centre's factors are equal: what is right of it mirrors what is left
unfoldable pub Centred : Bool → ℕ → List Float → List Float → Type 0
Centred half n left right = half ≡ true → at left (n - 1) ≡ at right (n - 1)

-- ---- one Taylor step
-- its flag and sum
unfoldable pub StepIs : Bool → List Float → Reply (List Float) → Type 0
StepIs r l (value s) = (r ≡ true) × (l ≡ s)
StepIs r l (refusal k) = r ≡ false

-- a series over n rows: whether it has converged, and its sum, each entry of which is still to be asked whether it is positive
abbrev pub SumIs : ℕ → Bool → List Float → Reply (List Float) → Type 0
SumIs n r l x = StepIs (r && every n (λ i. positive (at l i))) l x

abbrev pub StandsFor : Bool → List Float → List Float → Float → List Float → List Float → SliceSum → Type 0
StandsFor half v diag eta left right r =
    let n = length v in
    SumIs (full_size half n) r.settled (full half n r.sum) (taylor_step (full_operator half n diag left right) eta (full half n v))

-- over slices it is the one over all rows that they stand for, where the centre's factors are equal and each row that is made plainly has factors of 1.0
abbrev pub StepStands : Type 0
StepStands = (half plain : Bool) (v diag left right term : List Float) (eta : Float) → 2 ≤ length v → Sizes (length v) diag left right term
    → Centred half (length v) left right → (plain ≡ true → Ones (length v) left right)
    → let r = step_over half plain v diag eta left right term in StandsFor half v diag eta left right r × Fit r.sum
