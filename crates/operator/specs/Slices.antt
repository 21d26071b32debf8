-- What the crate's functions make of the slices that they are lent, whatever their lengths: where these do not fit, they stay as they are. A slice has an entry for each row; or, where half is true, for each row up to the centre, and the others mirror them. Definitions only.
use Rattle.std.specs.Prelude.{◌≡◌, ℕ, suc, ◌+◌, ◌-◌, ◌≤◌, ◌<◌, Bool, true, ◌&&◌, cond, List, length, leb, eqb, Float}
use Rattle.std.specs.Float.Ieee.{eq}
use Rattle.elementary.specs.Float.{◌⊗◌, 0ᶠ, 1ᶠ, finite}
use Rattle.operator.specs.Vectors.{tab, at, every}
use Rattle.operator.specs.Operator.{rows, diagonal_at, left_at, right_or}

-- ---- lengths
-- two slices are as long as a third
abbrev pub both_sized : ℕ → ℕ → ℕ → Bool
both_sized n a b = eqb a n && eqb b n

-- past the last row: past the end as given, past the centre what stands before it
abbrev pub past : Bool → Float → Float → Float
past half lower end = cond half lower end

-- ---- the diagonal: the first entries of a bound, and whether all are finite, where it has so many rows
abbrev pub diagonal_fits : ℕ → List Float → Bool
diagonal_fits bound d = leb (length d) (rows bound)

unfoldable pub diagonal_over : ℕ → Float → Float → Float → List Float → List Float
diagonal_over bound alpha beta eta d = cond (diagonal_fits bound d) (tab (length d) (diagonal_at bound alpha beta eta)) d

-- of one step
unfoldable pub scaled_over : List Float → Float → List Float → List Float
scaled_over s dt d = cond (eqb (length d) (length s)) (tab (length s) (λ i. at s i ⊗ dt)) d

-- ---- the factors: past the centre the one before it
unfoldable pub right_by : Bool → ℕ → List Float → ℕ → Float
right_by half n o i = right_or n o i (past half (left_at o i) 0ᶠ)

abbrev pub factors_fit : List Float → List Float → List Float → Bool
factors_fit o left right = both_sized (length o) (length left) (length right)

unfoldable pub left_over : List Float → List Float → List Float → List Float
left_over o left right = cond (factors_fit o left right) (tab (length o) (left_at o)) left

unfoldable pub right_over : Bool → List Float → List Float → List Float → List Float
right_over half o left right = cond (factors_fit o left right) (tab (length o) (right_by half (length o) o)) right

-- is each of them finite
abbrev pub both_fine : ℕ → List Float → List Float → Bool
both_fine n left right = every n (λ i. finite (at left i) && finite (at right i))

-- are both factors 1.0, in row i and in each row between the end rows
abbrev pub one_at : List Float → List Float → ℕ → Bool
one_at left right i = eq (at left i) 1ᶠ && eq (at right i) 1ᶠ

unfoldable pub ones_between : List Float → List Float → Bool
ones_between left right = eqb (length right) (length left) && every (length left - 2) (λ i. one_at left right (suc i))

-- ---- what is said of slices
-- the factors of row i are 1.0, and so are those of each row between the end rows
abbrev pub OneAt : List Float → List Float → ℕ → Type 0
OneAt left right i = (eq (at left i) 1ᶠ ≡ true) × (eq (at right i) 1ᶠ ≡ true)

abbrev pub Ones : ℕ → List Float → List Float → Type 0
Ones n left right = (i : ℕ) → 1 ≤ i → i + 1 < n → OneAt left right i
