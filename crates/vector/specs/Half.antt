-- Without a drift rows 0 to the bound decide all of a run: what it is over the rows that slices stand for. No public contract cites this file. Definitions only.
use Rattle.std.specs.Prelude.{◌≡◌, ℕ, Bool, List, Float}
use Rattle.operator.specs.Vectors.{tab}
use Rattle.operator.specs.Operator.{diagonal_at, rows}
use Rattle.series.specs.Half.{full_size, full}
use Rattle.plan.specs.Plan.{Fixed, fixed_over}

-- a run's own numbers over all rows
abbrev pub full_fixed : Bool → ℕ → List Float → Float → Fixed
full_fixed half n d eta = fixed_over (full_size half n) (full half n d) eta

-- n rows are enough: they stand for all rows of a bound, and their diagonal for the whole one
pub record RowsStand (half : Bool) (n bound : ℕ) (alpha beta eta : Float) : Type 0 where
  pub sized : full_size half n ≡ rows bound
  pub diagonals : full half n (tab n (diagonal_at bound alpha beta eta)) ≡ tab (rows bound) (diagonal_at bound alpha beta eta)
