-- The two rows of bound 1 that stand for all three, held in locals: as lists, and as the operator over slices of two rows. No public contract cites this file. Definitions only.
use Rattle.std.specs.Prelude.{List, [], ◌∷◌, Float}
use Rattle.series.specs.Series.{Operator, operator_over}
use Rattle.series.specs.Slices.{SliceSum, sum_of}
use Rattle.series.specs.declared.pair.Pair.{Pair}
use Rattle.series.specs.declared.pair.TwoRows.{TwoRows}
use Rattle.series.specs.declared.pair.Partial.{Partial}

abbrev pub pair_of : Pair → List Float
pair_of x = x.end ∷ x.centre ∷ []

abbrev pub operator_of : TwoRows → Operator
operator_of p = operator_over 2 (pair_of p.diag) (pair_of p.left) (pair_of p.right)

abbrev pub partial_of : Partial → SliceSum
partial_of s = sum_of (pair_of s.term) (pair_of s.sum) s.settled
