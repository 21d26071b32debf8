-- Document 01, module 2: the diagonal and the factors. Definitions only.
use Rattle.std.specs.Prelude.{ℕ, zero, suc, ◌+◌, ◌*◌, cond, List, ltb, Float}
use Rattle.std.specs.Float.Ieee.{minus}
use Rattle.elementary.specs.Float.{◌⊕◌, ◌⊖◌, ◌⊗◌, whole, 0ᶠ, 2ᶠ}
use Rattle.elementary.specs.Elementary.{EXP, or_nan}
use Rattle.operator.specs.Vectors.{at}

-- ---- the rows of a bound: row i is the holding of i - bound lots
abbrev pub rows : ℕ → ℕ
rows bound = 2 * bound + 1

-- ((alpha × q) × q - beta × q) + 2 × eta
unfoldable pub diagonal_at : ℕ → Float → Float → Float → ℕ → Float
diagonal_at bound alpha beta eta i = let q = whole (minus i bound) in alpha ⊗ q ⊗ q ⊖ beta ⊗ q ⊕ 2ᶠ ⊗ eta

-- EXP of the neighbour's offset minus one's own; 0.0 past an end. A NaN where EXP refuses.
unfoldable pub left_at : List Float → ℕ → Float
left_at o zero = 0ᶠ
left_at o (suc i) = or_nan (EXP (at o i ⊖ at o (suc i)))

-- in the last row as given
abbrev pub right_or : ℕ → List Float → ℕ → Float → Float
right_or n o i last = cond (ltb (suc i) n) (or_nan (EXP (at o (suc i) ⊖ at o i))) last

unfoldable pub right_at : ℕ → List Float → ℕ → Float
right_at n o i = right_or n o i 0ᶠ
