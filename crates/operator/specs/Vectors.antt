-- Vectors as lists, made entry by entry, and the tests and folds over them. Definitions only.
use Rattle.std.specs.Prelude.{◌≡◌, ℕ, zero, suc, ◌+◌, Bool, true, ◌&&◌, cond, List, [], ◌∷◌, get_or, replicate, ltb, Float}
use Rattle.std.specs.Float.{nan}
use Rattle.std.specs.Float.Ieee.{neg, lt}
use Rattle.elementary.specs.Float.{0ᶠ}

-- f 0, .., f (n - 1)
unfoldable pub from : ℕ → ℕ → (ℕ → Float) → List Float
from i zero f = []
from i (suc n) f = f i ∷ from (suc i) n f

abbrev pub tab : ℕ → (ℕ → Float) → List Float
tab n f = from 0 n f

-- n times x
abbrev pub fill : ℕ → Float → List Float
fill n x = replicate n x

-- entry i, as an index reads it; the entry before i and the one after it, 0.0 past an end
abbrev pub at : List Float → ℕ → Float
at l i = get_or l i nan

unfoldable pub before : List Float → ℕ → Float
before l zero = 0ᶠ
before l (suc i) = at l i

unfoldable pub after : ℕ → List Float → ℕ → Float
after n l i = cond (ltb (suc i) n) (at l (suc i)) 0ᶠ

-- p holds of each index below n
unfoldable pub every_from : ℕ → ℕ → (ℕ → Bool) → Bool
every_from i zero p = true
every_from i (suc n) p = p i && every_from (suc i) n p

abbrev pub every : ℕ → (ℕ → Bool) → Bool
every n p = every_from 0 n p

-- the entries taken in one after the other, from the first
unfoldable pub fold : (Float → Float → Float) → Float → List Float → Float
fold g a [] = a
fold g a (x ∷ l) = fold g (g a x) l

-- the larger and the smaller of two; where one of them is a NaN, x
unfoldable pub larger : Float → Float → Float
larger x y = cond (lt x y) y x

unfoldable pub smaller : Float → Float → Float
smaller x y = cond (lt y x) y x

-- the magnitude
unfoldable pub abs : Float → Float
abs x = cond (lt x 0ᶠ) (neg x) x

-- r is l from the far end: i and j are opposite places among n
unfoldable pub Mirror : ℕ → List Float → List Float → Type 0
Mirror n l r = (i j : ℕ) → suc (i + j) ≡ n → at l i ≡ at r j
