-- binary64 under short names: the operations, the constants, the tests that refusals use, and a value as a count of units. Definitions only.
use Rattle.std.specs.Prelude.{ℕ, ◌*◌, ◌/◌, ◌^◌, Bool, true, false, ◌&&◌, ℤ, from_bits, Float}
use Rattle.std.specs.Float.{nan, inf, fin, Format, binary64}
use Rattle.std.specs.Float.Ieee.{low, up, down, add, sub, mul, div, lt, of_int}

-- ---- one rounding each
infixl 60 ◌⊕◌
infixl 60 ◌⊖◌
infixl 70 ◌⊗◌
infixl 70 ◌⊘◌
abbrev pub ◌⊕◌ : Float → Float → Float
x ⊕ y = add binary64 x y

abbrev pub ◌⊖◌ : Float → Float → Float
x ⊖ y = sub binary64 x y

abbrev pub ◌⊗◌ : Float → Float → Float
x ⊗ y = mul binary64 x y

abbrev pub ◌⊘◌ : Float → Float → Float
x ⊘ y = div binary64 x y

-- ---- constants: by their bits, or whole numbers, which are exact up to 2 ^ 53
abbrev pub hex : ℕ → Float
hex b = from_bits binary64 b

abbrev pub whole : ℤ → Float
whole z = of_int binary64 z

abbrev pub 0ᶠ : Float
0ᶠ = hex 0

abbrev pub ½ᶠ : Float
½ᶠ = hex 0x3FE0000000000000

abbrev pub 1ᶠ : Float
1ᶠ = hex 0x3FF0000000000000

abbrev pub 2ᶠ : Float
2ᶠ = hex 0x4000000000000000

-- ---- tests
-- neither a NaN nor an infinity
unfoldable pub finite : Float → Bool
finite nan = false
finite (inf s) = false
finite (fin s m e) = true

-- finite and above zero
unfoldable pub positive : Float → Bool
positive x = finite x && lt 0ᶠ x

-- ---- the size of a finite value as a count of its format's smallest value: of 2 ^ -1074 for binary64
unfoldable pub count : Format → Float → ℕ
count f nan = 0
count f (inf s) = 0
count f (fin s m e) = m * up e * 2 ^ low f / down e
