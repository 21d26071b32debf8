-- Document 01, module 1: LN as change request 2 has it, LN1P, EXP, the square root and rounding up to a whole number. Definitions only.
use Rattle.std.specs.Prelude.{ℕ, zero, suc, ◌+◌, ◌-◌, ◌*◌, ◌/◌, ◌^◌, Bool, true, false, cond, List, [], ◌∷◌, ℤ, pos, negsuc, ◌+ℤ◌, nat_le, Float, Option, Some, None}
use Rattle.std.specs.Float.{nan, inf, fin, binary64}
use Rattle.std.specs.Float.Ieee.{up, down, minus, size, lt, round, to_signed}
use Rattle.elementary.specs.Float.{◌⊕◌, ◌⊖◌, ◌⊗◌, ◌⊘◌, hex, whole, 0ᶠ, ½ᶠ, 1ᶠ, 2ᶠ, finite, positive, count}
use Rattle.elementary.specs.Reply.{Reply, value, refusal, given}

-- ---- the refusal of an argument outside a function's domain, and the paper's reading of the code's answer
abbrev pub outside : ℕ
outside = 5

unfoldable pub told : Option Float → Reply Float
told (Some x) = value x
told None = refusal outside

-- a reply's value, and a NaN for a refusal: what reads it tests for that
unfoldable pub or_nan : Reply Float → Float
or_nan (value x) = x
or_nan (refusal n) = nan

-- ---- Horner: c₀ + z (c₁ + z (..)), each product and each sum rounded
unfoldable pub horner : List Float → Float → Float
horner [] z = 0ᶠ
horner (c ∷ []) z = c
horner (c ∷ d ∷ cs) z = horner (d ∷ cs) z ⊗ z ⊕ c

-- ---- the logarithm of 2, and its two parts, which LN and EXP take: HI has 32 binary digits, and LO is the rest
abbrev pub LN2 : Float
LN2 = hex 0x3FE62E42FEFA39EF

abbrev pub HI : Float
HI = hex 0x3FE62E42FEE00000

abbrev pub LO : Float
LO = hex 0x3DEA39EF35793C76

-- ---- LN
-- x = f * 2 ^ e with f in [1, 2): where x is n units of 2 ^ -1074 and n has k + 1 binary digits, f is n / 2 ^ k and e is k - 1074
unfoldable pub mantissa : Float → Float
mantissa x = round binary64 false (count binary64 x) (2 ^ (size (count binary64 x) - 1))

unfoldable pub exponent : Float → ℤ
exponent x = minus (size (count binary64 x)) 1075

-- 1.0 / (2 j + 1) for n values of j, from this one up
unfoldable pub odds : ℕ → ℕ → List Float
odds j zero = []
odds j (suc n) = (1ᶠ ⊘ whole (pos (2 * j + 1))) ∷ odds (suc j) n

-- P: the sum of z ^ j / (2 j + 1), j = 0 .. 11
unfoldable pub ln_sum : Float → Float
ln_sum z = horner (odds 0 12) z

-- (2 * s) * P, the logarithm of (1 + s) / (1 - s)
unfoldable pub ln_series : Float → Float
ln_series s = 2ᶠ ⊗ s ⊗ ln_sum (s ⊗ s)

-- the parts put together: e * HI + ((2 * s) * P + e * LO)
unfoldable pub ln_join : Float → Float → Float
ln_join e s = e ⊗ HI ⊕ (ln_series s ⊕ e ⊗ LO)

unfoldable pub ln_parts : Float → ℤ → Float
ln_parts f e = ln_join (whole e) ((f ⊖ 1ᶠ) ⊘ (f ⊕ 1ᶠ))

-- where f is above 1.5 (the test's outcome comes first), it is halved and e is one more
unfoldable pub ln_halved : Bool → Float → ℤ → Float
ln_halved true f e = ln_parts (f ⊗ ½ᶠ) (e +ℤ pos 1)
ln_halved false f e = ln_parts f e

unfoldable pub ln_of : Float → Float
ln_of x = ln_halved (lt (hex 0x3FF8000000000000) (mantissa x)) (mantissa x) (exponent x)

unfoldable pub LN : Float → Reply Float
LN x = given (positive x) outside (value (ln_of x))

-- ---- LN1P: below 0.5 by the series alone
unfoldable pub ln1p_of : Bool → Float → Reply Float
ln1p_of true r = value (ln_series (r ⊘ (2ᶠ ⊕ r)))
ln1p_of false r = LN (1ᶠ ⊕ r)

unfoldable pub LN1P : Float → Reply Float
LN1P r = given (positive r) outside (ln1p_of (lt r ½ᶠ) r)

-- ---- EXP
abbrev pub LOG2E : Float
LOG2E = hex 0x3FF71547652B82FE

-- 1.0 / j! for n values of j, from this one up; a is j!
unfoldable pub factorials : ℕ → ℕ → ℕ → List Float
factorials j a zero = []
factorials j a (suc n) = (1ᶠ ⊘ whole (pos a)) ∷ factorials (suc j) (a * suc j) n

-- the sum of r ^ j / j!, j = 0 .. 13
unfoldable pub exp_sum : Float → Float
exp_sum r = horner (factorials 0 1 14) r

-- N: y plus 0.5, minus for a negative argument, cut toward zero
unfoldable pub exp_n : Float → ℤ
exp_n x = let y = x ⊗ LOG2E in to_signed 63 (cond (lt x 0ᶠ) (y ⊖ ½ᶠ) (y ⊕ ½ᶠ))

-- r = (x - N * HI) - N * LO
unfoldable pub exp_rest : Float → Float → Float
exp_rest x n = x ⊖ n ⊗ HI ⊖ n ⊗ LO

-- 2 ^ N
abbrev pub power2 : ℤ → Float
power2 n = fin false 1 n

unfoldable pub exp_by : Float → ℤ → Float
exp_by x n = exp_sum (exp_rest x (whole n)) ⊗ power2 n

-- is x above 709, is it below -708
unfoldable pub exp_of : Bool → Bool → Float → Float
exp_of true below x = inf false
exp_of false true x = 0ᶠ
exp_of false false x = exp_by x (exp_n x)

unfoldable pub EXP : Float → Reply Float
EXP x = given (finite x) outside (value (exp_of (lt (whole (pos 709)) x) (lt x (whole (negsuc 707))) x))

-- ---- the square root
-- the whole part of n's root for an n below 4 ^ k, a binary digit at a time
unfoldable pub isqrt : ℕ → ℕ → ℕ
isqrt zero n = 0
isqrt (suc k) n = let r = 2 * isqrt k (n / 4) in cond (nat_le ((r + 1) * (r + 1)) n) (r + 1) r

-- The root of n units of 2 ^ -1074 is the root of n * 2 ^ 1074 in the same units. Its whole part has over 500 digits and a float has 53.
-- So where the root is no whole number of units, half a unit more than the whole part rounds as the root does; and where it is one, it has
-- at most 27 digits before its zeros, and the half unit more is lost. An odd count of half units is never halfway between two floats.
unfoldable pub sqrt_of : ℕ → Float
sqrt_of n = round binary64 false (2 * isqrt 1600 (n * 2 ^ 1074) + 1) (2 ^ 1075)

-- a zero is its own root, with its sign
unfoldable pub SQRT : Float → Reply Float
SQRT nan = refusal outside
SQRT (inf s) = refusal outside
SQRT (fin s zero e) = value (fin s zero e)
SQRT (fin true (suc m) e) = refusal outside
SQRT (fin false (suc m) e) = value (sqrt_of (count binary64 (fin false (suc m) e)))

-- ---- the least whole number from x up; it keeps x's sign, also where it is zero
unfoldable pub ceil_of : Float → Float
ceil_of nan = nan
ceil_of (inf s) = inf s
ceil_of (fin true m e) = round binary64 true (m * up e / down e) 1
ceil_of (fin false m e) = round binary64 false ((m * up e + (down e - 1)) / down e) 1

unfoldable pub CEIL : Float → Reply Float
CEIL x = given (finite x) outside (value (ceil_of x))
