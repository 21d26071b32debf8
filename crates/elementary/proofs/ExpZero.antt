-- EXP of a zero, of either sign and however it is written, is 1: what it makes on the way is a zero that the format holds, and of these there are two. Assumes nothing.
use Rattle.std.proofs.Common.{◌≡◌, ◌*◌, Bool, true, false, cond, ℤ, pos, negsuc, refl, ap, arith, le-ltb}
use lib.Ieee.{Float, fin, binary64, up, down, add, sub, mul, div, lt, eq, of_int, of_bits, to_signed}
use lib.Ieee.Fits.{mul-fits, sub-fits}
use Rattle.elementary.specs.Float.{◌⊕◌, ◌⊖◌, ◌⊗◌, whole, 0ᶠ, ½ᶠ, 1ᶠ, finite}
use Rattle.elementary.specs.Reply.{value, given}
use Rattle.elementary.specs.Elementary.{LOG2E, horner, factorials, exp_sum, exp_n, exp_rest, power2, exp_by, exp_of, EXP}
use Rattle.elementary.proofs.Zeros.{Zero, zero_of, zero_test, zero_times, zero_less, zero_held}

-- it is not above 709, and not below -708
high : (s : Bool) (e : ℤ) → lt (whole (pos 709)) (fin s 0 e) ≡ false
unfolding lt of_int
high true e = refl
high false e = le-ltb (709 * 1 * down e) (0 * up e * 1) (omega arith)

low : (s : Bool) (e : ℤ) → lt (fin s 0 e) (whole (negsuc 707)) ≡ false
unfolding lt of_int
low true e = le-ltb (177 * 4 * down e) (0 * up e * 1) (omega arith)
low false e = refl

-- N is 0
half : (s b : Bool) → to_signed 63 (cond b (fin s 0 (pos 0) ⊖ ½ᶠ) (fin s 0 (pos 0) ⊕ ½ᶠ)) ≡ pos 0
unfolding to_signed add sub of_bits
half true true = refl
half true false = refl
half false true = refl
half false false = refl

count_zero : {x : Float} → Zero x → exp_n x ≡ pos 0
unfolding exp_n finite of_bits
count_zero {x} z = let (s, y) = zero_held binary64 (zero_times binary64 LOG2E z tt) (mul-fits binary64 x LOG2E) in rw y (half s (lt x 0ᶠ))

-- r is a zero, so that the sum is its first term
rest_zero : {x : Float} → Zero x → (s : Bool) × (exp_rest x (whole (pos 0)) ≡ fin s 0 (pos 0))
unfolding exp_rest mul of_int of_bits
rest_zero {x} z = let n = zero_of false (pos 0) in zero_held binary64 (zero_less binary64 (zero_less binary64 z n) n) (sub-fits binary64 _ _)

first_term : (s : Bool) → exp_sum (fin s 0 (pos 0)) ⊗ power2 (pos 0) ≡ 1ᶠ
unfolding horner factorials exp_sum add mul div of_int of_bits
first_term true = refl
first_term false = refl

pub exp_of_zero : {x : Float} → Zero x → EXP x ≡ value 1ᶠ
unfolding finite given exp_by exp_of EXP
exp_of_zero (zero_of s e) = let z = zero_of s e in let (t, r) = rest_zero z in rw (high s e, low s e, count_zero z, r) (ap value (first_term t))

-- by the test
pub exp_at_zero : (x : Float) → eq x 0ᶠ ≡ true → EXP x ≡ value 1ᶠ
exp_at_zero x h = exp_of_zero (zero_test binary64 x h)
