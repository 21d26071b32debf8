-- The order of the values that are `nonneg`: it is total, and the operations, the count of units and the cast to an unsigned integer keep it.
-- Rounding gives back a value that the format holds, so a sum is no smaller than such an operand. Infinities, zeros and subnormal values are included. Assumes nothing.
use lib.Ieee.Nearest.{div_mono as div-le}
use Rattle.std.proofs.Common.{◌≡◌, ℕ, zero, suc, ◌+◌, ◌-◌, ◌*◌, ◌^◌, ◌<◌, ◌≤◌, Bool, true, false, cond, not, ◌&&◌, ◌||◌, T, eqb, ltb, ℤ, pos, sym, refl, subst, true≢false, le_trans, le_of_eq, le_refl, lt_of_lt_of_le, le_of_lt, mul-le-mul_right, mul-le-mul, mul-pos, sub-le, arith, eqb→eq, ltb→lt, ltb-false, le-ltb, ne_eqb}
use lib.Ieee.{Float, nan, inf, fin, Format, prec, emax, low, up, down, unlike, odd, units, round, add, sub, mul, div, lt, eq, le, of_int, of_bits, to_unsigned, fits, is_nan}
use lib.Ieee.Fits.{up_pos, down_pos, round_is, and_l, and_r}
use lib.Ieee.Order.{le_of_values, round_mono}
use lib.Ieee.Positive.{through, first_pos}
use Rattle.elementary.specs.Float.{finite, positive, count}
use Rattle.elementary.proofs.Exact.{round_own}
use Rattle.elementary.proofs.Signs.{nonneg, round_neg, round_zero, is_nan_neg}

-- ---- a `nonneg` value is +infinity or m * 2 ^ e
data Nonneg : Float → Type 0 where
  inf⁺ : Nonneg (inf false)
  fin⁺ : (m : ℕ) (e : ℤ) → Nonneg (fin false m e)

cases : (x : Float) → T (nonneg x) → Nonneg x
cases nan p = absurd p
cases (inf true) p = absurd p
cases (inf false) p = inf⁺
cases (fin true m e) p = absurd p
cases (fin false m e) p = fin⁺ m e

nonneg_of : {x : Float} → Nonneg x → T (nonneg x)
nonneg_of inf⁺ = tt
nonneg_of (fin⁺ m e) = tt

number_of : {x : Float} → Nonneg x → T (not (is_nan x))
unfolding is_nan
number_of inf⁺ = tt
number_of (fin⁺ m e) = tt

-- ---- the order of two finite ones is that of their fractions
less_or_same : (a b : ℕ) (p q : Bool) → (T p → a < b) → (T q → a ≡ b) → T (p || (q && true)) → a ≤ b
less_or_same a b true q h k u = le_of_lt (h tt)
less_or_same a b false true h k u = le_of_eq (k tt)
less_or_same a b false false h k u = absurd u

module _ (m : ℕ) (e : ℤ) (n : ℕ) (d : ℤ) where
  le→cross : T (le (fin false m e) (fin false n d)) → m * up e * down d ≤ n * up d * down e
  unfolding le
  le→cross =
      let a = m * up e * down d in
      let b = n * up d * down e in
      less_or_same a b (ltb a b) (eqb a b) (ltb→lt a b) (eqb→eq a b)

  cross→le : m * up e * down d ≤ n * up d * down e → T (le (fin false m e) (fin false n d))
  cross→le = le_of_values (fin false m e) (fin false n d) (m * up e) (down e) (n * up d) (down d) (down_pos e) (down_pos d) (refl, refl) (refl, refl)

-- ---- a total order
le_inf : {x : Float} → Nonneg x → T (le x (inf false))
unfolding le
le_inf inf⁺ = tt
le_inf (fin⁺ m e) = tt

zero-le : {x : Float} → Nonneg x → T (le (fin false 0 (pos 0)) x)
zero-le inf⁺ = le_inf (fin⁺ 0 (pos 0))
zero-le (fin⁺ m e) = cross→le 0 (pos 0) m e (omega arith)

self : {x : Float} → Nonneg x → T (le x x)
self inf⁺ = le_inf inf⁺
self (fin⁺ m e) = cross→le m e m e (le_refl (m * up e * down e))

chain : {x y z : Float} → Nonneg x → Nonneg y → Nonneg z → T (le x y) → T (le y z) → T (le x z)
unfolding le
chain p q inf⁺ h k = le_inf p
chain p inf⁺ (fin⁺ l g) h k = absurd k
chain inf⁺ (fin⁺ n d) (fin⁺ l g) h k = absurd h
chain (fin⁺ m e) (fin⁺ n d) (fin⁺ l g) h k =
    cross→le m e l g (through (m * up e) (n * up d) (l * up g) (down e) (down d) (down g) (down_pos d) (le→cross m e n d h) (le→cross n d l g k))

total : {x y : Float} → Nonneg x → Nonneg y → lt x y ≡ false → T (le y x)
unfolding lt
total inf⁺ q h = le_inf q
total (fin⁺ m e) inf⁺ h = absurd (true≢false h)
total (fin⁺ m e) (fin⁺ n d) h = cross→le n d m e (ltb-false (m * up e * down d) (n * up d * down e) h)

pub le_refl_f : (x : Float) → T (nonneg x) → T (le x x)
le_refl_f x p = self (cases x p)

pub le_trans_f : (x y z : Float) → T (nonneg x) → T (nonneg y) → T (nonneg z) → T (le x y) → T (le y z) → T (le x z)
le_trans_f x y z p q r = chain (cases x p) (cases y q) (cases z r)

pub not_lt→le : (x y : Float) → T (nonneg x) → T (nonneg y) → lt x y ≡ false → T (le y x)
not_lt→le x y p q = total (cases x p) (cases y q)

pub lt→le : (x y : Float) → T (lt x y) → T (le x y)
unfolding le
lt→le x y h = go (lt x y) h
  where
    go : (b : Bool) → T b → T (b || eq x y)
    go true t = tt
    go false t = absurd t

pub lt→not_ge : (x y : Float) → T (lt x y) → T (le y x) → ⊥
unfolding lt le
lt→not_ge nan y h k = h
lt→not_ge (inf s) nan h k = h
lt→not_ge (inf true) (inf true) h k = h
lt→not_ge (inf true) (inf false) h k = k
lt→not_ge (inf false) (inf t) h k = h
lt→not_ge (inf true) (fin t n d) h k = k
lt→not_ge (inf false) (fin t n d) h k = h
lt→not_ge (fin s m e) nan h k = h
lt→not_ge (fin s m e) (inf true) h k = h
lt→not_ge (fin s m e) (inf false) h k = k
lt→not_ge (fin false m e) (fin false n d) h k = omega (arith, ltb→lt (m * up e * down d) (n * up d * down e) h, le→cross n d m e k)
lt→not_ge (fin false m e) (fin true n d) h k = h
lt→not_ge (fin true m e) (fin false n d) h k =
    let a = m * up e * down d in
    let b = n * up d * down e in
    omega (arith, ltb→lt 0 (a + b) h, eqb→eq b a (and_l (eqb b a) (eqb b 0) k), eqb→eq b 0 (and_r (eqb b a) (eqb b 0) k))
lt→not_ge (fin true m e) (fin true n d) h k =
    let a = m * up e * down d in
    let b = n * up d * down e in
    omega (arith, ltb→lt b a h, less_or_same a b (ltb a b) (eqb b a) (ltb→lt a b) (λ t. sym (eqb→eq b a t)) k)

unless : (b : Bool) → (b ≡ false → ⊥) → T b
unless true h = tt
unless false h = h refl

pub le_lt_trans : (x y z : Float) → T (nonneg x) → T (nonneg y) → T (nonneg z) → T (le x y) → T (lt y z) → T (lt x z)
le_lt_trans x y z p q r h k = unless (lt x z) (λ n. lt→not_ge y z k (le_trans_f z x y r p q (not_lt→le x z p r n) h))

pub lt_le_trans : (x y z : Float) → T (nonneg x) → T (nonneg y) → T (nonneg z) → T (lt x y) → T (le y z) → T (lt x z)
lt_le_trans x y z p q r h k = unless (lt x z) (λ n. lt→not_ge x y h (le_trans_f y z x q r p k (not_lt→le x z p r n)))

pub finite_below : (x y : Float) → T (nonneg x) → T (le x y) → T (finite y) → T (finite x)
unfolding le finite
finite_below nan y p h k = absurd p
finite_below (inf true) y p h k = absurd p
finite_below (inf false) nan p h k = absurd h
finite_below (inf false) (inf t) p h k = absurd k
finite_below (inf false) (fin t n d) p h k = absurd h
finite_below (fin s m e) y p h k = tt

-- ---- rounding
units_cases : (f : Format) (q k : ℕ) → Nonneg (units f false q k)
unfolding units odd
units_cases f q k = go (ltb (q * 2 ^ k) (2 ^ (low f + suc (emax f)))) q
  where
    go : (b : Bool) (q : ℕ) → Nonneg (cond b (odd (suc (prec f)) false q k (low f)) (inf false))
    go true zero = fin⁺ _ _
    go true (suc q) = fin⁺ _ _
    go false q = inf⁺

round_cases : (f : Format) (a b : ℕ) → Nonneg (round f false a b)
round_cases f a b = rw round_is (units_cases f _ _)

pub round_nonneg : (f : Format) (a b : ℕ) → T (nonneg (round f false a b))
round_nonneg f a b = nonneg_of (round_cases f a b)

pub round_number : (f : Format) (s : Bool) (a b : ℕ) → T (not (is_nan (round f s a b)))
round_number f true a b = rw (round_neg f false a b, is_nan_neg (round f false a b)) (number_of (round_cases f a b))
round_number f false a b = number_of (round_cases f a b)

-- ---- natural numbers as floats
pub of_int_nonneg : (f : Format) (n : ℕ) → T (nonneg (of_int f (pos n)))
unfolding of_int
of_int_nonneg f n = round_nonneg f n 1

pub of_int_mono : (f : Format) (m n : ℕ) → m ≤ n → T (le (of_int f (pos m)) (of_int f (pos n)))
unfolding of_int
of_int_mono f m n h = round_mono f m 1 n 1 (omega arith) (omega arith) (omega arith)

-- ---- sums
add_cases : (f : Format) {x y : Float} → Nonneg x → Nonneg y → Nonneg (add f x y)
unfolding add
add_cases f inf⁺ inf⁺ = inf⁺
add_cases f inf⁺ (fin⁺ n d) = inf⁺
add_cases f (fin⁺ m e) inf⁺ = inf⁺
add_cases f (fin⁺ m e) (fin⁺ n d) = round_cases f (m * up e * down d + n * up d * down e) (down e * down d)

pub add_nonneg : (f : Format) (x y : Float) → T (nonneg x) → T (nonneg y) → T (nonneg (add f x y))
add_nonneg f x y p q = nonneg_of (add_cases f (cases x p) (cases y q))

-- x / p + y / q ≤ x' / p' + y' / q'
sums : (x y x' y' p q p' q' : ℕ) → x * p' ≤ x' * p → y * q' ≤ y' * q → (x * q + y * p) * (p' * q') ≤ (x' * q' + y' * p') * (p * q)
sums x y x' y' p q p' q' h k = omega (arith, mul-le-mul_right (q * q') h, mul-le-mul_right (p * p') k)

adds : (f : Format) {x x' y y' : Float} → Nonneg x → Nonneg x' → Nonneg y → Nonneg y' → T (le x x') → T (le y y') → T (le (add f x y) (add f x' y'))
unfolding add le
adds f p inf⁺ q inf⁺ h k = le_inf (add_cases f p q)
adds f p inf⁺ q (fin⁺ n' d') h k = le_inf (add_cases f p q)
adds f p (fin⁺ m' e') q inf⁺ h k = le_inf (add_cases f p q)
adds f inf⁺ (fin⁺ m' e') q (fin⁺ n' d') h k = absurd h
adds f (fin⁺ m e) (fin⁺ m' e') inf⁺ (fin⁺ n' d') h k = absurd k
adds f (fin⁺ m e) (fin⁺ m' e') (fin⁺ n d) (fin⁺ n' d') h k =
    round_mono f _ _ _ _ (mul-pos (down_pos e) (down_pos d)) (mul-pos (down_pos e') (down_pos d'))
    (sums (m * up e) (n * up d) (m' * up e') (n' * up d') (down e) (down d) (down e') (down d') (le→cross m e m' e' h) (le→cross n d n' d' k))

pub add_mono : (f : Format) (x x' y y' : Float) → T (nonneg x) → T (nonneg x') → T (nonneg y) → T (nonneg y') → T (le x x') → T (le y y') → T (le (add f x y) (add f x' y'))
add_mono f x x' y y' p p' q q' = adds f (cases x p) (cases x' p') (cases y q) (cases y' q')

-- ---- products
number : (b : Bool) → T (not (is_nan (cond b nan (inf false)))) → cond b nan (inf false) ≡ inf false
unfolding is_nan
number true h = absurd h
number false h = refl

mul_cases : (f : Format) {x y : Float} → Nonneg x → Nonneg y → T (not (is_nan (mul f x y))) → Nonneg (mul f x y)
unfolding mul
mul_cases f inf⁺ inf⁺ h = inf⁺
mul_cases f inf⁺ (fin⁺ n d) h = rw (number (eqb n 0) h) inf⁺
mul_cases f (fin⁺ m e) inf⁺ h = rw (number (eqb m 0) h) inf⁺
mul_cases f (fin⁺ m e) (fin⁺ n d) h = round_cases f (m * up e * (n * up d)) (down e * down d)

pub mul_nonneg : (f : Format) (x y : Float) → T (nonneg x) → T (nonneg y) → T (not (is_nan (mul f x y))) → T (nonneg (mul f x y))
mul_nonneg f x y p q h = nonneg_of (mul_cases f (cases x p) (cases y q) h)

pub mul_number : (f : Format) (x y : Float) → T (finite x) → T (finite y) → T (not (is_nan (mul f x y)))
unfolding finite mul
mul_number f nan y h k = absurd h
mul_number f (inf s) y h k = absurd h
mul_number f (fin s m e) nan h k = absurd k
mul_number f (fin s m e) (inf t) h k = absurd k
mul_number f (fin s m e) (fin t n d) h k = round_number f (unlike s t) (m * up e * (n * up d)) (down e * down d)

-- of two finite values, and with the second once more, which is no zero where the first product is infinite
again_number : (f : Format) {z : Float} (n : ℕ) (d : ℤ) → Nonneg z → T (not (is_nan (mul f z (fin false (suc n) d))))
unfolding mul is_nan
again_number f n d inf⁺ = rw (ne_eqb (suc n) 0 (λ k. omega arith)) tt
again_number f n d (fin⁺ m e) = round_number f false (m * up e * (suc n * up d)) (down e * down d)

pub mul_twice_number : (f : Format) (x y : Float) → T (nonneg x) → T (finite x) → T (nonneg y) → T (finite y) → T (not (is_nan (mul f (mul f x y) y)))
unfolding finite mul
mul_twice_number f x y p t q u = go (cases x p) (cases y q) t u
  where
    go : {x y : Float} → Nonneg x → Nonneg y → T (finite x) → T (finite y) → T (not (is_nan (mul f (mul f x y) y)))
    go inf⁺ q t u = absurd t
    go (fin⁺ m e) inf⁺ t u = absurd u
    go (fin⁺ m e) (fin⁺ zero d) t u =
        let z : m * up e * (0 * up d) ≡ 0 = omega arith in
        rw (z, round_zero f false (down e * down d) (mul-pos (down_pos e) (down_pos d))) (round_number f false (0 * 1 * (0 * up d)) (1 * down d))
    go (fin⁺ m e) (fin⁺ (suc n) d) t u = again_number f n d (round_cases f (m * up e * (suc n * up d)) (down e * down d))

-- x / p * (y / q) ≤ x' / p' * (y' / q')
products : (x y x' y' p q p' q' : ℕ) → x * p' ≤ x' * p → y * q' ≤ y' * q → x * y * (p' * q') ≤ x' * y' * (p * q)
products x y x' y' p q p' q' h k = omega (arith, mul-le-mul h k)

muls : (f : Format) {x x' y y' : Float} → Nonneg x → Nonneg x' → Nonneg y → Nonneg y' → T (not (is_nan (mul f x y))) → T (not (is_nan (mul f x' y'))) → T (le x x') → T (le y y') → T (le (mul f x y) (mul f x' y'))
unfolding mul le
muls f p inf⁺ q inf⁺ g g' h k = le_inf (mul_cases f p q g)
muls f p inf⁺ q (fin⁺ n' d') g g' h k = rw (number (eqb n' 0) g') (le_inf (mul_cases f p q g))
muls f p (fin⁺ m' e') q inf⁺ g g' h k = rw (number (eqb m' 0) g') (le_inf (mul_cases f p q g))
muls f inf⁺ (fin⁺ m' e') q (fin⁺ n' d') g g' h k = absurd h
muls f (fin⁺ m e) (fin⁺ m' e') inf⁺ (fin⁺ n' d') g g' h k = absurd k
muls f (fin⁺ m e) (fin⁺ m' e') (fin⁺ n d) (fin⁺ n' d') g g' h k =
    round_mono f _ _ _ _ (mul-pos (down_pos e) (down_pos d)) (mul-pos (down_pos e') (down_pos d'))
    (products (m * up e) (n * up d) (m' * up e') (n' * up d') (down e) (down d) (down e') (down d') (le→cross m e m' e' h) (le→cross n d n' d' k))

pub mul_mono : (f : Format) (x x' y y' : Float) → T (nonneg x) → T (nonneg x') → T (nonneg y) → T (nonneg y') → T (not (is_nan (mul f x y))) → T (not (is_nan (mul f x' y'))) → T (le x x') → T (le y y') → T (le (mul f x y) (mul f x' y'))
mul_mono f x x' y y' p p' q q' = muls f (cases x p) (cases x' p') (cases y q) (cases y' q')

-- ---- quotients
div_cases : (f : Format) {x y : Float} → Nonneg x → Nonneg y → T (not (is_nan (div f x y))) → Nonneg (div f x y)
unfolding div is_nan
div_cases f inf⁺ inf⁺ h = absurd h
div_cases f inf⁺ (fin⁺ n d) h = inf⁺
div_cases f (fin⁺ m e) inf⁺ h = fin⁺ 0 (pos 0)
div_cases f (fin⁺ m e) (fin⁺ n d) h = go (eqb n 0) h
  where
    go : (b : Bool) → T (not (is_nan (cond b (cond (eqb m 0) nan (inf false)) (round f false (m * up e * down d) (n * up d * down e))))) → Nonneg (cond b (cond (eqb m 0) nan (inf false)) (round f false (m * up e * down d) (n * up d * down e)))
    go true k = rw (number (eqb m 0) k) inf⁺
    go false k = round_cases f (m * up e * down d) (n * up d * down e)

pub div_nonneg : (f : Format) (x y : Float) → T (nonneg x) → T (nonneg y) → T (not (is_nan (div f x y))) → T (nonneg (div f x y))
div_nonneg f x y p q h = nonneg_of (div_cases f (cases x p) (cases y q) h)

-- finite and above zero
data Positive : Float → Type 0 where
  fin> : (n : ℕ) (d : ℤ) → 0 < n → Positive (fin false n d)

positive_cases : (x : Float) → T (positive x) → Positive x
unfolding positive finite lt of_bits
positive_cases nan p = absurd p
positive_cases (inf s) p = absurd p
positive_cases (fin true n d) p = absurd p
positive_cases (fin false n d) p = fin> n d (first_pos n (up d) (omega (arith, ltb→lt (0 * 1 * down d) (n * up d * 1) p)))

pub positive_nonneg : (x : Float) → T (positive x) → T (nonneg x) × T (finite x)
positive_nonneg x p = go (positive_cases x p)
  where
    go : {x : Float} → Positive x → T (nonneg x) × T (finite x)
    go (fin> n d h) = unfold finite in (tt, tt)

div_is : (f : Format) (m : ℕ) (e : ℤ) (n : ℕ) (d : ℤ) → 0 < n → div f (fin false m e) (fin false n d) ≡ round f false (m * up e * down d) (n * up d * down e)
unfolding div
div_is f m e n d h = rw (ne_eqb n 0 (λ k. omega arith))

div_positive : (f : Format) {x y : Float} → Nonneg x → Positive y → Nonneg (div f x y)
div_positive f inf⁺ (fin> n d h) = unfold div in inf⁺
div_positive f (fin⁺ m e) (fin> n d h) = rw (div_is f m e n d h) (round_cases f (m * up e * down d) (n * up d * down e))

pub div_number : (f : Format) (x y : Float) → T (nonneg x) → T (positive y) → T (not (is_nan (div f x y)))
div_number f x y p q = number_of (div_positive f (cases x p) (positive_cases y q))

-- x / p / (y / q) ≤ x' / p' / (y' / q')
quotients : (x y x' y' p q p' q' : ℕ) → x * p' ≤ x' * p → y' * q ≤ y * q' → x * q * (y' * p') ≤ x' * q' * (y * p)
quotients x y x' y' p q p' q' h k = omega (arith, mul-le-mul h k)

ratios : (f : Format) (m : ℕ) (e : ℤ) (m' : ℕ) (e' : ℤ) (n : ℕ) (d : ℤ) (n' : ℕ) (d' : ℤ) → 0 < n → 0 < n' → T (le (fin false m e) (fin false m' e')) → T (le (fin false n' d') (fin false n d))
    → T (le (div f (fin false m e) (fin false n d)) (div f (fin false m' e') (fin false n' d')))
ratios f m e m' e' n d n' d' g g' h k =
    rw (div_is f m e n d g, div_is f m' e' n' d' g')
    (round_mono f _ _ _ _ (mul-pos (mul-pos g (up_pos d)) (down_pos e)) (mul-pos (mul-pos g' (up_pos d')) (down_pos e'))
    (quotients (m * up e) (n * up d) (m' * up e') (n' * up d') (down e) (down d) (down e') (down d') (le→cross m e m' e' h) (le→cross n' d' n d k)))

divs : (f : Format) {x x' y : Float} → Nonneg x → Nonneg x' → Positive y → T (le x x') → T (le (div f x y) (div f x' y))
unfolding div le
divs f p inf⁺ (fin> n d g) h = le_inf (div_positive f p (fin> n d g))
divs f inf⁺ (fin⁺ m' e') (fin> n d g) h = absurd h
divs f (fin⁺ m e) (fin⁺ m' e') (fin> n d g) h = ratios f m e m' e' n d n d g g h (self (fin⁺ n d))

pub div_mono : (f : Format) (x x' y : Float) → T (nonneg x) → T (nonneg x') → T (positive y) → T (le x x') → T (le (div f x y) (div f x' y))
div_mono f x x' y p p' q = divs f (cases x p) (cases x' p') (positive_cases y q)

divisors : (f : Format) {x y y' : Float} → Nonneg x → T (finite x) → Positive y → Nonneg y' → T (le y y') → T (le (div f x y') (div f x y))
unfolding div finite
divisors f inf⁺ t (fin> n d g) q h = absurd t
divisors f (fin⁺ m e) t (fin> n d g) inf⁺ h = zero-le (div_positive f (fin⁺ m e) (fin> n d g))
divisors f (fin⁺ m e) t (fin> n d g) (fin⁺ n' d') h =
    let b : 0 < n' * up d' * down d = lt_of_lt_of_le (mul-pos (mul-pos g (up_pos d)) (down_pos d')) (le→cross n d n' d' h) in
    ratios f m e m e n' d' n d (first_pos n' (up d') (first_pos (n' * up d') (down d) b)) g (self (fin⁺ m e)) h

pub div_anti : (f : Format) (x y y' : Float) → T (nonneg x) → T (finite x) → T (positive y) → T (nonneg y') → T (le y y') → T (le (div f x y') (div f x y))
div_anti f x y y' p t q q' = divisors f (cases x p) t (positive_cases y q) (cases y' q')

-- ---- A value that the format holds is what it rounds to: what is no more than a fraction is no more than the fraction rounded, and what is no less is no less
pub held_le_round : (f : Format) (m : ℕ) (e : ℤ) (a c : ℕ) → T (fits f (fin false m e)) → 0 < c → m * up e * c ≤ a * down e → T (le (fin false m e) (round f false a c))
held_le_round f m e a c t C h = subst (λ (z : Float). T (le z (round f false a c))) (round_own f false m e t) (round_mono f (m * up e) (down e) a c (down_pos e) C h)

pub round_le_held : (f : Format) (m : ℕ) (e : ℤ) (a c : ℕ) → T (fits f (fin false m e)) → 0 < c → a * down e ≤ m * up e * c → T (le (round f false a c) (fin false m e))
round_le_held f m e a c t C h = subst (λ (z : Float). T (le (round f false a c) z)) (round_own f false m e t) (round_mono f a c (m * up e) (down e) C (down_pos e) h)

grows : (f : Format) {x y : Float} → Nonneg x → Nonneg y → T (fits f x) → T (le x (add f x y))
unfolding add
grows f inf⁺ inf⁺ t = le_inf inf⁺
grows f inf⁺ (fin⁺ n d) t = le_inf inf⁺
grows f (fin⁺ m e) inf⁺ t = le_inf (fin⁺ m e)
grows f (fin⁺ m e) (fin⁺ n d) t = held_le_round f m e (m * up e * down d + n * up d * down e) (down e * down d) t (mul-pos (down_pos e) (down_pos d)) (omega arith)

pub add_grows : (f : Format) (x y : Float) → T (nonneg x) → T (nonneg y) → T (fits f x) → T (le x (add f x y))
add_grows f x y p q = grows f (cases x p) (cases y q)

-- ---- differences
sub_is : (f : Format) (m : ℕ) (e : ℤ) (n : ℕ) (d : ℤ) → T (le (fin false n d) (fin false m e)) → sub f (fin false m e) (fin false n d) ≡ round f false (m * up e * down d - n * up d * down e) (down e * down d)
unfolding sub
sub_is f m e n d h = rw (le-ltb (m * up e * down d) (n * up d * down e) (le→cross n d m e h))

sub_cases : (f : Format) {x y : Float} → Nonneg x → Nonneg y → T (finite y) → T (le y x) → Nonneg (sub f x y)
unfolding finite
sub_cases f p inf⁺ t h = absurd t
sub_cases f inf⁺ (fin⁺ n d) t h = unfold sub in inf⁺
sub_cases f (fin⁺ m e) (fin⁺ n d) t h = rw (sub_is f m e n d h) (round_cases f (m * up e * down d - n * up d * down e) (down e * down d))

pub sub_nonneg : (f : Format) (x y : Float) → T (nonneg x) → T (nonneg y) → T (finite y) → T (le y x) → T (nonneg (sub f x y))
sub_nonneg f x y p q t h = nonneg_of (sub_cases f (cases x p) (cases y q) t h)

shrinks : (f : Format) {x y : Float} → Nonneg x → Nonneg y → T (fits f x) → T (finite y) → T (le y x) → T (le (sub f x y) x)
unfolding finite
shrinks f p inf⁺ t u h = absurd u
shrinks f inf⁺ (fin⁺ n d) t u h = le_inf (sub_cases f inf⁺ (fin⁺ n d) (unfold finite in u) h)
shrinks f (fin⁺ m e) (fin⁺ n d) t u h =
    rw (sub_is f m e n d h)
    (round_le_held f m e (m * up e * down d - n * up d * down e) (down e * down d) t (mul-pos (down_pos e) (down_pos d))
    (le_trans (mul-le-mul_right (down e) (sub-le (m * up e * down d) (n * up d * down e))) (omega arith)))

pub sub_shrinks : (f : Format) (x y : Float) → T (nonneg x) → T (nonneg y) → T (fits f x) → T (finite y) → T (le y x) → T (le (sub f x y) x)
sub_shrinks f x y p q = shrinks f (cases x p) (cases y q)

-- ---- whole numbers from values
counts : (f : Format) {x y : Float} → Nonneg x → Nonneg y → T (finite y) → T (le x y) → count f x ≤ count f y
unfolding finite count le
counts f p inf⁺ t h = absurd t
counts f inf⁺ (fin⁺ n d) t h = absurd h
counts f (fin⁺ m e) (fin⁺ n d) t h = div-le (m * up e * 2 ^ low f) (down e) (n * up d * 2 ^ low f) (down d) (down_pos e) (down_pos d) (omega (arith, mul-le-mul_right (2 ^ low f) (le→cross m e n d h)))

pub count_mono : (f : Format) (x y : Float) → T (nonneg x) → T (nonneg y) → T (finite y) → T (le x y) → count f x ≤ count f y
count_mono f x y p q = counts f (cases x p) (cases y q)

unsigneds : (w : ℕ) {x y : Float} → Nonneg x → Nonneg y → T (le x y) → to_unsigned w x ≤ to_unsigned w y
unfolding to_unsigned le
unsigneds w inf⁺ inf⁺ h = le_refl (2 ^ w - 1)
unsigneds w inf⁺ (fin⁺ n d) h = absurd h
unsigneds w (fin⁺ m e) inf⁺ h = omega arith
unsigneds w (fin⁺ m e) (fin⁺ n d) h = omega (arith, div-le (m * up e) (down e) (n * up d) (down d) (down_pos e) (down_pos d) (le→cross m e n d h))

pub to_unsigned_mono : (w : ℕ) (x y : Float) → T (nonneg x) → T (nonneg y) → T (le x y) → to_unsigned w x ≤ to_unsigned w y
to_unsigned_mono w x y p q = unsigneds w (cases x p) (cases y q)
