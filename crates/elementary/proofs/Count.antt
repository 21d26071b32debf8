-- A finite value as a count of its format's smallest value: the count is exact, its leading digits are the value's, and the bits and the order can be read off it.
-- Assumes nothing.
use Rattle.std.proofs.Common.{◌≡◌, ℕ, zero, suc, ◌+◌, ◌-◌, ◌*◌, ◌/◌, ◌^◌, ◌<◌, ◌≤◌, Bool, true, false, not, T, ltb, ℤ, pos, negsuc, sym, refl, ap, ◌∙◌, subst, le_trans, le_of_eq, lt_of_lt_of_le, le_of_suc-le-suc, mul-le-mul_right, zero-lt-suc, mul_assoc, mul_comm, div-lt_iff_lt-mul, le_antisymm, mul-lt-mul_of_pos_right, mul-pos, lt_of_not-le, le-div_iff_mul-le, mul-one, sub-add_cancel, mul_right_comm, not-le_of_lt, div-one, mul-div_cancel, arith, ltb→lt, nltb→le, pow_pos, pow_mono, pow-add, shl_lt, le-ltb, lt-ltb}
use native.Mathlib.Nat.{mul-div-mul_right, pow-succ'}
use lib.Pow.{pow-lt}
use lib.Ieee.{Float, nan, inf, fin, Format, binary64, emax, low, up, down, size, lt, fits, of_bits}
use lib.Ieee.Digits.{size-lt, size-le, size_reaches}
use lib.Ieee.Fits.{up_pos, down_pos}
use lib.Ieee.Exact.{HasValue}
use lib.Ieee.Nearest.{div_same}
use lib.Ieee.Positive as Positive
use Rattle.elementary.specs.Float.{count, finite, positive}
use Rattle.elementary.specs.Inner.{leading}
use Rattle.elementary.proofs.Exact.{held}

-- ---- the binary digits of a number
pub size_gt : (n a : ℕ) → 2 ^ a ≤ n → a < size n
size_gt n a h = lt_of_not-le (λ (g : size n ≤ a). not-le_of_lt (lt_of_lt_of_le (size-lt n) (pow_mono g)) h)

pub size_is : (a n : ℕ) → 2 ^ a ≤ n → n < 2 ^ suc a → size n ≡ suc a
size_is a n lo hi = le_antisymm (size-le n (suc a) hi) (size_gt n a lo)

pub size_pos : (n : ℕ) → 0 < n → 0 < size n
size_pos n h = size_gt n 0 h

pred_lt : (z : ℕ) → 0 < z → z - 1 < z
pred_lt z h = omega arith

suc_pred : (z : ℕ) → 0 < z → suc (z - 1) ≡ z
suc_pred z h = omega arith

pub size_lead : (n : ℕ) → 0 < n → 2 ^ (size n - 1) ≤ n
size_lead n h = size_reaches n (size n - 1) (pred_lt (size n) (size_pos n h))

-- half of 2 ^ z
pub twice_pred : (z : ℕ) → 0 < z → 2 ^ z ≡ 2 * 2 ^ (z - 1)
twice_pred z h = ap (λ (y : ℕ). 2 ^ y) (sym (suc_pred z h)) ∙ pow-succ' 2 (z - 1)

pub size_shift : (n t : ℕ) → 0 < n → size (n * 2 ^ t) ≡ size n + t
size_shift n t h =
    let z = size n in
    size_is (z - 1 + t) (n * 2 ^ t)
    (le_trans (le_of_eq (pow-add 2 (z - 1) t)) (mul-le-mul_right (2 ^ t) (size_lead n h)))
    (lt_of_lt_of_le (shl_lt z t (size-lt n)) (pow_mono (grow z t (size_pos n h))))
    ∙ join z t (size_pos n h)
  where
    grow : (z t : ℕ) → 0 < z → z + t ≤ suc (z - 1 + t)
    grow z t p = omega arith

    join : (z t : ℕ) → 0 < z → suc (z - 1 + t) ≡ z + t
    join z t p = omega arith

-- ---- the 53 leading digits
pub leading_low : (n : ℕ) → 0 < n → 2 ^ 52 ≤ leading n
leading_low n h =
    let lead : 2 ^ (size n - 1) ≤ n = size_lead n h in
    let half : 2 ^ size n ≡ 2 * 2 ^ (size n - 1) = twice_pred (size n) (size_pos n h) in
    (le-div_iff_mul-le (pow_pos (size n))).1 (omega arith)

pub leading_high : (n : ℕ) → leading n < 2 ^ 53
leading_high n = (div-lt_iff_lt-mul (pow_pos (size n))).1 (subst (λ (x : ℕ). n * 2 ^ 53 < x) (mul_comm (2 ^ size n) (2 ^ 53)) (mul-lt-mul_of_pos_right (size-lt n) (pow_pos 53)))

pub leading_shift : (n t : ℕ) → 0 < n → leading (n * 2 ^ t) ≡ leading n
leading_shift n t h =
    ap (λ (z : ℕ). n * 2 ^ t * 2 ^ 53 / 2 ^ z) (size_shift n t h)
    ∙ ap (λ (x : ℕ). x / 2 ^ (size n + t)) (mul_right_comm n (2 ^ t) (2 ^ 53))
    ∙ ap (λ (x : ℕ). n * 2 ^ 53 * 2 ^ t / x) (pow-add 2 (size n) t)
    ∙ mul-div-mul_right (n * 2 ^ 53) (2 ^ size n) (pow_pos t)

-- of a number with more digits the rest are cut off
pub leading_cut : (n : ℕ) → 53 ≤ size n → n / 2 ^ (size n - 53) ≡ leading n
leading_cut n h =
    let k = size n - 53 in
    sym
    (ap (λ (z : ℕ). n * 2 ^ 53 / 2 ^ z) (sym (sub-add_cancel h))
    ∙ ap (λ (x : ℕ). n * 2 ^ 53 / x) (pow-add 2 k 53)
    ∙ mul-div-mul_right n (2 ^ k) (pow_pos 53))

-- a number of at most 53 digits and zeros after them loses nothing
pub leading_exact : (m j : ℕ) → m < 2 ^ 53 → leading (m * 2 ^ j) * 2 ^ size (m * 2 ^ j) ≡ m * 2 ^ j * 2 ^ 53
leading_exact m j h =
    let n = m * 2 ^ j in
    let z = size n in
    let z-le : z ≤ 53 + j = size-le n (53 + j) (shl_lt 53 j h) in
    let e : n * 2 ^ 53 ≡ m * 2 ^ (53 + j - z) * 2 ^ z =
    mul_assoc m (2 ^ j) (2 ^ 53)
    ∙ ap (λ (x : ℕ). m * x) (mul_comm (2 ^ j) (2 ^ 53) ∙ sym (pow-add 2 53 j) ∙ ap (λ (x : ℕ). 2 ^ x) (sym (sub-add_cancel z-le)) ∙ pow-add 2 (53 + j - z) z)
    ∙ sym (mul_assoc m (2 ^ (53 + j - z)) (2 ^ z)) in
    ap (λ (x : ℕ). x / 2 ^ z * 2 ^ z) e ∙ ap (λ (x : ℕ). x * 2 ^ z) (mul-div_cancel (m * 2 ^ (53 + j - z)) (pow_pos z)) ∙ sym e

-- ---- the count is m with some zeros after it, and exact
pow_le_back : (a l : ℕ) → 2 ^ a ≤ 2 ^ l → a ≤ l
pow_le_back a l h = le_of_suc-le-suc (lt_of_not-le (λ (g : suc l ≤ a). not-le_of_lt (pow-lt g) h))

pub count_places : (f : Format) (s : Bool) (m : ℕ) (e : ℤ) → T (fits f (fin s m e)) → (j : ℕ) × (count f (fin s m e) ≡ m * 2 ^ j)
unfolding count
count_places f s m (pos a) t = (a + low f, div-one (m * 2 ^ a * 2 ^ low f) ∙ mul_assoc m (2 ^ a) (2 ^ low f) ∙ ap (λ (x : ℕ). m * x) (sym (pow-add 2 a (low f))))
count_places f s m (negsuc a) t =
    let l = low f in
    let le : suc a ≤ l = pow_le_back (suc a) l (held f s m (negsuc a) t).least in (
      l - suc a,
      ap (λ (x : ℕ). x * 2 ^ l / 2 ^ suc a) (mul-one m)
          ∙ ap (λ (x : ℕ). m * x / 2 ^ suc a) (ap (λ (x : ℕ). 2 ^ x) (sym (sub-add_cancel le)) ∙ pow-add 2 (l - suc a) (suc a))
          ∙ ap (λ (x : ℕ). x / 2 ^ suc a) (sym (mul_assoc m (2 ^ (l - suc a)) (2 ^ suc a)))
          ∙ mul-div_cancel (m * 2 ^ (l - suc a)) (pow_pos (suc a)),
    )

pub count_value : (f : Format) (s : Bool) (m : ℕ) (e : ℤ) → T (fits f (fin s m e)) → HasValue (fin s m e) s (count f (fin s m e)) (2 ^ low f)
unfolding count
count_value f s m (pos a) t = (refl, sym (mul-one (m * 2 ^ a * 2 ^ low f / 1) ∙ div-one (m * 2 ^ a * 2 ^ low f)))
count_value f s m (negsuc a) t =
    let l = low f in
    let le : suc a ≤ l = pow_le_back (suc a) l (held f s m (negsuc a) t).least in
    let e : m * 1 * 2 ^ l ≡ m * 1 * 2 ^ (l - suc a) * 2 ^ suc a =
    ap (λ (x : ℕ). m * 1 * x) (ap (λ (x : ℕ). 2 ^ x) (sym (sub-add_cancel le)) ∙ pow-add 2 (l - suc a) (suc a)) ∙ sym (mul_assoc (m * 1) (2 ^ (l - suc a)) (2 ^ suc a)) in
    (refl, e ∙ sym (ap (λ (x : ℕ). x / 2 ^ suc a * 2 ^ suc a) e ∙ ap (λ (x : ℕ). x * 2 ^ suc a) (mul-div_cancel (m * 1 * 2 ^ (l - suc a)) (pow_pos (suc a)))))

-- any fraction a / c that x equals gives its count
pub count_of_lem : (f : Format) (x : Float) (s : Bool) (a c : ℕ) → 0 < c → HasValue x s a c → count f x ≡ a * 2 ^ low f / c
unfolding count
count_of_lem f nan s a c h v = absurd v
count_of_lem f (inf t) s a c h v = absurd v
count_of_lem f (fin t m e) s a c h v =
    div_same (m * up e * 2 ^ low f) (down e) (a * 2 ^ low f) c (down_pos e) h
    (mul_right_comm (m * up e) (2 ^ low f) c ∙ ap (λ (x : ℕ). x * 2 ^ low f) v.1 ∙ mul_right_comm a (down e) (2 ^ low f))

pub count_top : (f : Format) (x : Float) → T (fits f x) → count f x < 2 ^ (suc (emax f) + low f)
unfolding count
count_top f nan t = pow_pos (suc (emax f) + low f)
count_top f (inf s) t = pow_pos (suc (emax f) + low f)
count_top f (fin s m e) t =
    (div-lt_iff_lt-mul (down_pos e)).1
    (subst (λ (x : ℕ). m * up e * 2 ^ low f < x) (mul_right_comm (2 ^ suc (emax f)) (down e) (2 ^ low f) ∙ ap (λ (x : ℕ). x * down e) (sym (pow-add 2 (suc (emax f)) (low f))))
    (mul-lt-mul_of_pos_right (held f s m e t).most (pow_pos (low f))))

-- the leading digits of a float's count are all that it has
pub count_exact : (x : Float) → T (fits binary64 x) → leading (count binary64 x) * 2 ^ size (count binary64 x) ≡ count binary64 x * 2 ^ 53
unfolding count
count_exact nan t = leading_exact 0 0 (pow_pos 53)
count_exact (inf s) t = leading_exact 0 0 (pow_pos 53)
count_exact (fin s m e) t =
    let p = count_places binary64 s m e t in
    subst (λ (n : ℕ). leading n * 2 ^ size n ≡ n * 2 ^ 53) (sym p.1) (leading_exact m p.0 (held binary64 s m e t).digits)

-- ---- finite and above zero, as the library has it
zero_left : (u d : ℕ) → ltb (0 * 1 * d) (0 * u * 1) ≡ false
zero_left u d = le-ltb (0 * 1 * d) (0 * u * 1) (omega arith)

pub positive_is : (x : Float) → positive x ≡ Positive.positive x
unfolding positive finite lt of_bits
positive_is nan = refl
positive_is (inf s) = refl
positive_is (fin true m e) = refl
positive_is (fin false zero e) = zero_left (up e) (down e)
positive_is (fin false (suc m) e) = lt-ltb (0 * 1 * down e) (suc m * up e * 1) (omega (arith, mul-pos (zero-lt-suc m) (up_pos e))) ∙ sym (lt-ltb 0 (suc m) (zero-lt-suc m))

-- ---- the order of two values that are not negative is that of their counts
ltb_scale : (a b c : ℕ) → 0 < c → ltb (a * c) (b * c) ≡ ltb a b
ltb_scale a b c h = go (ltb a b) (ltb→lt a b) (nltb→le a b)
  where
    go : (t : Bool) → (T t → a < b) → (T (not t) → b ≤ a) → ltb (a * c) (b * c) ≡ t
    go true l g = lt-ltb (a * c) (b * c) (mul-lt-mul_of_pos_right (l tt) h)
    go false l g = le-ltb (a * c) (b * c) (mul-le-mul_right c (g tt))

pub lt_count : (f : Format) (m : ℕ) (e : ℤ) (n : ℕ) (d : ℤ) → T (fits f (fin false m e)) → T (fits f (fin false n d)) → lt (fin false m e) (fin false n d) ≡ ltb (count f (fin false m e)) (count f (fin false n d))
unfolding lt
lt_count f m e n d p q =
    let l = 2 ^ low f in
    let a = count f (fin false m e) in
    let b = count f (fin false n d) in
    let x : m * up e * down d * l ≡ a * (down e * down d) = mul_right_comm (m * up e) (down d) l ∙ ap (λ (z : ℕ). z * down d) (count_value f false m e p).1 ∙ mul_assoc a (down e) (down d) in
    let y : n * up d * down e * l ≡ b * (down e * down d) = mul_right_comm (n * up d) (down e) l ∙ ap (λ (z : ℕ). z * down e) (count_value f false n d q).1 ∙ mul_assoc b (down d) (down e) ∙ ap (λ (z : ℕ). b * z) (mul_comm (down d) (down e)) in
    sym (ltb_scale (m * up e * down d) (n * up d * down e) l (pow_pos (low f)))
    ∙ ap (λ (z : ℕ). ltb z (n * up d * down e * l)) x
    ∙ ap (λ (z : ℕ). ltb (a * (down e * down d)) z) y
    ∙ ltb_scale a b (down e * down d) (mul-pos (down_pos e) (down_pos d))
