-- The whole part of a square root: `isqrt` gives it, no other number is it, and the loop over pairs of digits finds it. Assumes nothing.
use Rattle.std.proofs.Common.{◌≡◌, ℕ, zero, suc, ◌+◌, ◌*◌, ◌/◌, ◌%◌, ◌^◌, ◌<◌, ◌≤◌, Bool, true, false, cond, not, T, leb, sym, ap, ◌∙◌, subst, le_trans, le_of_eq, lt_of_lt_of_le, le_of_suc-le-suc, zero-lt-suc, mul_assoc, div-lt_iff_lt-mul, mul-le-mul, le_antisymm, mul-pos, pow-suc, lt_of_not-le, le-div_iff_mul-le, not-le_of_lt, div-mul-le_self, add-one, arith, leb→le, pow_mono}
use native.Mathlib.Nat.{mul-mul-mul_comm, lt-div-mul-add}
use lib.Dec.{nleb→lt}
use Rattle.elementary.specs.Elementary.{isqrt}
use Rattle.elementary.specs.Inner.{RootOf}

-- ---- r is the whole part of n's root
abbrev pub Whole : ℕ → ℕ → Type 0
Whole n r = (r * r ≤ n) × (n < (r + 1) * (r + 1))

pub isqrt_whole : (k n : ℕ) → n < 4 ^ k → Whole n (isqrt k n)
unfolding isqrt
isqrt_whole zero n h = omega arith
isqrt_whole (suc k) n h =
    go (isqrt k (n / 4)) (isqrt_whole k (n / 4) ((div-lt_iff_lt-mul (zero-lt-suc 3)).1 (subst (λ (x : ℕ). n < x) (pow-suc 4 k) h)))
  where
    go : (s : ℕ) → Whole (n / 4) s → Whole n (cond (leb ((2 * s + 1) * (2 * s + 1)) n) (2 * s + 1) (2 * s))
    go s w = pick (leb ((2 * s + 1) * (2 * s + 1)) n) (leb→le ((2 * s + 1) * (2 * s + 1)) n) (nleb→lt ((2 * s + 1) * (2 * s + 1)) n)
      where
        pick : (b : Bool) → (T b → (2 * s + 1) * (2 * s + 1) ≤ n) → (T (not b) → n < (2 * s + 1) * (2 * s + 1)) → Whole n (cond b (2 * s + 1) (2 * s))
        pick true l g = (l tt, omega arith)
        pick false l g = (omega arith, g tt)

pub root_of_whole : (n r rest : ℕ) → RootOf n r rest → Whole n r
root_of_whole n r rest w = omega arith

-- ---- no other number is
pub root_lt : (n r t : ℕ) → r * r ≤ n → n < t * t → r < t
root_lt n r t a b = lt_of_not-le (λ (h : t ≤ r). not-le_of_lt b (le_trans (mul-le-mul h h) a))

pub root_le : (n r t : ℕ) → r * r ≤ n → n < (t + 1) * (t + 1) → r ≤ t
root_le n r t a b = let h : r < t + 1 = root_lt n r (t + 1) a b in omega arith

pub whole_unique : (n r t : ℕ) → Whole n r → Whole n t → r ≡ t
whole_unique n r t a b = le_antisymm (root_le n r t a.0 b.1) (root_le n t r b.0 a.1)

-- ---- with p * p divided out of the number, p is divided out of its root
pub whole_scale : (w r p : ℕ) → 0 < p → Whole w r → Whole (w / (p * p)) (r / p)
whole_scale w r p h a =
    let t = r / p in
    let sq : (x : ℕ) → x * p * (x * p) ≡ x * x * (p * p) = λ x. mul-mul-mul_comm x p x p in
    let lo : t * p ≤ r = div-mul-le_self r p in
    let hi : r + 1 ≤ (t + 1) * p = above r p t (lt-div-mul-add h) in (
      (le-div_iff_mul-le (mul-pos h h)).1 (le_trans (le_of_eq (sym (sq t))) (le_trans (mul-le-mul lo lo) a.0)),
      (div-lt_iff_lt-mul (mul-pos h h)).1 (lt_of_lt_of_le a.1 (le_trans (mul-le-mul hi hi) (le_of_eq (sq (t + 1))))),
    )
  where
    above : (r p t : ℕ) → r < t * p + p → r + 1 ≤ (t + 1) * p
    above r p t h = omega arith

-- ---- The loop, after i pairs of m's 54 digits and then zeros: the root of the digits read, what its square leaves of them, and the digits left, moved up
pub record Reading (m root rest left i : ℕ) : Type 0 where
  pub read : m * 4 ^ i ≡ (root * root + rest) * 2 ^ 54 + left
  pub short : rest ≤ 2 * root
  pub small : left < 2 ^ 54
  pub digits : root < 2 ^ i
  pub most : i ≤ 54

pub reading_starts : (m : ℕ) → m < 2 ^ 54 → Reading m 0 0 m 0
reading_starts m h = omega arith

pub reading_room : {m root rest left i : ℕ} → Reading m root rest left i → i < 54 → (root < 2 ^ 53) × (rest ≤ 2 * root) × (left / 2 ^ 52 < 4)
reading_room r h = (lt_of_lt_of_le r.digits (pow_mono (le_of_suc-le-suc h)), r.short, omega arith)

pub reading_goes_on : {m root rest left i root' rest' : ℕ} → Reading m root rest left i → i < 54 → RootOf (4 * (root * root + rest) + left / 2 ^ 52) root' rest' → root' ≤ 2 * root + 1
    → Reading m root' rest' (left % 2 ^ 52 * 4) (i + 1)
reading_goes_on {m} {i = i} r h next up =
    let p : 4 ^ (i + 1) ≡ 4 ^ i * 4 = ap (λ (x : ℕ). 4 ^ x) (add-one i) ∙ pow-suc 4 i in
    let q : m * 4 ^ (i + 1) ≡ m * 4 ^ i * 4 = ap (λ (x : ℕ). m * x) p ∙ sym (mul_assoc m (4 ^ i) 4) in
    let d : 2 ^ (i + 1) ≡ 2 ^ i * 2 = ap (λ (x : ℕ). 2 ^ x) (add-one i) ∙ pow-suc 2 i in
    record { read = omega arith; short = next.short; small = omega arith; digits = omega arith; most = omega arith }

pub reading_ends : {m root rest left i : ℕ} → Reading m root rest left i → 54 ≤ i → RootOf (m * 2 ^ 54) root rest
reading_ends {m} {root} {rest} {left} {i} r h =
    let e : i ≡ 54 = omega arith in
    let all : m * 4 ^ 54 ≡ (root * root + rest) * 2 ^ 54 + left = subst (λ (x : ℕ). m * 4 ^ x ≡ (root * root + rest) * 2 ^ 54 + left) e r.read in
    record { square = omega arith; short = r.short }
