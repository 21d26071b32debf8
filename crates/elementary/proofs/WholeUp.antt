-- Rounding up to a whole number: the laws of `ceil_of`, and what the code that cuts off a fraction computes. Assumes nothing.
use Rattle.std.proofs.Common.{◌≡◌, ℕ, zero, suc, ◌+◌, ◌-◌, ◌*◌, ◌/◌, ◌^◌, ◌<◌, ◌≤◌, Bool, true, false, T, ℤ, pos, negsuc, sym, refl, ap, ◌∙◌, subst, true≢false, suc-le-suc, zero-le, mul-le-mul_right, zero-lt-suc, mul_comm, div-lt_iff_lt-mul, mul-lt-mul_of_pos_right, mul-pos, mul-one, le-mul_of_pos_right, div-mul-le_self, arith, lit<, ltb→lt, lt→ltb, pow_mono, ltb-false, ltb-true}
use native.Mathlib.Nat.{lt-div-mul-add, div-eq_of_lt-le}
use lib.Ieee.{Float, nan, inf, fin, binary64, up, down, round, neg, below, lt, of_int, of_bits, to_unsigned, fits}
use lib.Ieee.Fits.{up_pos, down_pos}
use lib.Ieee.Exact.{HasValue}
use lib.Ieee.Back.{round_whole}
use Rattle.elementary.specs.Float.{finite, hex, 0ᶠ}
use Rattle.elementary.specs.Elementary.{ceil_of}
use Rattle.elementary.specs.WholeUp.{Next, next, CeilLeast, CeilWhole, CeilLarge}
use Rattle.elementary.proofs.Signs.{round_neg}
use Rattle.elementary.proofs.Exact.{round_value, held, ltb_same, whole_value}

-- ---- `next` is the k with `Next s a d k`, the only one, and that of every equal fraction
pub next_holds : (s : Bool) (a d : ℕ) → 0 < d → Next s a d (next s a d)
next_holds true a d h = (div-mul-le_self a d, lt-div-mul-add h)
next_holds false a d h = let b = a + (d - 1) in (omega (arith, lt-div-mul-add {a = b} h), omega (arith, div-mul-le_self b d))

pub next_only : (s : Bool) (a d k : ℕ) → 0 < d → Next s a d k → next s a d ≡ k
next_only true a d k h n = div-eq_of_lt-le d n.0 (omega arith)
next_only false a d k h n = div-eq_of_lt-le d (omega arith) (omega arith)

next_times : (s : Bool) (a d x : ℕ) → 0 < d → 0 < x → next s (a * x) (d * x) ≡ next s a d
next_times s a d x h p = next_only s (a * x) (d * x) (next s a d) (mul-pos h p) (go s (next s a d) (next_holds s a d h))
  where
    go : (s : Bool) (k : ℕ) → Next s a d k → Next s (a * x) (d * x) k
    go true k n = (omega (arith, mul-le-mul_right x n.0), omega (arith, mul-lt-mul_of_pos_right n.1 p))
    go false k n = (omega (arith, mul-le-mul_right x n.0), omega (arith, mul-lt-mul_of_pos_right n.1 p))

pub next_same : (s : Bool) (a b c d : ℕ) → 0 < b → 0 < d → a * d ≡ c * b → next s a b ≡ next s c d
next_same s a b c d B D h = sym (next_times s a b d B D) ∙ (λ i. next s (h i) (mul_comm b d i)) ∙ next_times s c d b D B

-- it is at most a, and `ceil_of` rounds it
next_le : (s : Bool) (a d k : ℕ) → 0 < d → Next s a d k → k ≤ a
next_le true a d k h n = omega (arith, le-mul_of_pos_right k h)
next_le false a d zero h n = omega arith
next_le false a d (suc k) h n = omega (arith, le-mul_of_pos_right k h)

ceil_is : (s : Bool) (m : ℕ) (e : ℤ) (k : ℕ) → Next s (m * up e) (down e) k → ceil_of (fin s m e) ≡ round binary64 s k 1
unfolding ceil_of
ceil_is true m e k n = ap (λ (j : ℕ). round binary64 true j 1) (next_only true (m * up e) (down e) k (down_pos e) n)
ceil_is false m e k n = ap (λ (j : ℕ). round binary64 false j 1) (next_only false (m * up e) (down e) k (down_pos e) n)

next_self : (s : Bool) (a d k : ℕ) → 0 < d → a ≡ k * d → Next s a d k
next_self true a d k p h = (omega arith, omega arith)
next_self false a d k p h = (omega arith, omega arith)

pub ceil_whole : CeilWhole
ceil_whole s m e k t h = ceil_is s m e k (next_self s (m * up e) (down e) k (down_pos e) h) ∙ round_value binary64 (fin s m e) s k 1 (zero-lt-suc 0) t (refl, mul-one (m * up e) ∙ h)

pub ceil_large : CeilLarge
ceil_large s m (pos j) t h = ceil_whole s m (pos j) (m * up (pos j)) t (sym (mul-one (m * up (pos j))))
ceil_large s m (negsuc j) t h = absurd (omega (arith, (held binary64 s m (negsuc j) t).digits, pow_mono {i = 1} {j = suc j} (suc-le-suc zero-le)))

pub ceil_least : CeilLeast
ceil_least s m (pos j) t =
    let a = m * 2 ^ j in
    let h : a ≡ a * 1 = sym (mul-one a) in
    (a, (subst (λ (x : Float). HasValue x s a 1) (sym (ceil_whole s m (pos j) a t h)) (refl, refl), next_self s a 1 a (zero-lt-suc 0) h))
ceil_least s m (negsuc j) t =
    let k = next s (m * 1) (2 ^ suc j) in
    let n = next_holds s (m * 1) (2 ^ suc j) (down_pos (negsuc j)) in
    let small : k ≤ 2 ^ 53 = omega (arith, next_le s (m * 1) (2 ^ suc j) k (down_pos (negsuc j)) n, (held binary64 s m (negsuc j) t).digits) in
    (k, (subst (λ (x : Float). HasValue x s k 1) (sym (ceil_is s m (negsuc j) k n)) (round_whole binary64 s k small), n))

-- ---- what is left of a number below 2 ^ 52 when its fraction is cut off
cut_lt : (m : ℕ) (e : ℤ) → m * up e < 2 ^ 52 * down e → m * up e / down e < 2 ^ 52
cut_lt m e h = (div-lt_iff_lt-mul (down_pos e)).1 h

cut_is : (m : ℕ) (e : ℤ) → m * up e < 2 ^ 52 * down e → to_unsigned 64 (fin false m e) ≡ m * up e / down e
unfolding to_unsigned
cut_is m e h = omega (arith, cut_lt m e h)

-- ---- the order of a whole number n and a float
lt_whole : (y : Float) (n : ℕ) (s : Bool) (m : ℕ) (e : ℤ) → HasValue y false n 1 → lt y (fin s m e) ≡ below false (n * down e) s (m * up e)
unfolding lt
lt_whole nan n s m e v = absurd v
lt_whole (inf t) n s m e v = absurd v
lt_whole (fin true p d) n s m e v = absurd (true≢false v.0)
lt_whole (fin false p d) n true m e v = refl
lt_whole (fin false p d) n false m e v =
    ltb_same (p * up d * down e) (m * up e * down d) (down d) (n * down e) (m * up e) 1 (down_pos d) (zero-lt-suc 0)
    (omega (arith, ap (λ (z : ℕ). z * down e) v.1))
    (mul-one (m * up e * down d))

-- ---- -0, or from +0 up to 2 ^ 52
pub data Small : Float → Type 0 where
  minus_zero_lem : (e : ℤ) → Small (fin true 0 e)
  plus : (m : ℕ) (e : ℤ) → m * up e < 2 ^ 52 * down e → Small (fin false m e)

pub small : (x : Float) → lt x 0ᶠ ≡ false → T (lt x (hex 0x4330000000000000)) → Small x
unfolding lt of_bits
small nan h l = absurd l
small (inf true) h l = absurd (true≢false h)
small (inf false) h l = absurd l
small (fin true zero e) h l = minus_zero_lem e
small (fin true (suc m) e) h l = absurd (omega (arith, ltb-false 0 (suc m * up e * 1 + 0 * 1 * down e) h, mul-pos (zero-lt-suc m) (up_pos e)))
small (fin false m e) h l = plus m e (omega (arith, ltb→lt (m * up e * 1) (1 * 2 ^ 52 * down e) l))

-- the cast to a u64 is defined there, and leaves room for one more
pub small_cast : {x : Float} → Small x → T (lt (fin true 1 (pos 0)) x) × T (lt x (fin false 1 (pos 64)))
unfolding lt
small_cast (minus_zero_lem e) = (lt→ltb (0 * up e * 1) (1 * 1 * down e) (omega (arith, down_pos e)), lt→ltb 0 (0 * up e * 1 + 1 * 2 ^ 64 * down e) (omega (arith, down_pos e)))
small_cast (plus m e h) = (lt→ltb 0 (1 * 1 * down e + m * up e * 1) (omega (arith, down_pos e)), lt→ltb (m * up e * 1) (1 * 2 ^ 64 * down e) (omega arith))

pub small_cut : {x : Float} → Small x → to_unsigned 64 x < 2 ^ 52
unfolding to_unsigned
small_cut (minus_zero_lem e) = lit< tt
small_cut (plus m e h) = omega (arith, cut_lt m e h)

cut_below : (s : Bool) (m : ℕ) (e : ℤ) (n : ℕ) → Small (fin s m e) → n ≡ to_unsigned 64 (fin s m e) → lt (of_int binary64 (pos n)) (fin s m e) ≡ below false (n * down e) s (m * up e)
cut_below s m e n b h = lt_whole (of_int binary64 (pos n)) n s m e (whole_value binary64 (pos n) (omega (arith, small_cut b)))

-- where the cut is below x, x goes to the next whole number
pub small_next : {x : Float} {n : ℕ} → Small x → n ≡ to_unsigned 64 x → lt (of_int binary64 (pos n)) x ≡ true → of_int binary64 (pos (n + 1)) ≡ ceil_of x
unfolding of_int
small_next {n = n} (minus_zero_lem e) h l = absurd (true≢false (sym l ∙ cut_below true 0 e n (minus_zero_lem e) h))
small_next {n = n} (plus m e b) h l =
    let a = m * up e in
    let d = down e in
    let some : n * d < a = ltb-true (n * d) a (sym (cut_below false m e n (plus m e b) h) ∙ l) in
    let most : a < n * d + d = rw (h ∙ cut_is m e b) (lt-div-mul-add (down_pos e)) in
    sym (ceil_is false m e (n + 1) (omega arith, omega arith))

-- where it is not, x is a whole number
pub small_whole : {x : Float} {n : ℕ} → T (fits binary64 x) → Small x → n ≡ to_unsigned 64 x → lt (of_int binary64 (pos n)) x ≡ false → x ≡ ceil_of x
small_whole {n = n} t (minus_zero_lem e) h l = sym (ceil_whole true 0 e 0 t (omega arith))
small_whole {n = n} t (plus m e b) h l =
    let a = m * up e in
    let d = down e in
    let none : a ≤ n * d = ltb-false (n * d) a (sym (cut_below false m e n (plus m e b) h) ∙ l) in
    let least : n * d ≤ a = rw (h ∙ cut_is m e b) (div-mul-le_self a d) in
    sym (ceil_whole false m e n t (omega arith))

-- ---- below zero and above -2 ^ 52: the fraction is cut off, and the sign put back
pub data Negative : Float → Type 0 where
  minus : (m : ℕ) (e : ℤ) → m * up e < 2 ^ 52 * down e → Negative (fin true m e)

pub negative : (x : Float) → lt x 0ᶠ ≡ true → T (lt (neg (hex 0x4330000000000000)) x) → Negative x
unfolding lt neg of_bits
negative nan h l = absurd l
negative (inf true) h l = absurd l
negative (inf false) h l = absurd (true≢false (sym h))
negative (fin true m e) h l = minus m e (omega (arith, ltb→lt (m * up e * 1) (1 * 2 ^ 52 * down e) l))
negative (fin false m e) h l = absurd (omega (arith, ltb-true (m * up e * 1) (0 * 1 * down e) h))

pub negative_small : {x : Float} → Negative x → Small (neg x)
unfolding neg
negative_small (minus m e b) = plus m e b

pub negative_cut : {x : Float} {n : ℕ} → Negative x → n ≡ to_unsigned 64 (neg x) → neg (of_int binary64 (pos n)) ≡ ceil_of x
unfolding neg of_int ceil_of
negative_cut {n = n} (minus m e b) h = sym (round_neg binary64 false n 1) ∙ ap (λ (k : ℕ). round binary64 true k 1) (h ∙ cut_is m e b)

-- ---- from 2 ^ 52 up, on either side
pub large : (x : Float) → T (finite x) → T (fits binary64 x) → lt x (hex 0x4330000000000000) ≡ false → x ≡ ceil_of x
unfolding finite lt of_bits
large nan i t h = absurd i
large (inf s) i t h = absurd i
large (fin true m e) i t h = absurd (omega (arith, ltb-false 0 (m * up e * 1 + 1 * 2 ^ 52 * down e) h, down_pos e))
large (fin false m e) i t h = sym (ceil_large false m e t (omega (arith, ltb-false (m * up e * 1) (1 * 2 ^ 52 * down e) h)))

pub large_neg : (x : Float) → T (finite x) → T (fits binary64 x) → lt (neg (hex 0x4330000000000000)) x ≡ false → x ≡ ceil_of x
unfolding finite lt neg of_bits
large_neg nan i t h = absurd i
large_neg (inf s) i t h = absurd i
large_neg (fin true m e) i t h = sym (ceil_large true m e t (omega (arith, ltb-false (m * up e * 1) (1 * 2 ^ 52 * down e) h)))
large_neg (fin false m e) i t h = absurd (omega (arith, ltb-false 0 (1 * 2 ^ 52 * down e + m * up e * 1) h, down_pos e))
