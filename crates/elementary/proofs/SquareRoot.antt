-- The square root of document 01 by its digits: those of the whole root of a number of 107 or 108 digits, halved, and the bits that the code makes of them. Assumes nothing.
use Rattle.std.proofs.Common.{◌≡◌, ℕ, zero, suc, ◌+◌, ◌-◌, ◌*◌, ◌/◌, ◌%◌, ◌^◌, ◌<◌, ◌≤◌, false, not, T, sym, refl, ap, ◌∙◌, subst, ap₂, le_trans, le_of_eq, lt_of_lt_of_le, add-suc, mod-lt, zero-lt-suc, mul_assoc, div-lt_iff_lt-mul, suc-add, mul-le-mul_left, mul-lt-mul_of_pos_right, mul-pos, div-add-mod', le-div_iff_mul-le, mul_right_comm, mul-div_cancel, arith, eqb→eq, leb→le, pow_pos, pow_mono, pow-add}
use Prim.Native.Nat.{compare, Ordering}
use native.Mathlib.Nat.{eq_of_mul-eq-mul_right, mul-div-mul_right, add-sub_cancel_left, pow-succ'}
use lib.Dec.{is_le, compare_is_eq, nleb→lt}
use lib.Arith.{digits_div, digits_mod}
use lib.Ieee.{Format, binary64, prec, low, size, nearest, units, round, of_bits, nan_bits}
use lib.Ieee.Fits.{round_is}
use lib.Ieee.Nearest.{closest, closest_same}
use Rattle.elementary.specs.Elementary.{isqrt, sqrt_of}
use Rattle.elementary.specs.Inner.{SplitOf, RootOf, leading}
use Rattle.elementary.proofs.Count.{size_is}
use Rattle.elementary.proofs.Bits.{units_small, bits_of, bits_no_nan}
use Rattle.elementary.proofs.WholeRoot.{Whole, isqrt_whole, root_of_whole, whole_unique, whole_scale, root_lt, root_le}

-- ---- r and a half, to the nearest multiple of 2 p: half of r / p, an odd one going up
nearest_down : (q x y : ℕ) → x < y → nearest q (compare x y) ≡ q
nearest_down q x y h = go (compare x y) (nleb→lt x y) (eqb→eq x y)
  where
    go : (o : Ordering) → (T (not (is_le o)) → y < x) → (T (compare_is_eq o) → x ≡ y) → nearest q o ≡ q
    go Ordering.lt g e = refl
    go Ordering.eq g e = let z : x ≡ y = e tt in absurd (omega arith)
    go Ordering.gt g e = let z : y < x = g tt in absurd (omega arith)

nearest_up : (q x y : ℕ) → y < x → nearest q (compare x y) ≡ suc q
nearest_up q x y h = go (compare x y) (leb→le x y) (eqb→eq x y)
  where
    go : (o : Ordering) → (T (is_le o) → x ≤ y) → (T (compare_is_eq o) → x ≡ y) → nearest q o ≡ suc q
    go Ordering.lt g e = let z : x ≤ y = g tt in absurd (omega arith)
    go Ordering.eq g e = let z : x ≡ y = e tt in absurd (omega arith)
    go Ordering.gt g e = refl

closest_at : (q t u : ℕ) → t < u → closest (q * u + t) u ≡ nearest q (compare (t * 2) u)
closest_at q t u h = ap₂ (λ (x y : ℕ). nearest x (compare (y * 2) u)) (digits_div q h) (digits_mod q h)

closest_half : (r p : ℕ) → 0 < p → closest (2 * r + 1) (4 * p) ≡ (r / p + 1) / 2
closest_half r p h = go (r / p) (r % p) (mod-lt r h) (div-add-mod' r p)
  where
    even : (R s k : ℕ) → s < p → R * p + s ≡ r → R ≡ k * 2 → closest (2 * r + 1) (4 * p) ≡ (R + 1) / 2
    even R s k l e f =
        let g : R * p ≡ k * 2 * p = ap (λ (x : ℕ). x * p) f in
        let d : 2 * r + 1 ≡ k * (4 * p) + (2 * s + 1) = omega arith in
        ap (λ (x : ℕ). closest x (4 * p)) d ∙ closest_at k (2 * s + 1) (4 * p) (omega arith) ∙ nearest_down k ((2 * s + 1) * 2) (4 * p) (omega arith) ∙ omega arith

    odd : (R s k : ℕ) → s < p → R * p + s ≡ r → R ≡ k * 2 + 1 → closest (2 * r + 1) (4 * p) ≡ (R + 1) / 2
    odd R s k l e f =
        let g : R * p ≡ (k * 2 + 1) * p = ap (λ (x : ℕ). x * p) f in
        let d : 2 * r + 1 ≡ k * (4 * p) + (2 * p + (2 * s + 1)) = omega arith in
        ap (λ (x : ℕ). closest x (4 * p)) d ∙ closest_at k (2 * p + (2 * s + 1)) (4 * p) (omega arith) ∙ nearest_up k ((2 * p + (2 * s + 1)) * 2) (4 * p) (omega arith) ∙ omega arith

    go : (R s : ℕ) → s < p → R * p + s ≡ r → closest (2 * r + 1) (4 * p) ≡ (R + 1) / 2
    go R s l e = pick (R % 2) refl
      where
        pick : (b : ℕ) → R % 2 ≡ b → closest (2 * r + 1) (4 * p) ≡ (R + 1) / 2
        pick zero f = even R s (R / 2) l e (omega arith)
        pick (suc b) f = odd R s (R / 2) l e (omega arith)

doubled : (a b : ℕ) → 2 * a * (2 * b) ≡ a * (4 * b)
doubled a b = omega arith

-- ---- r and a half, rounded, for an r that has j + 1 digits more than the format keeps
round_half : (f : Format) (r j : ℕ) → size r ≡ prec f + suc j → round f false (2 * r + 1) (2 ^ suc (low f)) ≡ units f false ((r / 2 ^ j + 1) / 2) (suc j)
round_half f r j z =
    let l = low f in
    let p = 2 ^ j in
    let whole : (2 * r + 1) * 2 ^ l / 2 ^ suc l ≡ r = ap (λ (x : ℕ). (2 * r + 1) * 2 ^ l / x) (pow-succ' 2 l) ∙ mul-div-mul_right (2 * r + 1) 2 (pow_pos l) ∙ omega arith in
    let dropped : size ((2 * r + 1) * 2 ^ l / 2 ^ suc l) - prec f ≡ suc j = ap (λ (x : ℕ). size x - prec f) whole ∙ ap (λ (x : ℕ). x - prec f) z ∙ add-sub_cancel_left (prec f) (suc j) in
    let unit : 2 ^ suc l * 2 ^ suc j ≡ 2 ^ l * (4 * p) = ap₂ (λ (x y : ℕ). x * y) (pow-succ' 2 l) (pow-succ' 2 j) ∙ doubled (2 ^ l) p in
    round_is f false (2 * r + 1) (2 ^ suc l)
    ∙ ap (λ (k : ℕ). units f false (closest ((2 * r + 1) * 2 ^ l) (2 ^ suc l * 2 ^ k)) k) dropped
    ∙ ap (λ (x : ℕ). units f false x (suc j)) (closest_same ((2 * r + 1) * 2 ^ l) (2 ^ suc l * 2 ^ suc j) (2 * r + 1) (4 * p) (mul-pos (pow_pos (suc l)) (pow_pos (suc j))) (mul-pos (zero-lt-suc 3) (pow_pos j)) (mul_assoc (2 * r + 1) (2 ^ l) (4 * p) ∙ ap (λ (x : ℕ). (2 * r + 1) * x) (sym unit)) ∙ closest_half r p (pow_pos j))

-- ---- a number of 107 or 108 digits has a root of 54
pub root_range : (M R : ℕ) → 2 ^ 106 ≤ M → M < 2 ^ 108 → Whole M R → (2 ^ 53 ≤ R) × (R < 2 ^ 54)
root_range M R a b w = (root_le M (2 ^ 53) R a w.1, root_lt M R (2 ^ 54) w.0 b)

-- ---- M, between 2 ^ 106 and 2 ^ 108, is n * 2 ^ 1074 with 2 j digits, all zeros, dropped
pub record Scaled (n M j : ℕ) : Type 0 where
  pub exact : M * (2 ^ j * 2 ^ j) ≡ n * 2 ^ 1074
  pub low : 2 ^ 106 ≤ M
  pub high : M < 2 ^ 108
  pub most : j ≤ 1532

scaled_lt : (n M j : ℕ) → Scaled n M j → n * 2 ^ 1074 < 4 ^ 1600
scaled_lt n M j s =
    let p = 2 ^ j in
    let e : 2 ^ 108 * (p * p) ≡ 2 ^ (108 + (j + j)) = ap (λ (x : ℕ). 2 ^ 108 * x) (sym (pow-add 2 j j)) ∙ sym (pow-add 2 108 (j + j)) in
    subst (λ (x : ℕ). x < 4 ^ 1600) s.exact
    (lt_of_lt_of_le (mul-lt-mul_of_pos_right s.high (mul-pos (pow_pos j) (pow_pos j))) (le_trans (le_of_eq e) (pow_mono {j = 3200} (room j s.most))))
  where
    room : (j : ℕ) → j ≤ 1532 → 108 + (j + j) ≤ 3200
    room j h = omega arith

pub sqrt_of_units : (n M j R : ℕ) → Scaled n M j → Whole M R → sqrt_of n ≡ units binary64 false ((R + 1) / 2) (suc j)
unfolding sqrt_of
sqrt_of_units n M j R s w =
    let p = 2 ^ j in
    let P : 0 < p * p = mul-pos (pow_pos j) (pow_pos j) in
    let r = isqrt 1600 (n * 2 ^ 1074) in
    let M-is : n * 2 ^ 1074 / (p * p) ≡ M = ap (λ (x : ℕ). x / (p * p)) (sym s.exact) ∙ mul-div_cancel M P in
    let R-is : r / p ≡ R = whole_unique M (r / p) R (subst (λ (x : ℕ). Whole x (r / p)) M-is (whole_scale (n * 2 ^ 1074) r p (pow_pos j) (isqrt_whole 1600 (n * 2 ^ 1074) (scaled_lt n M j s)))) w in
    let b = root_range M R s.low s.high w in
    let lo : 2 ^ (53 + j) ≤ r = le_trans (le_of_eq (pow-add 2 53 j)) ((le-div_iff_mul-le (pow_pos j)).0 (subst (λ (x : ℕ). 2 ^ 53 ≤ x) (sym R-is) b.0)) in
    let hi : r < 2 ^ (54 + j) = lt_of_lt_of_le ((div-lt_iff_lt-mul (pow_pos j)).0 (subst (λ (x : ℕ). x < 2 ^ 54) (sym R-is) b.1)) (le_of_eq (sym (pow-add 2 54 j))) in
    let z : size r ≡ 53 + suc j = size_is (53 + j) r lo (subst (λ (x : ℕ). r < 2 ^ x) (suc-add 53 j) hi) ∙ sym (add-suc 53 j) in
    round_half binary64 r j z ∙ ap (λ (x : ℕ). units binary64 false ((x + 1) / 2) (suc j)) R-is

-- ---- it is the digits of n, or twice those, with 54 zeros after them
scaled_exact : (n d z e j l : ℕ) → d * 2 ^ z ≡ n * 2 ^ 53 → e + 54 + (j + j) + 53 ≡ z + l → d * 2 ^ e * 2 ^ 54 * (2 ^ j * 2 ^ j) ≡ n * 2 ^ l
scaled_exact n d z e j l h s =
    let fold : (a b : ℕ) → d * 2 ^ a * 2 ^ b ≡ d * 2 ^ (a + b) = λ a b. mul_assoc d (2 ^ a) (2 ^ b) ∙ ap (λ (x : ℕ). d * x) (sym (pow-add 2 a b)) in
    eq_of_mul-eq-mul_right (2 ^ 53) (pow_pos 53) (d * 2 ^ e * 2 ^ 54 * (2 ^ j * 2 ^ j)) (n * 2 ^ l)
    (ap (λ (x : ℕ). x * 2 ^ 53) (ap₂ (λ (x y : ℕ). x * y) (fold e 54) (sym (pow-add 2 j j)) ∙ fold (e + 54) (j + j))
    ∙ fold (e + 54 + (j + j)) 53
    ∙ ap (λ (x : ℕ). d * 2 ^ x) s
    ∙ sym (fold z l)
    ∙ ap (λ (x : ℕ). x * 2 ^ l) h
    ∙ mul_right_comm n (2 ^ 53) (2 ^ l))

one_or_two : (e : ℕ) → e < 2 → 1 + e ≡ 2 ^ e
one_or_two zero h = refl
one_or_two (suc zero) h = refl
one_or_two (suc (suc e)) h = absurd (omega arith)

-- the digits d, or twice those, and 54 zeros after them
abbrev pub radicand : ℕ → ℕ → ℕ
radicand d z = d * (1 + (z + 1) % 2) * 2 ^ 54

twice_lt : (d z : ℕ) → d < 2 ^ 53 → d * (1 + (z + 1) % 2) < 2 ^ 54
twice_lt d z h = let le : d * ((z + 1) % 2) ≤ d * 1 = mul-le-mul_left d (omega arith) in omega arith

radicand_range : (d z : ℕ) → 2 ^ 52 ≤ d → d < 2 ^ 53 → (2 ^ 106 ≤ radicand d z) × (radicand d z < 2 ^ 108)
radicand_range d z lo hi = let h : d * (1 + (z + 1) % 2) < 2 ^ 54 = twice_lt d z hi in (omega arith, omega arith)

pub scaled_of : (n d z : ℕ) → d * 2 ^ z ≡ n * 2 ^ 53 → 2 ^ 52 ≤ d → d < 2 ^ 53 → z ≤ 2098 → Scaled n (radicand d z) ((z + 967) / 2)
scaled_of n d z h lo hi top =
    let e = (z + 1) % 2 in
    let j = (z + 967) / 2 in
    let r = radicand_range d z lo hi in
    record {
      exact = ap (λ (x : ℕ). d * x * 2 ^ 54 * (2 ^ j * 2 ^ j)) (one_or_two e (mod-lt (z + 1) (zero-lt-suc 1))) ∙ scaled_exact n d z e j 1074 h (places z);
      low = r.0;
      high = r.1;
      most = omega arith;
    }
  where
    places : (z : ℕ) → (z + 1) % 2 + 54 + ((z + 967) / 2 + (z + 967) / 2) + 53 ≡ z + 1074
    places z = omega arith

-- ---- the code's root and bits
pub split_twice : {n d z : ℕ} → SplitOf n d z → d * (1 + (z + 1) % 2) < 2 ^ 54
split_twice {d = d} {z} s = twice_lt d z s.high

pub split_root : {n d z R rest : ℕ} → SplitOf n d z → RootOf (radicand d z) R rest → (2 ^ 53 ≤ R) × (R < 2 ^ 54)
split_root {d = d} {z} {R} {rest} s r = let b = radicand_range d z s.low s.high in root_range (radicand d z) R b.0 b.1 (root_of_whole (radicand d z) R rest r)

pub sqrt_no_nan : {n d z R rest : ℕ} → SplitOf n d z → RootOf (radicand d z) R rest → T (not (nan_bits binary64 ((z + 969) / 2 * 2 ^ 52 + (R + 1) / 2)))
sqrt_no_nan {z = z} {R} s r = let b = split_root s r in bits_no_nan binary64 ((R + 1) / 2) ((z + 969) / 2) (omega arith) (omega arith) (units_small binary64 ((R + 1) / 2) ((z + 969) / 2) (omega arith) (omega arith))

pub sqrt_bits : {n d z R rest : ℕ} → SplitOf n d z → leading n * 2 ^ size n ≡ n * 2 ^ 53 → RootOf (radicand d z) R rest
    → of_bits binary64 ((z + 969) / 2 * 2 ^ 52 + (R + 1) / 2) ≡ sqrt_of n
sqrt_bits {n} {d} {z} {R} {rest} s e r =
    let b = split_root s r in
    let h : d * 2 ^ z ≡ n * 2 ^ 53 = ap₂ (λ (x y : ℕ). x * 2 ^ y) s.leads s.sized ∙ e in
    bits_of binary64 ((R + 1) / 2) ((z + 969) / 2) (omega arith) (omega arith) (units_small binary64 ((R + 1) / 2) ((z + 969) / 2) (omega arith) (omega arith))
    ∙ ap (λ (k : ℕ). units binary64 false ((R + 1) / 2) k) (one_more z)
    ∙ sym (sqrt_of_units n (radicand d z) ((z + 967) / 2) R (scaled_of n d z h s.low s.high s.most) (root_of_whole (radicand d z) R rest r))
  where
    one_more : (z : ℕ) → (z + 969) / 2 ≡ suc ((z + 967) / 2)
    one_more z = omega arith
