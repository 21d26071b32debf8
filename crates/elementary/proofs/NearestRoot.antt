-- The law of the square root, `specs/Root.antt`: the answer is the float nearest to the root. Assumes nothing.
use Rattle.std.proofs.Common.{◌≡◌, ℕ, zero, suc, ◌+◌, ◌*◌, ◌/◌, ◌%◌, ◌^◌, ◌<◌, ◌≤◌, Bool, true, false, T, ℤ, sym, refl, ap, ◌∙◌, subst, zero-le, le_trans, le_of_eq, lt_of_lt_of_le, lt_of_le_of_lt, mul-le-mul_right, zero-lt-suc, mul-le-mul, mul-lt-mul_of_pos_right, mul-pos, zero-mul, arith, pow_pos}
use native.Mathlib.Nat.{mul-mul-mul_comm, pow-succ'}
use lib.Ieee.{Float, nan, inf, fin, binary64, size, fits, le, of_bits}
use lib.Ieee.Fits.{round-fits}
use lib.Ieee.Exact.{HasValue, units_val}
use lib.Ieee.Order.{le_of_values}
use Rattle.elementary.specs.Float.{0ᶠ, finite, count}
use Rattle.elementary.specs.Elementary.{isqrt, SQRT, sqrt_of}
use Rattle.elementary.specs.Inner.{leading}
use Rattle.elementary.specs.Root.{Nearer, NearestRoot, RootIsNearest}
use Rattle.elementary.proofs.Bits.{units_small}
use Rattle.elementary.proofs.Grid.{Grid, grid_above, grid_below, count_grid, count_val, count_zero, count_pos, leading_split}
use Rattle.elementary.proofs.Count.{count_top, count_exact}
use Rattle.elementary.proofs.WholeRoot.{Whole, isqrt_whole}
use Rattle.elementary.proofs.SquareRoot.{root_range, radicand, Scaled, scaled_of, sqrt_of_units}

-- ---- a square beside M * P * P
under : (t a P M : ℕ) → 0 < P → t ≤ a * P → a * a < M → t * t < M * (P * P)
under t a P M p h l = lt_of_le_of_lt (le_trans (mul-le-mul h h) (le_of_eq (mul-mul-mul_comm a P a P))) (mul-lt-mul_of_pos_right l (mul-pos p p))

over : (t a P M : ℕ) → 0 < P → a * P ≤ t → M < a * a → M * (P * P) < t * t
over t a P M p h l = lt_of_lt_of_le (mul-lt-mul_of_pos_right l (mul-pos p p)) (le_trans (le_of_eq (sym (mul-mul-mul_comm a P a P))) (mul-le-mul h h))

-- ---- R is the whole part of M's root, and q is half of it, an odd one going up: q * 2 ^ k beside another float
above : (M R q k Y : ℕ) → Whole M R → Grid 53 Y → 2 ^ 52 ≤ q → R ≤ 2 * q → q * 2 ^ k < Y → M * (2 ^ k * 2 ^ k) < (q * 2 ^ k + Y) * (q * 2 ^ k + Y)
above M R q k Y w g lo r h =
    let P = 2 ^ k in
    let n : (q + 1) * P ≤ Y = grid_above 52 k q Y g lo h in
    let m : R + 1 ≤ 2 * q + 1 = omega arith in
    over (q * P + Y) (2 * q + 1) P M (pow_pos k) (omega arith) (lt_of_lt_of_le w.1 (mul-le-mul m m))

below_even : (M R q k Y : ℕ) → Whole M R → R ≡ 2 * q → Y < q * 2 ^ k → (q * 2 ^ k + Y) * (q * 2 ^ k + Y) < M * (2 ^ k * 2 ^ k)
below_even M R q k Y w r h =
    let P = 2 ^ k in
    let t = q * P + Y in
    let a : R * P ≡ 2 * q * P = ap (λ (x : ℕ). x * P) r in
    let n : t + 1 ≤ R * P = omega arith in
    lt_of_lt_of_le (grows t) (le_trans (mul-le-mul n n) (le_trans (le_of_eq (mul-mul-mul_comm R P R P)) (mul-le-mul_right (P * P) w.0)))
  where
    grows : (t : ℕ) → t * t < (t + 1) * (t + 1)
    grows t = omega arith

-- an odd root is not exact: its square is odd, and M is even
below_odd : (M R s k Y : ℕ) → Whole M R → Grid 53 Y → M % 2 ≡ 0 → 2 ^ 52 ≤ s → R ≡ 2 * s + 1 → Y < (s + 1) * 2 ^ k → ((s + 1) * 2 ^ k + Y) * ((s + 1) * 2 ^ k + Y) < M * (2 ^ k * 2 ^ k)
below_odd M R s k Y w g even lo r h =
    let P = 2 ^ k in
    let a : R * P ≡ (2 * s + 1) * P = ap (λ (x : ℕ). x * P) r in
    let b : R * R ≡ (2 * s + 1) * (2 * s + 1) = ap (λ (x : ℕ). x * x) r in
    let n : Y ≤ s * P = grid_below 52 k s Y g lo h in
    under ((s + 1) * P + Y) R P M (pow_pos k) (omega arith) (omega arith)

-- ---- so q * 2 ^ k is the nearest
nearer : (M R j Y : ℕ) → Whole M R → Grid 53 Y → M % 2 ≡ 0 → 2 ^ 53 ≤ R → Nearer (M * (2 ^ j * 2 ^ j)) ((R + 1) / 2 * 2 ^ suc j) Y
nearer M R j Y w g even lo =
    let q = (R + 1) / 2 in
    let P = 2 ^ suc j in
    let e : M * (P * P) ≡ 4 * (M * (2 ^ j * 2 ^ j)) = ap (λ (x : ℕ). M * (x * x)) (pow-succ' 2 j) ∙ four M (2 ^ j) in
    record {
      down = λ h. subst (λ (x : ℕ). (q * P + Y) * (q * P + Y) < x) e (go (R % 2) refl h);
      up = λ h. subst (λ (x : ℕ). x < (q * P + Y) * (q * P + Y)) e (above M R q (suc j) Y w g (omega arith) (omega arith) h);
    }
  where
    four : (M p : ℕ) → M * (2 * p * (2 * p)) ≡ 4 * (M * (p * p))
    four M p = omega arith

    go : (b : ℕ) → R % 2 ≡ b → Y < (R + 1) / 2 * 2 ^ suc j → ((R + 1) / 2 * 2 ^ suc j + Y) * ((R + 1) / 2 * 2 ^ suc j + Y) < M * (2 ^ suc j * 2 ^ suc j)
    go zero f h = below_even M R ((R + 1) / 2) (suc j) Y w (omega arith) h
    go (suc b) f h =
        let q : (R + 1) / 2 ≡ R / 2 + 1 = omega arith in
        subst (λ (x : ℕ). (x * 2 ^ suc j + Y) * (x * 2 ^ suc j + Y) < M * (2 ^ suc j * 2 ^ suc j)) (sym q)
        (below_odd M R (R / 2) (suc j) Y w g even (omega arith) (omega arith) (subst (λ (x : ℕ). Y < x * 2 ^ suc j) q h))

-- ---- a float that is a / c
finite_val : (x : Float) (a c : ℕ) → HasValue x false a c → T (finite x)
unfolding finite
finite_val nan a c v = absurd v
finite_val (inf s) a c v = absurd v
finite_val (fin s m e) a c v = tt

zero_val : HasValue 0ᶠ false 0 1
unfolding of_bits
zero_val = (refl, refl)

sign_val : (x : Float) (a c : ℕ) → 0 < c → HasValue x false a c → T (le 0ᶠ x)
sign_val x a c h v = le_of_values 0ᶠ x 0 1 a c (zero-lt-suc 0) h zero_val v (subst (λ (z : ℕ). z ≤ a * 1) (sym (zero-mul c)) zero-le)

-- ---- the root of n units
sqrt_of_fits : (n : ℕ) → T (fits binary64 (sqrt_of n))
unfolding sqrt_of
sqrt_of_fits n = round-fits binary64 false (2 * isqrt 1600 (n * 2 ^ 1074) + 1) (2 ^ 1075)

sqrt_of_nearest : (x : Float) → T (fits binary64 x) → 0 < count binary64 x → NearestRoot x (sqrt_of (count binary64 x))
sqrt_of_nearest x t h =
    let n = count binary64 x in
    let s = leading_split n h (count_top binary64 x t) in
    let M = radicand (leading n) (size n) in
    let j = (size n + 967) / 2 in
    let S : Scaled n M j = scaled_of n (leading n) (size n) (count_exact x t) s.low s.high s.most in
    let R = isqrt 54 M in
    let w : Whole M R = isqrt_whole 54 M S.high in
    let r = root_range M R S.low S.high w in
    let q = (R + 1) / 2 in
    let c = q * 2 ^ suc j in
    let k : suc j + 2 ≤ 2046 = room j S.most in
    let v : HasValue (sqrt_of n) false c (2 ^ 1074) =
    subst (λ (y : Float). HasValue y false c (2 ^ 1074)) (sym (sqrt_of_units n M j R S w)) (units_val binary64 false q (suc j) (units_small binary64 q (suc j) (half R r.1) k)) in
    record {
      held = sqrt_of_fits n;
      number = finite_val (sqrt_of n) c (2 ^ 1074) v;
      sign = sign_val (sqrt_of n) c (2 ^ 1074) (pow_pos 1074) v;
      nearest = λ y u.
          subst (λ (W : ℕ). Nearer W (count binary64 (sqrt_of n)) (count binary64 y)) S.exact
          (subst (λ (A : ℕ). Nearer (M * (2 ^ j * 2 ^ j)) A (count binary64 y)) (sym (count_val binary64 (sqrt_of n) false c v))
          (nearer M R j (count binary64 y) w (count_grid binary64 y u) (even (leading n * (1 + (size n + 1) % 2))) r.0));
    }
  where
    room : (j : ℕ) → j ≤ 1532 → suc j + 2 ≤ 2046
    room j h = omega arith

    half : (R : ℕ) → R < 2 ^ 54 → (R + 1) / 2 ≤ 2 ^ 53
    half R h = omega arith

    even : (x : ℕ) → x * 2 ^ 54 % 2 ≡ 0
    even x = omega arith

-- ---- a zero is its own root
zero_sign : (s : Bool) (e : ℤ) → T (le 0ᶠ (fin s 0 e))
unfolding le of_bits
zero_sign false e = simp zero-mul tt
zero_sign true e = simp zero-mul tt

zero_nearer : (l Y : ℕ) → Nearer (0 * l) 0 Y
zero_nearer l Y = record { down = λ h. absurd (omega arith); up = λ h. let y : 0 < Y * Y = mul-pos h h in omega arith }

zero_nearest : (s : Bool) (e : ℤ) → T (fits binary64 (fin s 0 e)) → NearestRoot (fin s 0 e) (fin s 0 e)
zero_nearest s e t = record {
  held = t;
  number = unfold finite in tt;
  sign = zero_sign s e;
  nearest = λ y u. subst (λ (c : ℕ). Nearer (c * 2 ^ 1074) c (count binary64 y)) (sym (count_zero binary64 s e)) (zero_nearer (2 ^ 1074) (count binary64 y));
}

pub root_is_nearest : RootIsNearest
unfolding SQRT
root_is_nearest nan a t h = let z : ◌≡◌ {A = ℕ} 0 1 = cc in absurd (omega arith)
root_is_nearest (inf s) a t h = let z : ◌≡◌ {A = ℕ} 0 1 = cc in absurd (omega arith)
root_is_nearest (fin s zero e) a t h = let z : fin s zero e ≡ a = cc in subst (λ (y : Float). NearestRoot (fin s zero e) y) z (zero_nearest s e t)
root_is_nearest (fin true (suc m) e) a t h = let z : ◌≡◌ {A = ℕ} 0 1 = cc in absurd (omega arith)
root_is_nearest (fin false (suc m) e) a t h =
    let z : sqrt_of (count binary64 (fin false (suc m) e)) ≡ a = cc in
    subst (λ (y : Float). NearestRoot (fin false (suc m) e) y) z (sqrt_of_nearest (fin false (suc m) e) t (count_pos binary64 false m e t))
