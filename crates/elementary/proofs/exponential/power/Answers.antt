use Rattle.std.proofs.Common.{◌≡◌, ℕ, suc, ◌+◌, ◌-◌, ◌*◌, ◌^◌, ◌<◌, ◌≤◌, Bool, true, false, cond, not, T, leb, ℤ, pos, negsuc, sym, ap, ◌∙◌, subst, le_of_eq, lt_of_le_of_lt, arith, lit≤, leb→le, pow-add}
use lib.Dec.{nleb→lt}
use lib.Count.{count_trailing_zeros}
use lib.Pow.{pow-lt}
use lib.Ieee.{binary64, fin, minus, odd, units, of_bits, nan_bits}
use Rattle.elementary.specs.Elementary.{power2}
use Rattle.elementary.proofs.Bits.{bits_of, bits_no_nan, units_odd}
use Rattle.elementary.proofs.exponential.power.Goals as goal

-- the exponent's field alone: a leading digit with no digits after it
field : (n : ℕ) → 1 ≤ n → n * 4503599627370496 ≡ (n - 1) * 2 ^ 52 + 2 ^ 52
field n h = omega arith

small : (n : ℕ) → n ≤ 2046 → 2 ^ 52 * 2 ^ (n - 1) < 2 ^ 2098
small n h = lt_of_le_of_lt (le_of_eq (sym (pow-add 2 52 (n - 1)))) (pow-lt (bound n h))
  where
    bound : (n : ℕ) → n ≤ 2046 → 52 + (n - 1) < 2098
    bound n h = omega arith

-- both exponents less 51
shift : (n : ℕ) → 1 ≤ n → minus (n - 1 + 52) 1074 ≡ minus n 1023
shift n h = ap (λ (a : ℕ). minus a 1074) (move n h) ∙ go (leb 1074 (n + 51)) (leb 1023 n) (leb→le 1074 (n + 51)) (nleb→lt 1074 (n + 51)) (leb→le 1023 n) (nleb→lt 1023 n)
  where
    move : (n : ℕ) → 1 ≤ n → n - 1 + 52 ≡ n + 51
    move n h = omega arith

    same_up : (n : ℕ) → 1023 ≤ n → n + 51 - 1074 ≡ n - 1023
    same_up n h = omega arith

    same-down : (n : ℕ) → n < 1023 → 1074 - suc (n + 51) ≡ 1023 - suc n
    same-down n h = omega arith

    never : (n : ℕ) → 1074 ≤ n + 51 → n < 1023 → ⊥
    never n a b = omega arith

    nor : (n : ℕ) → n + 51 < 1074 → 1023 ≤ n → ⊥
    nor n a b = omega arith

    go : (p q : Bool) → (T p → 1074 ≤ n + 51) → (T (not p) → n + 51 < 1074) → (T q → 1023 ≤ n) → (T (not q) → n < 1023)
        → cond p (pos (n + 51 - 1074)) (negsuc (1074 - suc (n + 51))) ≡ cond q (pos (n - 1023)) (negsuc (1023 - suc n))
    go true true a b c d = ap pos (same_up n (c tt))
    go true false a b c d = absurd (never n (a tt) (d tt))
    go false true a b c d = absurd (nor n (b tt) (c tt))
    go false false a b c d = ap negsuc (same-down n (d tt))

is-power : (n : ℕ) → 1 ≤ n → n ≤ 2046 → units binary64 false (2 ^ 52) (n - 1) ≡ power2 (minus n 1023)
unfolding odd count_trailing_zeros
is-power n h k = units_odd binary64 false (2 ^ 52) (n - 1) (small n k) ∙ ap (λ (e : ℤ). fin false 1 e) (shift n h)

pub float_from_bits-result : goal.float_from_bits-result
float_from_bits-result c =
    let n = c.args.n in
    subst (λ (b : ℕ). T (not (nan_bits binary64 b))) (sym (field n c.requires.0)) (bits_no_nan binary64 (2 ^ 52) (n - 1) (lit≤ tt) (lit≤ tt) (small n c.requires.1))

pub returns : goal.returns
returns c =
    let n = c.args.n in
    ap (λ (b : ℕ). of_bits binary64 b) (field n c.requires.0) ∙ bits_of binary64 (2 ^ 52) (n - 1) (lit≤ tt) (lit≤ tt) (small n c.requires.1) ∙ is-power n c.requires.0 c.requires.1
