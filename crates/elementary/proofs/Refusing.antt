-- The elementary functions refuse just where document 01 says. Assumes nothing.
use Rattle.std.proofs.Common.{◌≡◌, ℕ, zero, suc, ◌+◌, ◌-◌, ◌*◌, ◌^◌, ◌<◌, ◌≤◌, Bool, true, false, T, ◌⊎◌, ◌↔◌, ℤ, pos, negsuc, sym, refl, ap, ◌∙◌, subst, inl, inr, true≢false, mul-le-mul_right, zero-lt-suc, mul-le-mul, lt_of_mul-lt-mul_right, mul-pos, arith, pow_pos, pow_mono, pow-add, ltb-true, lt-ltb}
use lib.Pow.{le_ones}
use lib.Ieee.{Float, nan, inf, fin, binary64, up, down, add, lt, le, of_bits, fits}
use lib.Ieee.Fits.{up_pos, down_pos, and_i}
use lib.Ieee.Order.{le_of_values}
use lib.Ieee.Bits.{is_true, of_bits-fits}
use Rattle.elementary.specs.Float.{◌⊕◌, 0ᶠ, ½ᶠ, 1ᶠ, finite, positive}
use Rattle.elementary.specs.Reply.{Reply, value, refusal, given}
use Rattle.elementary.specs.Elementary.{outside, LN, ln1p_of, LN1P, EXP, SQRT, CEIL}
use Rattle.elementary.specs.Refusing.{ElementaryRefusals}
use Rattle.elementary.proofs.Exact.{held}
use Rattle.elementary.proofs.Signs.{nonneg}
use Rattle.elementary.proofs.Order.{le_refl_f, lt_le_trans, finite_below, add_nonneg, add_mono, add_grows}

-- ---- a test, and behind it an answer that is no refusal
no_refusal : {x : Float} {n : ℕ} → value x ≡ refusal n → ⊥
no_refusal {x} {n} i = let z : ◌≡◌ {A = ℕ} 0 1 = cc in omega arith

refused : (b : Bool) (r : Reply Float) (n : ℕ) → (b ≡ true → r ≡ refusal n → ⊥) → (given b outside r ≡ refusal n) ↔ ((n ≡ outside) × (b ≡ false))
unfolding given
refused true r n k = (λ i. absurd (k refl i), λ p. absurd (true≢false p.1))
refused false r n k = (λ i. (cc, refl), λ p. rw p.0)

-- ---- 1 + r for a positive r that binary64 holds: no more than 1 plus its greatest number, which is finite
abbrev greatest : Float
greatest = fin false (2 ^ 53 - 1) (pos 971)

-- a number of p digits below 2 ^ (p + w) is no more than p ones and w zeros
most : (p w m : ℕ) (e : ℤ) → m < 2 ^ p → m * up e < 2 ^ (p + w) * down e → m * up e * 1 ≤ (2 ^ p - 1) * 2 ^ w * down e
most p w m (negsuc k) a b = omega (arith, mul-le-mul (le_ones p a) (mul-pos (pow_pos w) (pow_pos (suc k))))
most p w m (pos k) a b = go (k - w) refl
  where
    go : (j : ℕ) → k - w ≡ j → m * 2 ^ k * 1 ≤ (2 ^ p - 1) * 2 ^ w * 1
    go zero e = mul-le-mul_right 1 (mul-le-mul (le_ones p a) (pow_mono {i = k} {j = w} (omega arith)))
    go (suc j) e =
        let z : 2 ^ k ≡ 2 ^ suc j * 2 ^ w = ap (λ (i : ℕ). 2 ^ i) (omega arith) ∙ pow-add 2 (suc j) w in
        let l : m * 2 ^ suc j * 2 ^ w < 2 ^ p * 2 ^ w = omega (arith, b, ap (λ (i : ℕ). m * i) z, pow-add 2 p w) in
        omega (arith, ap (λ (i : ℕ). m * i) z, mul-le-mul_right (2 ^ w) (le_ones p (lt_of_mul-lt-mul_right (2 ^ w) l)))

below_greatest : (m : ℕ) (e : ℤ) → T (fits binary64 (fin false m e)) → T (le (fin false m e) greatest)
below_greatest m e t =
    let h = held binary64 false m e t in
    le_of_values (fin false m e) greatest (m * up e) (down e) ((2 ^ 53 - 1) * 2 ^ 971) 1 (down_pos e) (zero-lt-suc 0) (refl, refl) (refl, refl) (most 53 971 m e h.digits h.most)

finite_sum : T (finite (1ᶠ ⊕ greatest))
unfolding finite add of_bits
finite_sum = tt

sum_positive_lem : (r : Float) → T (fits binary64 r) → T (positive r) → T (positive (1ᶠ ⊕ r))
unfolding positive finite lt of_bits
sum_positive_lem nan t p = absurd p
sum_positive_lem (inf s) t p = absurd p
sum_positive_lem (fin true m e) t p = absurd p
sum_positive_lem (fin false m e) t p =
    let r = fin false m e in
    let n : T (nonneg (1ᶠ ⊕ r)) = add_nonneg binary64 1ᶠ r tt tt in
    and_i (finite (1ᶠ ⊕ r)) (lt 0ᶠ (1ᶠ ⊕ r))
    (finite_below (1ᶠ ⊕ r) (1ᶠ ⊕ greatest) n (add_mono binary64 1ᶠ 1ᶠ r greatest tt tt tt tt (le_refl_f 1ᶠ tt) (below_greatest m e t)) finite_sum)
    (lt_le_trans 0ᶠ 1ᶠ (1ᶠ ⊕ r) tt tt n tt (add_grows binary64 1ᶠ r tt tt (of_bits-fits binary64 0x3FF0000000000000)))

ln1p_answers : (b : Bool) (r : Float) (n : ℕ) → T (positive (1ᶠ ⊕ r)) → ln1p_of b r ≡ refusal n → ⊥
unfolding ln1p_of LN
ln1p_answers true r n p i = no_refusal i
ln1p_answers false r n p i = true≢false (sym (is_true (positive (1ᶠ ⊕ r)) p) ∙ ((refused (positive (1ᶠ ⊕ r)) _ n (λ q. no_refusal)).0 i).1)

-- ---- the root: the numbers below zero are those of minus sign that are no zero
sqrt_refused : (x : Float) (n : ℕ) → SQRT x ≡ refusal n → (n ≡ outside) × ((finite x ≡ false) ⊎ (lt x 0ᶠ ≡ true))
unfolding SQRT finite lt of_bits
sqrt_refused nan n i = (cc, inl refl)
sqrt_refused (inf s) n i = (cc, inl refl)
sqrt_refused (fin s zero e) n i = absurd (no_refusal i)
sqrt_refused (fin true (suc m) e) n i = (cc, inr (lt-ltb 0 (suc m * up e * 1 + 0 * down e) (omega (arith, mul-pos (zero-lt-suc m) (up_pos e)))))
sqrt_refused (fin false (suc m) e) n i = absurd (no_refusal i)

sqrt_refuses : (x : Float) → (finite x ≡ false) ⊎ (lt x 0ᶠ ≡ true) → SQRT x ≡ refusal outside
unfolding SQRT finite lt of_bits
sqrt_refuses nan p = refl
sqrt_refuses (inf s) p = refl
sqrt_refuses (fin s m e) (inl f) = absurd (true≢false f)
sqrt_refuses (fin true zero e) (inr l) = absurd (omega (arith, ltb-true 0 (0 * up e * 1 + 0 * down e) l))
sqrt_refuses (fin true (suc m) e) (inr l) = refl
sqrt_refuses (fin false m e) (inr l) = absurd (omega (arith, ltb-true (m * up e * 1) (0 * down e) l))

pub elementary_refusals : ElementaryRefusals
unfolding LN LN1P EXP CEIL
elementary_refusals = record {
  ln = λ x n. refused (positive x) _ n (λ p. no_refusal);
  ln1p = λ x n t. refused (positive x) _ n (λ p. ln1p_answers (lt x ½ᶠ) x n (sum_positive_lem x t (subst T (sym p) tt)));
  exp = λ x n. refused (finite x) _ n (λ p. no_refusal);
  ceil = λ x n. refused (finite x) _ n (λ p. no_refusal);
  sqrt = λ x n. (sqrt_refused x n, λ p. rw p.0 (sqrt_refuses x p.1));
}
