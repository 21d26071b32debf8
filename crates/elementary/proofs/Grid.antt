-- A float that its format holds is m * 2 ^ g units of the format's smallest value, with an m of no more digits than the format keeps.
-- So its leading digits are all that it has, and floats lie no closer than on a grid. Assumes nothing.
use Rattle.std.proofs.Common.{◌≡◌, ℕ, suc, ◌+◌, ◌-◌, ◌*◌, ◌/◌, ◌^◌, ◌<◌, ◌≤◌, Bool, true, false, not, T, leb, ◌⊎◌, ℤ, sym, refl, ap, ◌∙◌, subst, inl, inr, le_trans, le_of_eq, lt_of_lt_of_le, le_of_suc-le-suc, add-zero, le_of_lt, mul-le-mul_right, zero-lt-suc, mul_assoc, lt_of_mul-lt-mul_right, mul-pos, zero-mul, mul-one, not-le_of_lt, mul-div_cancel, add-one, arith, leb→le, pow_pos, pow_mono, pow-add, shl_lt}
use native.Mathlib.Nat.{zero-div}
use lib.Dec.{nleb→lt}
use lib.Ieee.{Float, nan, inf, fin, Format, prec, low, down, size, fits}
use lib.Ieee.Digits.{size-le}
use lib.Ieee.Fits.{down_pos}
use lib.Ieee.Exact.{HasValue}
use Rattle.elementary.specs.Float.{count}
use Rattle.elementary.specs.Inner.{leading, SplitOf}
use Rattle.elementary.proofs.Exact.{held}
use Rattle.elementary.proofs.Count.{size_pos, leading_low, leading_high, count_places}

-- ---- m * 2 ^ g, with m below 2 ^ p
abbrev pub Grid : ℕ → ℕ → Type 0
Grid p c = (m : ℕ) × (g : ℕ) × (c ≡ m * 2 ^ g) × (m < 2 ^ p)

back : (l a : ℕ) → a ≤ l → l - a + a ≡ l
back l a h = omega arith

regroup : (m a b c d : ℕ) → a + b ≡ c + d → m * 2 ^ a * 2 ^ b ≡ m * 2 ^ c * 2 ^ d
regroup m a b c d e =
    mul_assoc m (2 ^ a) (2 ^ b) ∙ ap (λ (x : ℕ). m * x) (sym (pow-add 2 a b) ∙ ap (λ (x : ℕ). 2 ^ x) e ∙ pow-add 2 c d) ∙ sym (mul_assoc m (2 ^ c) (2 ^ d))

pub count_zero : (f : Format) (s : Bool) (e : ℤ) → count f (fin s 0 e) ≡ 0
unfolding count
count_zero f s e = simp (zero-mul, zero-div)

pub count_val : (f : Format) (x : Float) (s : Bool) (c : ℕ) → HasValue x s c (2 ^ low f) → count f x ≡ c
unfolding count
count_val f nan s c v = absurd v
count_val f (inf t) s c v = absurd v
count_val f (fin t m e) s c v = ap (λ (z : ℕ). z / down e) v.1 ∙ mul-div_cancel c (down_pos e)

pub count_grid : (f : Format) (x : Float) → T (fits f x) → Grid (prec f) (count f x)
unfolding count
count_grid f nan t = (0, 0, refl, pow_pos (prec f))
count_grid f (inf s) t = (0, 0, refl, pow_pos (prec f))
count_grid f (fin s m e) t = let p = count_places f s m e t in (m, p.0, p.1, (held f s m e t).digits)

pub count_pos : (f : Format) (s : Bool) (m : ℕ) (e : ℤ) → T (fits f (fin s (suc m) e)) → 0 < count f (fin s (suc m) e)
count_pos f s m e t = let p = count_places f s (suc m) e t in subst (λ (x : ℕ). 0 < x) (sym p.1) (mul-pos (zero-lt-suc m) (pow_pos p.0))

-- ---- the leading digits are 53, and a float has at most 2098 digits
pub leading_split : (n : ℕ) → 0 < n → n < 2 ^ 2098 → SplitOf n (leading n) (size n)
leading_split n h l =
    record {
      leads = refl;
      sized = refl;
      low = leading_low n h;
      high = leading_high n;
      some = size_pos n h;
      most = size-le n 2098 l;
    }

-- ---- it is a multiple of 2 ^ k, or has too few digits to reach 2 ^ h * 2 ^ k
on_or_under : (h k c : ℕ) → Grid (suc h) c → ((t : ℕ) × (c ≡ t * 2 ^ k)) ⊎ (c < 2 ^ h * 2 ^ k)
on_or_under h k c (m, g, e, l) = go (leb k g) (leb→le k g) (nleb→lt k g)
  where
    go : (b : Bool) → (T b → k ≤ g) → (T (not b) → g < k) → ((t : ℕ) × (c ≡ t * 2 ^ k)) ⊎ (c < 2 ^ h * 2 ^ k)
    go true a b = inl (m * 2 ^ (g - k), e ∙ sym (mul-one (m * 2 ^ g)) ∙ regroup m g 0 (g - k) k (add-zero g ∙ sym (back g k (a tt))))
    go false a b =
        inr (lt_of_lt_of_le (subst (λ (x : ℕ). x < 2 ^ (suc h + g)) (sym e) (shl_lt (suc h) g l)) (le_trans (pow_mono (step h g k (b tt))) (le_of_eq (pow-add 2 h k))))
      where
        step : (h g k : ℕ) → g < k → suc h + g ≤ h + k
        step h g k l = omega arith

-- so after q * 2 ^ k, with a q of h + 1 digits, the next is (q + 1) * 2 ^ k; and before it, (q - 1) * 2 ^ k, unless q is 2 ^ h
pub grid_above : (h k q c : ℕ) → Grid (suc h) c → 2 ^ h ≤ q → q * 2 ^ k < c → (q + 1) * 2 ^ k ≤ c
grid_above h k q c w a b = elim (on_or_under h k c w) [
  | inl (t, e) ↦
      subst (λ (x : ℕ). (q + 1) * 2 ^ k ≤ x) (sym e)
      (mul-le-mul_right (2 ^ k) (subst (λ (x : ℕ). x ≤ t) (sym (add-one q)) (lt_of_mul-lt-mul_right (2 ^ k) (subst (λ (x : ℕ). q * 2 ^ k < x) e b))))
  | inr l ↦ absurd (not-le_of_lt b (le_trans (le_of_lt l) (mul-le-mul_right (2 ^ k) a)))
]

pub grid_below : (h k q c : ℕ) → Grid (suc h) c → 2 ^ h ≤ q → c < (q + 1) * 2 ^ k → c ≤ q * 2 ^ k
grid_below h k q c w a b = elim (on_or_under h k c w) [
  | inl (t, e) ↦
      subst (λ (x : ℕ). x ≤ q * 2 ^ k) (sym e)
      (mul-le-mul_right (2 ^ k) (le_of_suc-le-suc (subst (λ (x : ℕ). t < x) (add-one q) (lt_of_mul-lt-mul_right (2 ^ k) (subst (λ (x : ℕ). x < (q + 1) * 2 ^ k) e b)))))
  | inr l ↦ le_trans (le_of_lt l) (mul-le-mul_right (2 ^ k) a)
]
