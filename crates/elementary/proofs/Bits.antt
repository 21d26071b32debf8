-- Bits made by hand: k times the leading digit's weight plus q, read as a positive float, is q * 2 ^ k units of the format's smallest value.
-- Assumes nothing.
use Rattle.std.proofs.Common.{◌≡◌, ℕ, suc, ◌+◌, ◌-◌, ◌*◌, ◌/◌, ◌^◌, ◌<◌, ◌≤◌, Bool, true, false, cond, not, T, ltb, ◌⊎◌, sym, refl, ap, ◌∙◌, subst, inl, inr, le_trans, le_of_eq, le_refl, lt_of_le_of_lt, mul-le-mul_right, suc-add, eq-or-lt_of_le, zero-add, mul-div_cancel, arith, lt→ltb, pow_pos, pow-add, shl_lt}
use lib.Pow.{pow-lt}
use lib.Ieee.{Float, nan, inf, fin, Format, binary32, binary64, prec, emax, low, up, down, size, odd, units, fits, is_nan, hid, top, of_bits, nan_bits, to_bits}
use lib.Ieee.Fits.{two, odd-fits, down_pos}
use lib.Ieee.Bits.{of_bits-to_bits, nan_bits_is}
use lib.Ieee.Exact.{HasValue, units_val}
use lib.Ieee.Scale.{overflow}
use Rattle.elementary.proofs.Count.{size_is}

-- ---- a value that is c units: its bits, and the number that `units` makes
pub to_bits_units : (f : Format) (x : Float) (c : ℕ) → HasValue x false c (2 ^ low f) → to_bits f x ≡ (size c - prec f) * hid f + c / 2 ^ (size c - prec f)
unfolding to_bits
to_bits_units f nan c v = absurd v
to_bits_units f (inf s) c v = absurd v
to_bits_units f (fin s m e) c v =
    let n : m * up e * 2 ^ low f / down e ≡ c = ap (λ (z : ℕ). z / down e) v.1 ∙ mul-div_cancel c (down_pos e) in
    ap (λ (b : Bool). cond b (top f) 0 + (size (m * up e * 2 ^ low f / down e) - prec f) * hid f + m * up e * 2 ^ low f / down e / 2 ^ (size (m * up e * 2 ^ low f / down e) - prec f)) v.0
    ∙ ap (λ (z : ℕ). 0 + (size z - prec f) * hid f + z / 2 ^ (size z - prec f)) n
    ∙ ap (λ (z : ℕ). z + c / 2 ^ (size c - prec f)) (zero-add ((size c - prec f) * hid f))

pub units_odd : (f : Format) (s : Bool) (q k : ℕ) → q * 2 ^ k < overflow f → units f s q k ≡ odd (suc (prec f)) s q k (low f)
unfolding units
units_odd f s q k h = go (ltb (q * 2 ^ k) (overflow f)) (lt→ltb (q * 2 ^ k) (overflow f) h)
  where
    go : (b : Bool) → T b → cond b (odd (suc (prec f)) s q k (low f)) (inf s) ≡ odd (suc (prec f)) s q k (low f)
    go true t = refl
    go false t = absurd t

pub units_fits : (f : Format) (s : Bool) (q k : ℕ) → q ≤ 2 ^ prec f → q * 2 ^ k < overflow f → T (fits f (units f s q k))
units_fits f s q k a h = subst (λ (x : Float). T (fits f x)) (sym (units_odd f s q k h)) (odd-fits f (suc (prec f)) s q k (lt_of_le_of_lt a (pow-lt (le_refl (suc (prec f))))) a h)

-- ---- The bits of q * 2 ^ k units, for a q of h + 1 digits, or the power of two after those.
-- d is how many digits are dropped.
at : (h q k d r : ℕ) → size (q * 2 ^ k) - suc h ≡ d → q * 2 ^ k ≡ r * 2 ^ d → (size (q * 2 ^ k) - suc h) * 2 ^ h + q * 2 ^ k / 2 ^ (size (q * 2 ^ k) - suc h) ≡ d * 2 ^ h + r
at h q k d r z e =
    ap (λ (x : ℕ). x * 2 ^ h + q * 2 ^ k / 2 ^ x) z
    ∙ ap (λ (x : ℕ). d * 2 ^ h + x) (ap (λ (x : ℕ). x / 2 ^ d) e ∙ mul-div_cancel r (pow_pos d))

field : (h q k : ℕ) → 2 ^ h ≤ q → q ≤ 2 ^ suc h → (size (q * 2 ^ k) - suc h) * 2 ^ h + q * 2 ^ k / 2 ^ (size (q * 2 ^ k) - suc h) ≡ k * 2 ^ h + q
field h q k a b = go (eq-or-lt_of_le b)
  where
    c : ℕ
    c = q * 2 ^ k

    few : size c ≡ suc (h + k) → size c - suc h ≡ k
    few e = omega arith

    more : size c ≡ suc (suc h + k) → size c - suc h ≡ suc k
    more e = omega arith

    move : (x y : ℕ) → suc x + y ≡ x + suc y
    move x y = omega arith

    last : q ≡ 2 ^ suc h → suc k * 2 ^ h + 2 ^ h ≡ k * 2 ^ h + q
    last e = omega arith

    go : (q ≡ 2 ^ suc h) ⊎ (q < 2 ^ suc h) → (size c - suc h) * 2 ^ h + c / 2 ^ (size c - suc h) ≡ k * 2 ^ h + q
    go (inl e) =
        let exact : c ≡ 2 ^ (suc h + k) = ap (λ (x : ℕ). x * 2 ^ k) e ∙ sym (pow-add 2 (suc h) k) in
        at h q k (suc k) (2 ^ h) (more (size_is (suc h + k) c (le_of_eq (sym exact)) (lt_of_le_of_lt (le_of_eq exact) (pow-lt (le_refl (suc (suc h + k)))))))
        (exact ∙ ap (λ (x : ℕ). 2 ^ x) (move h k) ∙ pow-add 2 h (suc k))
        ∙ last e
    go (inr l) =
        at h q k k q
        (few (size_is (h + k) c (le_trans (le_of_eq (pow-add 2 h k)) (mul-le-mul_right (2 ^ k) a)) (subst (λ (x : ℕ). c < 2 ^ x) (suc-add h k) (shl_lt (suc h) k l))))
        refl

-- ---- reading them
room : (p e k : ℕ) → 2 ≤ p → k + 2 ≤ 2 * e → p + k < e + p - 2 + suc e
room p e k h l = omega arith

-- a way to see that the value is below the infinity
pub units_small : (f : Format) (q k : ℕ) → q ≤ 2 ^ prec f → k + 2 ≤ 2 * emax f → q * 2 ^ k < overflow f
units_small f q k b l = lt_of_le_of_lt (mul-le-mul_right (2 ^ k) b) (lt_of_le_of_lt (le_of_eq (sym (pow-add 2 (prec f) k))) (pow-lt (room (prec f) (emax f) k (two f) l)))

written : (f : Format) (q k : ℕ) → hid f ≤ q → q ≤ 2 ^ prec f → q * 2 ^ k < overflow f → to_bits f (units f false q k) ≡ k * hid f + q
written f q k a b l = to_bits_units f (units f false q k) (q * 2 ^ k) (units_val f false q k l) ∙ format f a b
  where
    format : (f : Format) → hid f ≤ q → q ≤ 2 ^ prec f → (size (q * 2 ^ k) - prec f) * hid f + q * 2 ^ k / 2 ^ (size (q * 2 ^ k) - prec f) ≡ k * hid f + q
    format binary32 x y = field 23 q k x y
    format binary64 x y = field 52 q k x y

pub bits_of : (f : Format) (q k : ℕ) → hid f ≤ q → q ≤ 2 ^ prec f → q * 2 ^ k < overflow f → of_bits f (k * hid f + q) ≡ units f false q k
bits_of f q k a b l = ap (λ (x : ℕ). of_bits f x) (sym (written f q k a b l)) ∙ of_bits-to_bits f (units f false q k) (units_fits f false q k b l)

valued_no_nan : (x : Float) (s : Bool) (a c : ℕ) → HasValue x s a c → T (not (is_nan x))
unfolding is_nan
valued_no_nan nan s a c v = absurd v
valued_no_nan (inf t) s a c v = tt
valued_no_nan (fin t m e) s a c v = tt

pub bits_no_nan : (f : Format) (q k : ℕ) → hid f ≤ q → q ≤ 2 ^ prec f → q * 2 ^ k < overflow f → T (not (nan_bits f (k * hid f + q)))
bits_no_nan f q k a b l =
    subst (λ (t : Bool). T (not t)) (ap is_nan (sym (bits_of f q k a b l)) ∙ sym (nan_bits_is f (k * hid f + q)))
    (valued_no_nan (units f false q k) false (q * 2 ^ k) (2 ^ low f) (units_val f false q k l))
