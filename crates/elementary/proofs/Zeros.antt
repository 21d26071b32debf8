-- A zero, of either sign: times what is finite it is a zero, as is a zero less a zero, and taken away from what is not below +0 it changes nothing. Assumes nothing.
use Rattle.std.proofs.Common.{◌≡◌, ℕ, zero, suc, ◌*◌, ◌<◌, Bool, true, false, not, ◌&&◌, ◌||◌, T, eqb, ℤ, pos, sym, refl, ap, ◌∙◌, subst, zero-lt-suc, mul-pos, zero-mul, arith, eqb→eq}
use mathlib.Core.Bool.{beq, false≢true}
use lib.Ieee.{Float, nan, inf, fin, Format, unlike, up, down, round, neg, sum, add, sub, mul, eq, fits, of_bits}
use lib.Ieee.Fits.{up_pos, down_pos, and_l}
use lib.Ieee.Exact.{HasValue}
use Rattle.elementary.specs.Float.{finite}
use Rattle.elementary.proofs.Signs.{nonneg, round_zero, mul_comm_f}
use Rattle.elementary.proofs.Exact.{own_value_f, value_unique, sub_over, sum_zero, less_zero, round_own, zero_is}

pub data Zero : Float → Type 0 where
  zero_of : (s : Bool) (e : ℤ) → Zero (fin s 0 e)

-- what equals 0.0, however it is written
none : (f : Format) (s : Bool) (m : ℕ) (e : ℤ) → eq (fin s m e) (of_bits f 0) ≡ true → m * up e * 1 ≡ 0 * 1 * down e
unfolding eq
none f s m e h =
    eqb→eq (m * up e * 1) (0 * 1 * down e)
    (and_l (eqb (m * up e * 1) (0 * 1 * down e)) (beq s false || eqb (m * up e * 1) 0) (subst T (sym (ap (eq (fin s m e)) (sym (zero_is f)) ∙ h)) tt))

pub zero_test : (f : Format) (x : Float) → eq x (of_bits f 0) ≡ true → Zero x
unfolding eq
zero_test f nan h = absurd (false≢true h)
zero_test f (inf s) h = absurd (false≢true (sym (ap (eq (inf s)) (zero_is f)) ∙ h))
zero_test f (fin s zero e) h = zero_of s e
zero_test f (fin s (suc m) e) h = let z = none f s (suc m) e h in let p : 0 < suc m * up e = mul-pos (zero-lt-suc m) (up_pos e) in absurd (omega (arith, z, p))

pub zero_equal : (f : Format) {x : Float} → Zero x → eq x (of_bits f 0) ≡ true
unfolding eq
zero_equal f (zero_of s e) = rw (zero_is f, zero-mul (up e), zero-mul (down e)) (go s)
  where
    go : (s : Bool) → (true && (beq s false || true)) ≡ true
    go true = refl
    go false = refl

pub zero_finite : {x : Float} → Zero x → finite x ≡ true
unfolding finite
zero_finite (zero_of s e) = refl

pub zero_neg : {x : Float} → Zero x → Zero (neg x)
unfolding neg
zero_neg (zero_of s e) = zero_of (not s) e

pub zero_times : (f : Format) {x : Float} (y : Float) → Zero x → T (finite y) → Zero (mul f x y)
unfolding finite mul
zero_times f nan (zero_of s e) h = absurd h
zero_times f (inf t) (zero_of s e) h = absurd h
zero_times f (fin t n d) (zero_of s e) h =
    subst Zero (sym (ap (λ (z : ℕ). round f (unlike s t) z (down e * down d)) (ap (λ (z : ℕ). z * (n * up d)) (zero-mul (up e)) ∙ zero-mul (n * up d)) ∙ round_zero f (unlike s t) (down e * down d) (mul-pos (down_pos e) (down_pos d))))
    (zero_of (unlike s t) (pos 0))

pub times_zero : (f : Format) (x : Float) {y : Float} → T (finite x) → Zero y → Zero (mul f x y)
times_zero f x {y} h z = subst Zero (mul_comm_f f y x) (zero_times f x z h)

-- ---- taken away
none_of : (s : Bool) (e : ℤ) (c : ℕ) → HasValue (fin s 0 e) s 0 c
none_of s e c = (refl, ap (λ (z : ℕ). z * c) (zero-mul (up e)) ∙ zero-mul c ∙ sym (zero-mul (down e)))

pub zero_less : (f : Format) {x y : Float} → Zero x → Zero y → Zero (sub f x y)
unfolding sum
zero_less f (zero_of s e) (zero_of t d) =
    rw (sub_over f (fin s 0 e) (fin t 0 d) s 0 t 0 1 (zero-lt-suc 0) (none_of s e 1) (none_of t d 1), go s t, round_zero f (s && not t) 1 (zero-lt-suc 0)) (zero_of (s && not t) (pos 0))
  where
    go : (s t : Bool) → sum f s 0 (not t) 0 1 ≡ round f (s && not t) 0 1
    go true true = refl
    go true false = refl
    go false true = refl
    go false false = refl

pub sub_nothing : (f : Format) (x : Float) {z : Float} → Zero z → T (nonneg x) → T (fits f x) → sub f x z ≡ x
unfolding sub add neg
sub_nothing f nan (zero_of s e) p t = refl
sub_nothing f (inf u) (zero_of s e) p t = refl
sub_nothing f (fin true m d) (zero_of s e) p t = absurd p
sub_nothing f (fin false m d) (zero_of s e) p t =
    sub_over f (fin false m d) (fin s 0 e) false (m * up d) s 0 (down d) (down_pos d) (own_value_f false m d) (none_of s e (down d))
    ∙ go s
    ∙ round_own f false m d t
  where
    go : (s : Bool) → sum f false (m * up d) (not s) 0 (down d) ≡ round f false (m * up d) (down d)
    go true = sum_zero f false (m * up d) (down d) (λ b. absurd b)
    go false = less_zero f false (m * up d) (down d)

-- ---- of those that a format holds there are two
pub zero_held : (f : Format) {x : Float} → Zero x → T (fits f x) → (s : Bool) × (x ≡ fin s 0 (pos 0))
unfolding fits
zero_held f (zero_of s e) t = (s, value_unique f (fin s 0 e) (fin s 0 (pos 0)) s 0 1 (zero-lt-suc 0) t tt (none_of s e 1) (none_of s (pos 0) 1))
