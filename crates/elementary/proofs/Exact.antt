-- Where float arithmetic is exact: a value that the format holds rounds to itself, whole numbers up to 2 ^ prec compute as integers, and a zero or a one gives the other operand back. Assumes nothing.
use Rattle.std.proofs.Common.{◌≡◌, ℕ, zero, suc, ◌+◌, ◌-◌, ◌*◌, ◌/◌, ◌%◌, ◌^◌, ◌<◌, ◌≤◌, Bool, true, false, cond, not, ◌&&◌, ◌||◌, T, eqb, ltb, leb, ℤ, pos, negsuc, ◌+ℤ◌, ◌-ℤ◌, ◌*ℤ◌, neg_ℤ, nat_abs, sym, refl, ap, ◌∙◌, subst, le_trans, le_of_eq, lt_of_lt_of_le, le_of_suc-le-suc, le-add_right, add-zero, le_of_lt, lt_irrefl, add-suc, zero-lt-suc, mul_assoc, mul_comm, add-mul, lt_of_mul-lt-mul_right, suc-add, mul-lt-mul_of_pos_right, mul-pos, one-mul, lt_of_not-le, zero-add, zero-mul, mul-one, mul_right_comm, not-le_of_lt, le-mul_of_pos_right, le-add_left, arith, eqb→eq, ltb→lt, lt→ltb, leb→le, nltb→le, pow_pos, pow_mono, pow-add}
use native.Mathlib.Nat.{eq_of_mul-eq-mul_right, mul-mul-mul_comm, mul-sub, sub-zero}
use mathlib.Core.Bool.{beq, false≢true}
use lib.IntN.{suc_ℤ, +ℤ_idl, +ℤ_idr, +ℤ_one, suc_ℤ-+ℤ}
use lib.Dec.{nleb→lt, leb-zero, leb-suc-zero, eqb-suc-zero}
use lib.Pow.{pow-lt}
use lib.Ieee.{Float, nan, inf, fin, Format, binary32, binary64, unlike, prec, emax, low, up, down, minus, size, round, neg, sum, add, sub, mul, div, eq, of_int, fits, hid, top, of_bits, to_bits}
use lib.Ieee.Digits.{back}
use lib.Ieee.Fits.{two, two-le_pos, round-fits, up_pos, down_pos, and_l, and_r}
use lib.Ieee.Bits.{of_bits-to_bits, of_bits-fits, is_true}
use lib.Ieee.Back.{round_whole}
use lib.Ieee.Exact.{HasValue, round_exact}
use lib.Ieee.Nearest.{div_same}
use lib.Ieee.Scale.{round_same}
use lib.Ieee.Positive.{above}
use Rattle.elementary.specs.Float.{whole, 1ᶠ}

-- ---- the fractions that a value equals
pub own_value_f : (s : Bool) (m : ℕ) (e : ℤ) → HasValue (fin s m e) s (m * up e) (down e)
own_value_f s m e = (refl, refl)

-- x / p and y / q are both a / c
cross : (x p y q a c : ℕ) → 0 < c → x * c ≡ a * p → y * c ≡ a * q → x * q ≡ y * p
cross x p y q a c C h k =
    eq_of_mul-eq-mul_right c C (x * q) (y * p)
    (mul_right_comm x q c ∙ ap (λ (z : ℕ). z * q) h ∙ mul_right_comm a p q ∙ ap (λ (z : ℕ). z * p) (sym k) ∙ mul_right_comm y c p)

pub rescale : (x : Float) (s : Bool) (a c b d : ℕ) → 0 < c → a * d ≡ b * c → HasValue x s a c → HasValue x s b d
rescale nan s a c b d C h v = v
rescale (inf t) s a c b d C h v = v
rescale (fin t m e) s a c b d C h v = (
  v.0,
  eq_of_mul-eq-mul_right c C (m * up e * d) (b * down e)
      (mul_right_comm (m * up e) d c ∙ ap (λ (z : ℕ). z * d) v.1 ∙ mul_right_comm a (down e) d ∙ ap (λ (z : ℕ). z * down e) h ∙ mul_right_comm b c (down e)),
)

-- ---- a value that the format holds is written in one way: the bits written for it turn on its sign and its size alone
bits_same : (f : Format) (x y : Float) (s : Bool) (a c : ℕ) → 0 < c → HasValue x s a c → HasValue y s a c → to_bits f x ≡ to_bits f y
unfolding to_bits
bits_same f nan y s a c C v w = absurd v
bits_same f (inf t) y s a c C v w = absurd v
bits_same f (fin t m e) nan s a c C v w = absurd w
bits_same f (fin t m e) (inf u) s a c C v w = absurd w
bits_same f (fin t m e) (fin u n g) s a c C v w =
    let l = 2 ^ low f in
    let h : m * up e * l * down g ≡ n * up g * l * down e =
    mul_right_comm (m * up e) l (down g) ∙ ap (λ (z : ℕ). z * l) (cross (m * up e) (down e) (n * up g) (down g) a c C v.1 w.1) ∙ mul_right_comm (n * up g) (down e) l in
    let k : m * up e * l / down e ≡ n * up g * l / down g = div_same (m * up e * l) (down e) (n * up g * l) (down g) (down_pos e) (down_pos g) h in
    λ i. cond ((v.0 ∙ sym w.0) i) (top f) 0 + (size (k i) - prec f) * hid f + k i / 2 ^ (size (k i) - prec f)

pub value_unique : (f : Format) (x y : Float) (s : Bool) (a c : ℕ) → 0 < c → T (fits f x) → T (fits f y) → HasValue x s a c → HasValue y s a c → x ≡ y
value_unique f x y s a c C p q v w = sym (of_bits-to_bits f x p) ∙ ap (λ (b : ℕ). of_bits f b) (bits_same f x y s a c C v w) ∙ of_bits-to_bits f y q

-- ---- what `fits` says of a finite value, a zero included
pub record Held (f : Format) (m : ℕ) (e : ℤ) : Type 0 where
  pub digits : m < 2 ^ prec f
  pub least : down e ≤ 2 ^ low f
  pub most : m * up e < 2 ^ suc (emax f) * down e

pub held : (f : Format) (s : Bool) (m : ℕ) (e : ℤ) → T (fits f (fin s m e)) → Held f m e
unfolding fits
held f s zero e t = record {
  digits = pow_pos (prec f);
  least = le_trans (le-mul_of_pos_right (down e) (up_pos e)) (le_trans (le_of_eq (mul_comm (down e) (up e) ∙ eqb→eq (up e * down e) 1 t)) (pow_pos (low f)));
  most = subst (λ (z : ℕ). z < 2 ^ suc (emax f) * down e) (sym (zero-mul (up e))) (mul-pos (pow_pos (suc (emax f))) (down_pos e));
}
held f s (suc m) e t =
    let A = eqb (suc m % 2) 1 in
    let B = ltb (suc m) (2 ^ prec f) in
    let C = leb (down e) (2 ^ low f) in
    let D = ltb (suc m * up e) (2 ^ suc (emax f) * down e) in
    record {
      digits = ltb→lt (suc m) (2 ^ prec f) (and_r A B (and_l (A && B) C (and_l (A && B && C) D t)));
      least = leb→le (down e) (2 ^ low f) (and_r (A && B) C (and_l (A && B && C) D t));
      most = ltb→lt (suc m * up e) (2 ^ suc (emax f) * down e) (and_r (A && B && C) D t);
    }

-- ---- rounding gives back what the format holds
pow_le_back : (a l : ℕ) → 2 ^ a ≤ 2 ^ l → a ≤ l
pow_le_back a l h = le_of_suc-le-suc (lt_of_not-le (λ (g : suc l ≤ a). lt_irrefl (2 ^ l) (lt_of_lt_of_le (pow-lt g) h)))

-- 2 ^ e is 2 ^ j times 2 ^ -l
shift : (l : ℕ) (e : ℤ) → down e ≤ 2 ^ l → (j : ℕ) × (up e * 2 ^ l ≡ 2 ^ j * down e)
shift l (pos k) h = (k + l, sym (pow-add 2 k l) ∙ sym (mul-one (2 ^ (k + l))))
shift l (negsuc k) h = (l - suc k, one-mul (2 ^ l) ∙ ap (λ (z : ℕ). 2 ^ z) (sym (back l (suc k) (pow_le_back (suc k) l h))) ∙ pow-add 2 (l - suc k) (suc k))

pub round_value : (f : Format) (x : Float) (s : Bool) (a c : ℕ) → 0 < c → T (fits f x) → HasValue x s a c → round f s a c ≡ x
round_value f nan s a c C t v = absurd v
round_value f (inf u) s a c C t v = absurd v
round_value f (fin u m e) s a c C t v =
    let h = held f u m e t in
    let l = 2 ^ low f in
    let k = shift (low f) e h.least in
    let units : m * up e * l ≡ m * 2 ^ k.0 * down e = mul_assoc m (up e) l ∙ ap (λ (z : ℕ). m * z) k.1 ∙ sym (mul_assoc m (2 ^ k.0) (down e)) in
    value_unique f (round f s a c) (fin u m e) s a c C (round-fits f s a c) t
    (round_exact f s a c m k.0 C h.digits
    (lt_of_mul-lt-mul_right (down e)
    (subst (λ (z : ℕ). z < 2 ^ (low f + suc (emax f)) * down e) units
    (subst (λ (z : ℕ). m * up e * l < z)
    (mul_comm (2 ^ suc (emax f) * down e) l ∙ sym (mul_assoc l (2 ^ suc (emax f)) (down e)) ∙ ap (λ (z : ℕ). z * down e) (sym (pow-add 2 (low f) (suc (emax f)))))
    (mul-lt-mul_of_pos_right h.most (pow_pos (low f))))))
    (eq_of_mul-eq-mul_right (down e) (down_pos e) (a * l) (m * 2 ^ k.0 * c)
    (mul_right_comm a l (down e)
    ∙ ap (λ (z : ℕ). z * l) (sym v.1)
    ∙ mul_right_comm (m * up e) c l
    ∙ ap (λ (z : ℕ). z * c) units
    ∙ mul_right_comm (m * 2 ^ k.0) (down e) c)))
    v

-- ---- a sum, a difference and a product, by fractions that the operands equal
same_test : (p q : Bool) → (T p → T q) → (T q → T p) → p ≡ q
same_test true true h k = refl
same_test true false h k = absurd (h tt)
same_test false true h k = absurd (k tt)
same_test false false h k = refl

ltb_lift : (a b c a' b' c' : ℕ) → 0 < c' → a * c' ≡ a' * c → b * c' ≡ b' * c → T (ltb a b) → T (ltb a' b')
ltb_lift a b c a' b' c' C h k t =
    lt→ltb a' b' (lt_of_mul-lt-mul_right c (subst (λ (z : ℕ). z < b' * c) h (subst (λ (z : ℕ). a * c' < z) k (mul-lt-mul_of_pos_right (ltb→lt a b t) C))))

pub ltb_same : (a b c a' b' c' : ℕ) → 0 < c → 0 < c' → a * c' ≡ a' * c → b * c' ≡ b' * c → ltb a b ≡ ltb a' b'
ltb_same a b c a' b' c' C C' h k = same_test (ltb a b) (ltb a' b') (ltb_lift a b c a' b' c' C' h k) (ltb_lift a' b' c' a b c C (sym h) (sym k))

sub_mul : (a b c : ℕ) → (a - b) * c ≡ a * c - b * c
sub_mul a b c = mul_comm (a - b) c ∙ mul-sub c a b ∙ (λ i. mul_comm c a i - mul_comm c b i)

less_same : (a b c a' b' c' : ℕ) → a * c' ≡ a' * c → b * c' ≡ b' * c → (a - b) * c' ≡ (a' - b') * c
less_same a b c a' b' c' h k = sub_mul a b c' ∙ (λ i. h i - k i) ∙ sym (sub_mul a' b' c)

sum_same : (f : Format) (s : Bool) (a : ℕ) (t : Bool) (b c a' b' c' : ℕ) → 0 < c → 0 < c' → a * c' ≡ a' * c → b * c' ≡ b' * c → sum f s a t b c ≡ sum f s a' t b' c'
unfolding sum
sum_same f s a t b c a' b' c' C C' h k =
    let same : (u : Bool) (x y : ℕ) → x * c' ≡ y * c → round f u x c ≡ round f u y c' = λ u x y e. round_same f u x c y c' C C' e in
    λ i.
    cond (beq s t) (same s (a + b) (a' + b') (add-mul a b c' ∙ (λ j. h j + k j) ∙ sym (add-mul a' b' c)) i)
    (cond (ltb_same a b c a' b' c' C C' h k i) (same t (b - a) (b' - a') (less_same b a c b' a' c' k h) i)
    ((ap (λ (u : Bool). round f (s && u) (a - b) c) (ltb_same b a c b' a' c' C C' k h) ∙ same (s && ltb b' a') (a - b) (a' - b') (less_same a b c a' b' c' h k)) i))

-- over a common denominator
pub add_over : (f : Format) (x y : Float) (s : Bool) (a : ℕ) (t : Bool) (b c : ℕ) → 0 < c → HasValue x s a c → HasValue y t b c → add f x y ≡ sum f s a t b c
unfolding add
add_over f nan y s a t b c C v w = absurd v
add_over f (inf u) y s a t b c C v w = absurd v
add_over f (fin u m e) nan s a t b c C v w = absurd w
add_over f (fin u m e) (inf q) s a t b c C v w = absurd w
add_over f (fin u m e) (fin q n g) s a t b c C v w =
    (λ i. sum f (v.0 i) (m * up e * down g) (w.0 i) (n * up g * down e) (down e * down g))
    ∙ sum_same f s (m * up e * down g) t (n * up g * down e) (down e * down g) a b c (mul-pos (down_pos e) (down_pos g)) C
    (mul_right_comm (m * up e) (down g) c ∙ ap (λ (z : ℕ). z * down g) v.1 ∙ mul_assoc a (down e) (down g))
    (mul_right_comm (n * up g) (down e) c ∙ ap (λ (z : ℕ). z * down e) w.1 ∙ mul_assoc b (down g) (down e) ∙ ap (λ (z : ℕ). b * z) (mul_comm (down g) (down e)))

neg_value : (x : Float) (s : Bool) (a c : ℕ) → HasValue x s a c → HasValue (neg x) (not s) a c
unfolding neg
neg_value nan s a c v = v
neg_value (inf t) s a c v = v
neg_value (fin t m e) s a c v = (ap not v.0, v.1)

pub sub_over : (f : Format) (x y : Float) (s : Bool) (a : ℕ) (t : Bool) (b c : ℕ) → 0 < c → HasValue x s a c → HasValue y t b c → sub f x y ≡ sum f s a (not t) b c
unfolding sub
sub_over f x y s a t b c C v w = add_over f x (neg y) s a (not t) b c C v (neg_value y t b c w)

pub mul_over : (f : Format) (x y : Float) (s : Bool) (a c : ℕ) (t : Bool) (b d : ℕ) → 0 < c → 0 < d → HasValue x s a c → HasValue y t b d → mul f x y ≡ round f (unlike s t) (a * b) (c * d)
unfolding mul
mul_over f nan y s a c t b d C D v w = absurd v
mul_over f (inf u) y s a c t b d C D v w = absurd v
mul_over f (fin u m e) nan s a c t b d C D v w = absurd w
mul_over f (fin u m e) (inf q) s a c t b d C D v w = absurd w
mul_over f (fin u m e) (fin q n g) s a c t b d C D v w =
    (λ i. round f (unlike (v.0 i) (w.0 i)) (m * up e * (n * up g)) (down e * down g))
    ∙ round_same f (unlike s t) (m * up e * (n * up g)) (down e * down g) (a * b) (c * d) (mul-pos (down_pos e) (down_pos g)) (mul-pos C D)
    (mul-mul-mul_comm (m * up e) (n * up g) c d ∙ (λ i. v.1 i * w.1 i) ∙ mul-mul-mul_comm a (down e) b (down g))

-- ---- differences of natural numbers, as `lib.IntN` has them
one_less : (a b : ℕ) → a < b → b - a ≡ suc (b - suc a)
one_less a b h = omega arith

pub minus_is : (a b : ℕ) → minus a b ≡ pos a -ℤ pos b
minus_is a zero = ap (λ (t : Bool). cond t (pos (a - 0)) (negsuc (0 - suc a))) (leb-zero a) ∙ ap pos (sub-zero a ∙ sym (add-zero a))
minus_is a (suc b) = go (leb (suc b) a) (ltb a (suc b)) (leb→le (suc b) a) (ltb→lt a (suc b)) (nleb→lt (suc b) a) (nltb→le a (suc b))
  where
    go : (p q : Bool) → (T p → suc b ≤ a) → (T q → a < suc b) → (T (not p) → a < suc b) → (T (not q) → suc b ≤ a)
        → cond p (pos (a - suc b)) (negsuc (suc b - suc a)) ≡ cond q (negsuc (suc b - suc a)) (pos (a - suc b))
    go true true h k h' k' = absurd (not-le_of_lt (k tt) (h tt))
    go true false h k h' k' = refl
    go false true h k h' k' = refl
    go false false h k h' k' = absurd (not-le_of_lt (h' tt) (k' tt))

pub minus_zero_lem : (n : ℕ) → neg_ℤ (pos n) ≡ minus 0 n
minus_zero_lem n = sym (minus_is 0 n ∙ +ℤ_idl (neg_ℤ (pos n)))

pub minus_suc : (z l : ℕ) → minus z l +ℤ pos 1 ≡ minus (suc z) l
minus_suc z l = +ℤ_one (minus z l) ∙ ap suc_ℤ (minus_is z l) ∙ sym (suc_ℤ-+ℤ (pos z) (neg_ℤ (pos l))) ∙ sym (minus_is (suc z) l)

-- ---- whole numbers up to 2 ^ prec are exact as floats, so what an operation makes of two of them is its whole result, rounded
abbrev pub negative : ℤ → Bool
negative (pos n) = false
negative (negsuc n) = true

pub whole_value : (f : Format) (z : ℤ) → nat_abs z ≤ 2 ^ prec f → HasValue (of_int f z) (negative z) (nat_abs z) 1
unfolding of_int
whole_value f (pos n) h = round_whole f false n h
whole_value f (negsuc n) h = round_whole f true (suc n) h

-- by the tests of `sum` and of `sub_ℕ`
less_at : (f : Format) (a b : ℕ) (p : Bool) → (T p → a < b) → cond p (round f true (b - a) 1) (round f false (a - b) 1) ≡ of_int f (cond p (negsuc (b - suc a)) (pos (a - b)))
unfolding of_int
less_at f a b true h = ap (λ (n : ℕ). round f true n 1) (one_less a b (h tt))
less_at f a b false h = refl

more_at : (f : Format) (a b : ℕ) (p q : Bool) → (T p → a < b) → (T q → b < a) → (T (not p) → b ≤ a) → (T (not q) → a ≤ b)
    → cond p (round f false (b - a) 1) (round f q (a - b) 1) ≡ of_int f (cond q (negsuc (a - suc b)) (pos (b - a)))
unfolding of_int
more_at f a b true true h k h' k' = absurd (not-le_of_lt (h tt) (le_of_lt (k tt)))
more_at f a b true false h k h' k' = refl
more_at f a b false true h k h' k' = ap (λ (n : ℕ). round f true n 1) (one_less b a (k tt))
more_at f a b false false h k h' k' = ap (λ (n : ℕ). round f false n 1) (none (h' tt) (k' tt))
  where
    none : b ≤ a → a ≤ b → a - b ≡ b - a
    none x y = omega arith

whole_sum : (f : Format) (y z : ℤ) → sum f (negative y) (nat_abs y) (negative z) (nat_abs z) 1 ≡ of_int f (y +ℤ z)
unfolding sum of_int
whole_sum f (pos a) (pos b) = refl
whole_sum f (pos a) (negsuc b) = less_at f a (suc b) (ltb a (suc b)) (ltb→lt a (suc b))
whole_sum f (negsuc a) (pos b) = more_at f (suc a) b (ltb (suc a) b) (ltb b (suc a)) (ltb→lt (suc a) b) (ltb→lt b (suc a)) (nltb→le (suc a) b) (nltb→le b (suc a))
whole_sum f (negsuc a) (negsuc b) = ap (λ (n : ℕ). round f true n 1) (suc-add a (suc b) ∙ ap suc (add-suc a b))

whole_less : (f : Format) (y z : ℤ) → sum f (negative y) (nat_abs y) (not (negative z)) (nat_abs z) 1 ≡ of_int f (y -ℤ z)
unfolding sum of_int
whole_less f (pos a) (pos zero) =
    ap (λ (p : Bool). cond p (round f true (0 - a) 1) (round f false (a - 0) 1)) (leb-suc-zero a) ∙ ap (λ (n : ℕ). round f false n 1) (sub-zero a ∙ sym (add-zero a))
whole_less f (negsuc a) (pos zero) = ap (λ (n : ℕ). round f true n 1) (add-zero (suc a)) ∙ ap (λ (z : ℤ). of_int f z) (sym (+ℤ_idr (negsuc a)))
whole_less f y (pos (suc b)) = whole_sum f y (negsuc b)
whole_less f y (negsuc b) = whole_sum f y (pos (suc b))

pub add_ints : (f : Format) (y z : ℤ) → nat_abs y ≤ 2 ^ prec f → nat_abs z ≤ 2 ^ prec f → add f (of_int f y) (of_int f z) ≡ of_int f (y +ℤ z)
add_ints f y z h k =
    add_over f (of_int f y) (of_int f z) (negative y) (nat_abs y) (negative z) (nat_abs z) 1 (zero-lt-suc 0) (whole_value f y h) (whole_value f z k) ∙ whole_sum f y z

pub sub_ints : (f : Format) (y z : ℤ) → nat_abs y ≤ 2 ^ prec f → nat_abs z ≤ 2 ^ prec f → sub f (of_int f y) (of_int f z) ≡ of_int f (y -ℤ z)
sub_ints f y z h k =
    sub_over f (of_int f y) (of_int f z) (negative y) (nat_abs y) (negative z) (nat_abs z) 1 (zero-lt-suc 0) (whole_value f y h) (whole_value f z k) ∙ whole_less f y z

-- the natural numbers among them
pub add_whole : (f : Format) (a b : ℕ) → a + b ≤ 2 ^ prec f → add f (of_int f (pos a)) (of_int f (pos b)) ≡ of_int f (pos (a + b))
add_whole f a b h = add_ints f (pos a) (pos b) (le_trans (le-add_right a b) h) (le_trans (le-add_left b a) h)

pub sub_whole : (f : Format) (a b : ℕ) → a ≤ 2 ^ prec f → b ≤ 2 ^ prec f → sub f (of_int f (pos a)) (of_int f (pos b)) ≡ of_int f (minus a b)
sub_whole f a b h k = sub_ints f (pos a) (pos b) h k ∙ ap (λ (z : ℤ). of_int f z) (sym (minus_is a b))

pub mul_whole : (f : Format) (a b : ℕ) → a ≤ 2 ^ prec f → b ≤ 2 ^ prec f → mul f (of_int f (pos a)) (of_int f (pos b)) ≡ of_int f (pos (a * b))
unfolding of_int
mul_whole f a b h k = mul_over f (of_int f (pos a)) (of_int f (pos b)) false a 1 false b 1 (zero-lt-suc 0) (zero-lt-suc 0) (whole_value f (pos a) h) (whole_value f (pos b) k)

-- a product with an a above 0, since 0 times a number below 0 is -0
below_zero : (f : Format) (n : ℕ) → 0 < n → round f true n 1 ≡ of_int f (neg_ℤ (pos n))
unfolding of_int
below_zero f zero h = absurd (lt_irrefl 0 h)
below_zero f (suc n) h = refl

pub mul_int : (f : Format) (a : ℕ) (z : ℤ) → 0 < a → a ≤ 2 ^ prec f → nat_abs z ≤ 2 ^ prec f → mul f (of_int f (pos a)) (of_int f z) ≡ of_int f (pos a *ℤ z)
mul_int f a (pos b) A h k = mul_whole f a b h k
mul_int f a (negsuc b) A h k =
    mul_over f (of_int f (pos a)) (of_int f (negsuc b)) false a 1 true (suc b) 1 (zero-lt-suc 0) (zero-lt-suc 0) (whole_value f (pos a) h) (whole_value f (negsuc b) k)
    ∙ below_zero f (a * suc b) (mul-pos A (zero-lt-suc b))

-- ---- the odd numbers 2 q + 1 and 2 q - 1
size_neg : (n : ℕ) → nat_abs (neg_ℤ (pos n)) ≡ n
size_neg zero = refl
size_neg (suc n) = refl

size_twice : (q : ℤ) → nat_abs (pos 2 *ℤ q) ≡ 2 * nat_abs q
size_twice (pos n) = refl
size_twice (negsuc n) = size_neg (2 * suc n)

half_bound : (n p : ℕ) → 2 * n ≤ p → n ≤ p
half_bound n p h = omega arith

two_whole : (f : Format) → 2 ≤ 2 ^ prec f
two_whole f = pow_mono (two-le_pos (prec f) (two f))

twice : (f : Format) (q : ℤ) → 2 * nat_abs q ≤ 2 ^ prec f → mul f (of_int f (pos 2)) (of_int f q) ≡ of_int f (pos 2 *ℤ q)
twice f q h = mul_int f 2 q (zero-lt-suc 1) (two_whole f) (half_bound (nat_abs q) (2 ^ prec f) h)

pub twice_and_one : (f : Format) (q : ℤ) → 2 * nat_abs q ≤ 2 ^ prec f → add f (mul f (of_int f (pos 2)) (of_int f q)) (of_int f (pos 1)) ≡ of_int f (pos 2 *ℤ q +ℤ pos 1)
twice_and_one f q h = ap (λ (x : Float). add f x (of_int f (pos 1))) (twice f q h) ∙ add_ints f (pos 2 *ℤ q) (pos 1) (le_trans (le_of_eq (size_twice q)) h) (pow_pos (prec f))

pub twice_less_one : (f : Format) (q : ℤ) → 2 * nat_abs q ≤ 2 ^ prec f → sub f (mul f (of_int f (pos 2)) (of_int f q)) (of_int f (pos 1)) ≡ of_int f (pos 2 *ℤ q -ℤ pos 1)
twice_less_one f q h = ap (λ (x : Float). sub f x (of_int f (pos 1))) (twice f q h) ∙ sub_ints f (pos 2 *ℤ q) (pos 1) (le_trans (le_of_eq (size_twice q)) h) (pow_pos (prec f))

-- ---- zero and one
pub zero_is : (f : Format) → of_bits f 0 ≡ fin false 0 (pos 0)
unfolding of_bits
zero_is binary32 = refl
zero_is binary64 = refl

pub one_is : (f : Format) → of_int f (pos 1) ≡ fin false 1 (pos 0)
unfolding of_int
one_is binary32 = refl
one_is binary64 = refl

-- by its bits, and as a whole number
pub one_whole : 1ᶠ ≡ whole (pos 1)
unfolding of_bits of_int
one_whole = refl

-- -0, which +0 added to it turns into +0
abbrev pub minus_zero : Float → Bool
minus_zero nan = false
minus_zero (inf s) = false
minus_zero (fin false m e) = false
minus_zero (fin true m e) = eqb m 0

pub zero_value : (f : Format) (c : ℕ) → HasValue (of_bits f 0) false 0 c
zero_value f c = subst (λ (x : Float). HasValue x false 0 c) (sym (zero_is f)) (refl, zero-mul c ∙ sym (zero-mul 1))

pub round_own : (f : Format) (s : Bool) (m : ℕ) (e : ℤ) → T (fits f (fin s m e)) → round f s (m * up e) (down e) ≡ fin s m e
round_own f s m e t = round_value f (fin s m e) s (m * up e) (down e) (down_pos e) t (own_value_f s m e)

-- n / d with the sign s, and +0 before it or after it, or -0 after it
zero_sum : (f : Format) (s : Bool) (n d : ℕ) → (T s → 0 < n) → sum f false 0 s n d ≡ round f s n d
unfolding sum
zero_sum f false n d h = ap (λ (z : ℕ). round f false z d) (zero-add n)
zero_sum f true n d h =
    ap (λ (p : Bool). cond p (round f true (n - 0) d) (round f false (0 - n) d)) (is_true (ltb 0 n) (lt→ltb 0 n (h tt))) ∙ ap (λ (z : ℕ). round f true z d) (sub-zero n)

pub sum_zero : (f : Format) (s : Bool) (n d : ℕ) → (T s → 0 < n) → sum f s n false 0 d ≡ round f s n d
unfolding sum
sum_zero f false n d h = ap (λ (z : ℕ). round f false z d) (add-zero n)
sum_zero f true n d h =
    ap (λ (p : Bool). cond p (round f false (0 - n) d) (round f (ltb 0 n) (n - 0) d)) (leb-suc-zero n)
    ∙ ap (λ (p : Bool). round f p (n - 0) d) (is_true (ltb 0 n) (lt→ltb 0 n (h tt)))
    ∙ ap (λ (z : ℕ). round f true z d) (sub-zero n)

pub less_zero : (f : Format) (s : Bool) (n d : ℕ) → sum f s n true 0 d ≡ round f s n d
unfolding sum
less_zero f true n d = ap (λ (z : ℕ). round f true z d) (add-zero n)
less_zero f false n d = ap (λ (p : Bool). cond p (round f true (0 - n) d) (round f false (n - 0) d)) (leb-suc-zero n) ∙ ap (λ (z : ℕ). round f false z d) (sub-zero n)

some : (s : Bool) (m : ℕ) (e : ℤ) → T (not (minus_zero (fin s m e))) → T s → 0 < m * up e
some false m e n t = absurd t
some true zero e n t = absurd n
some true (suc m) e n t = mul-pos (zero-lt-suc m) (up_pos e)

pub zero_add_f : (f : Format) (x : Float) → T (fits f x) → T (not (minus_zero x)) → add f (of_bits f 0) x ≡ x
unfolding add
zero_add_f f nan t n = ap (λ (z : Float). add f z nan) (zero_is f)
zero_add_f f (inf s) t n = ap (λ (z : Float). add f z (inf s)) (zero_is f)
zero_add_f f (fin s m e) t n =
    add_over f (of_bits f 0) (fin s m e) false 0 s (m * up e) (down e) (down_pos e) (zero_value f (down e)) (own_value_f s m e)
    ∙ zero_sum f s (m * up e) (down e) (some s m e n)
    ∙ round_own f s m e t

pub add_zero_f : (f : Format) (x : Float) → T (fits f x) → T (not (minus_zero x)) → add f x (of_bits f 0) ≡ x
unfolding add
add_zero_f f nan t n = refl
add_zero_f f (inf s) t n = ap (λ (z : Float). add f (inf s) z) (zero_is f)
add_zero_f f (fin s m e) t n =
    add_over f (fin s m e) (of_bits f 0) s (m * up e) false 0 (down e) (down_pos e) (own_value_f s m e) (zero_value f (down e))
    ∙ sum_zero f s (m * up e) (down e) (some s m e n)
    ∙ round_own f s m e t

pub sub_zero_f : (f : Format) (x : Float) → T (fits f x) → sub f x (of_bits f 0) ≡ x
unfolding sub
sub_zero_f f nan t = refl
sub_zero_f f (inf s) t = ap (λ (z : Float). sub f (inf s) z) (zero_is f)
sub_zero_f f (fin s m e) t =
    sub_over f (fin s m e) (of_bits f 0) s (m * up e) false 0 (down e) (down_pos e) (own_value_f s m e) (zero_value f (down e))
    ∙ less_zero f s (m * up e) (down e)
    ∙ round_own f s m e t

like : (s : Bool) → unlike s false ≡ s
like true = refl
like false = refl

pub mul_one_f : (f : Format) (x : Float) → T (fits f x) → mul f x (of_int f (pos 1)) ≡ x
unfolding mul
mul_one_f f nan t = refl
mul_one_f f (inf s) t = ap (λ (z : Float). mul f (inf s) z) (one_is f) ∙ ap inf (like s)
mul_one_f f (fin s m e) t =
    ap (λ (z : Float). mul f (fin s m e) z) (one_is f)
    ∙ (λ i. round f (like s i) (mul-one (m * up e) i) (mul-one (down e) i))
    ∙ round_own f s m e t

-- what equals one, however it is written
is_one : (f : Format) (s : Bool) (m : ℕ) (e : ℤ) → eq (fin s m e) (of_int f (pos 1)) ≡ true → HasValue (fin s m e) false 1 1
unfolding eq
is_one f s m e h = go s (subst T (sym (ap (eq (fin s m e)) (sym (one_is f)) ∙ h)) tt)
  where
    go : (s : Bool) → T (eqb (m * up e * 1) (1 * 1 * down e) && (beq s false || eqb (m * up e * 1) 0)) → HasValue (fin s m e) false 1 1
    go false t = (refl, eqb→eq (m * up e * 1) (1 * 1 * down e) (and_l (eqb (m * up e * 1) (1 * 1 * down e)) true t))
    go true t =
        let a : m * up e * 1 ≡ 1 * 1 * down e = eqb→eq (m * up e * 1) (1 * 1 * down e) (and_l (eqb (m * up e * 1) (1 * 1 * down e)) (eqb (m * up e * 1) 0) t) in
        let b : m * up e * 1 ≡ 0 = eqb→eq (m * up e * 1) 0 (and_r (eqb (m * up e * 1) (1 * 1 * down e)) (eqb (m * up e * 1) 0) t) in
        absurd (omega (arith, down_pos e))

unlike_false : (t : Bool) → unlike false t ≡ t
unlike_false true = refl
unlike_false false = refl

pub one_mul_f : (f : Format) (x y : Float) → eq x (of_int f (pos 1)) ≡ true → T (fits f y) → mul f x y ≡ y
unfolding mul eq
one_mul_f f nan y h t = absurd (false≢true h)
one_mul_f f (inf s) y h t = absurd (false≢true (sym (ap (eq (inf s)) (one_is f)) ∙ h))
one_mul_f f (fin s m e) nan h t = refl
one_mul_f f (fin s zero e) (inf u) h t = let v = (is_one f s 0 e h).1 in absurd (omega (arith, down_pos e))
one_mul_f f (fin s (suc m) e) (inf u) h t = ap (λ (b : Bool). cond b nan (inf (unlike s u))) (eqb-suc-zero m) ∙ (λ i. inf (unlike ((is_one f s (suc m) e h).0 i) u)) ∙ ap inf (unlike_false u)
one_mul_f f (fin s m e) (fin u n d) h t =
    mul_over f (fin s m e) (fin u n d) false 1 1 u (n * up d) (down d) (omega arith) (down_pos d) (is_one f s m e h) (own_value_f u n d)
    ∙ (λ i. round f (unlike_false u i) (one-mul (n * up d) i) (one-mul (down d) i))
    ∙ round_own f u n d t

pub div_one_f : (f : Format) (x : Float) → T (fits f x) → div f x (of_int f (pos 1)) ≡ x
unfolding div
div_one_f f nan t = refl
div_one_f f (inf s) t = ap (λ (z : Float). div f (inf s) z) (one_is f) ∙ ap inf (like s)
div_one_f f (fin s m e) t =
    ap (λ (z : Float). div f (fin s m e) z) (one_is f)
    ∙ (λ i. round f (like s i) (mul-one (m * up e) i) (one-mul (down e) i))
    ∙ round_own f s m e t

-- +0 divided by what is above zero, an infinity included
zero_over : (f : Format) (x : Float) → T (above x) → div f (fin false 0 (pos 0)) x ≡ of_bits f 0
unfolding div
zero_over f nan a = absurd a
zero_over f (inf true) a = absurd a
zero_over f (inf false) a = sym (zero_is f)
zero_over f (fin true m e) a = absurd a
zero_over f (fin false zero e) a = absurd a
zero_over f (fin false (suc m) e) a =
    let d = suc m * up e * 1 in
    ap (λ (p : Bool). cond p nan (round f false (0 * down e) d)) (eqb-suc-zero m)
    ∙ ap (λ (n : ℕ). round f false n d) (zero-mul (down e))
    ∙ round_value f (of_bits f 0) false 0 d (mul-pos (mul-pos (zero-lt-suc m) (up_pos e)) (zero-lt-suc 0)) (of_bits-fits f 0) (zero_value f d)

pub zero-div : (f : Format) (x : Float) → T (above x) → div f (of_bits f 0) x ≡ of_bits f 0
zero-div f x a = ap (λ (z : Float). div f z x) (zero_is f) ∙ zero_over f x a
