-- What a change of sign does to each operation and comparison, and that the operands of a sum or a product can change places.
-- NaNs, infinities and values that no format holds are included. Assumes nothing.
use Rattle.std.proofs.Common.{◌≡◌, ℕ, zero, suc, ◌+◌, ◌-◌, ◌*◌, ◌^◌, ◌<◌, Bool, true, false, cond, not, ◌||◌, T, eqb, ltb, pos, negsuc, sym, refl, ap, ◌∙◌, subst, ap₂, mul_comm, add_comm, mul-one, arith, ltb-false, ltb-true, ne_eqb, eqb-true}
use Prim.Native.Nat.compare
use native.Mathlib.Nat.{zero-div, zero-mod}
use mathlib.Core.Bool.{beq, not-not}
use borrow.Author.Tests.{eqb-false}
use lib.Ieee.{Float, nan, inf, fin, Format, binary32, binary64, prec, emax, low, up, down, unlike, span, climb, size, odd, units, round, neg, sum, add, sub, mul, div, below, level, lt, eq, le, of_int, is_nan}
use lib.Ieee.Fits.{round_is}
use Rattle.elementary.specs.Float.{finite}

-- of plus sign, and no NaN: of the zeros +0 alone, and +infinity too
abbrev pub nonneg : Float → Bool
nonneg nan = false
nonneg (inf s) = not s
nonneg (fin s m e) = not s

-- ---- two signs
beq_comm : (s t : Bool) → beq s t ≡ beq t s
beq_comm true true = refl
beq_comm true false = refl
beq_comm false true = refl
beq_comm false false = refl

beq_not : (s t : Bool) → beq (not s) t ≡ not (beq s t)
beq_not true true = refl
beq_not true false = refl
beq_not false true = refl
beq_not false false = refl

beq_move : (s t : Bool) → beq s (not t) ≡ beq (not s) t
beq_move true true = refl
beq_move true false = refl
beq_move false true = refl
beq_move false false = refl

-- ---- the order of the operands
module _ (f : Format) (a b c : ℕ) where
  apart : (p q : Bool) → ltb a b ≡ p → ltb b a ≡ q → cond p (round f false (b - a) c) (round f q (a - b) c) ≡ cond q (round f true (a - b) c) (round f false (b - a) c)
  apart true true h k = absurd (omega (arith, ltb-true a b h, ltb-true b a k))
  apart true false h k = refl
  apart false true h k = refl
  apart false false h k = ap (λ (n : ℕ). round f false n c) (omega (arith, ltb-false a b h, ltb-false b a k))

sum_comm : (f : Format) (s : Bool) (a : ℕ) (t : Bool) (b c : ℕ) → sum f s a t b c ≡ sum f t b s a c
unfolding sum
sum_comm f true a true b c = rw (add_comm a b)
sum_comm f false a false b c = rw (add_comm a b)
sum_comm f true a false b c = apart f a b c (ltb a b) (ltb b a) refl refl
sum_comm f false a true b c = sym (apart f b a c (ltb b a) (ltb a b) refl refl)

pub add_comm_f : (f : Format) (x y : Float) → add f x y ≡ add f y x
unfolding add
add_comm_f f nan nan = refl
add_comm_f f nan (inf t) = refl
add_comm_f f nan (fin t n d) = refl
add_comm_f f (inf s) nan = refl
add_comm_f f (inf true) (inf true) = refl
add_comm_f f (inf true) (inf false) = refl
add_comm_f f (inf false) (inf true) = refl
add_comm_f f (inf false) (inf false) = refl
add_comm_f f (inf s) (fin t n d) = refl
add_comm_f f (fin s m e) nan = refl
add_comm_f f (fin s m e) (inf t) = refl
add_comm_f f (fin s m e) (fin t n d) = sum_comm f s (m * up e * down d) t (n * up d * down e) (down e * down d) ∙ ap (sum f t (n * up d * down e) s (m * up e * down d)) (mul_comm (down e) (down d))

pub mul_comm_f : (f : Format) (x y : Float) → mul f x y ≡ mul f y x
unfolding mul
mul_comm_f f nan nan = refl
mul_comm_f f nan (inf t) = refl
mul_comm_f f nan (fin t n d) = refl
mul_comm_f f (inf s) nan = refl
mul_comm_f f (inf s) (inf t) = rw (beq_comm s t)
mul_comm_f f (inf s) (fin t n d) = rw (beq_comm s t)
mul_comm_f f (fin s m e) nan = refl
mul_comm_f f (fin s m e) (inf t) = rw (beq_comm s t)
mul_comm_f f (fin s m e) (fin t n d) = rw (beq_comm s t, mul_comm (m * up e) (n * up d), mul_comm (down e) (down d))

-- ---- `neg` and rounding
pub neg_neg : (x : Float) → neg (neg x) ≡ x
unfolding neg
neg_neg nan = refl
neg_neg (inf s) = rw (not-not s)
neg_neg (fin s m e) = rw (not-not s)

module _ (s : Bool) where
  odd_neg : (d q k l : ℕ) → odd d (not s) q k l ≡ neg (odd d s q k l)
  unfolding odd neg
  odd_neg d zero k l = refl
  odd_neg d (suc q) k l = refl

  units_neg : (f : Format) (q k : ℕ) → units f (not s) q k ≡ neg (units f s q k)
  unfolding units neg
  units_neg f q k = go (ltb (q * 2 ^ k) (2 ^ (low f + suc (emax f))))
    where
      go : (b : Bool) → cond b (odd (suc (prec f)) (not s) q k (low f)) (inf (not s)) ≡ neg (cond b (odd (suc (prec f)) s q k (low f)) (inf s))
      go true = odd_neg (suc (prec f)) q k (low f)
      go false = refl

pub round_neg : (f : Format) (s : Bool) (n d : ℕ) → round f (not s) n d ≡ neg (round f s n d)
round_neg f s n d = rw (round_is f (not s) n d, round_is f s n d) (units_neg s f _ _)

-- with the sign of a product or a quotient
round_unlike : (f : Format) (s t : Bool) (n d : ℕ) → round f (unlike (not s) t) n d ≡ neg (round f (unlike s t) n d)
round_unlike f s t n d = rw (beq_not s t) (round_neg f (unlike s t) n d)

inf_unlike : (b s t : Bool) → cond b nan (inf (unlike (not s) t)) ≡ neg (cond b nan (inf (unlike s t)))
unfolding neg
inf_unlike true s t = refl
inf_unlike false s t = rw (beq_not s t)

-- ---- products and quotients
pub mul_neg_left : (f : Format) (x y : Float) → mul f (neg x) y ≡ neg (mul f x y)
unfolding mul neg
mul_neg_left f nan y = refl
mul_neg_left f (inf s) nan = refl
mul_neg_left f (inf s) (inf t) = inf_unlike false s t
mul_neg_left f (inf s) (fin t n d) = inf_unlike (eqb n 0) s t
mul_neg_left f (fin s m e) nan = refl
mul_neg_left f (fin s m e) (inf t) = inf_unlike (eqb m 0) s t
mul_neg_left f (fin s m e) (fin t n d) = round_unlike f s t (m * up e * (n * up d)) (down e * down d)

pub mul_neg_right : (f : Format) (x y : Float) → mul f x (neg y) ≡ neg (mul f x y)
mul_neg_right f x y = mul_comm_f f x (neg y) ∙ mul_neg_left f y x ∙ ap neg (mul_comm_f f y x)

pub mul_neg_neg : (f : Format) (x y : Float) → mul f (neg x) (neg y) ≡ mul f x y
mul_neg_neg f x y = mul_neg_left f x (neg y) ∙ ap neg (mul_neg_right f x y) ∙ neg_neg (mul f x y)

pub div_neg_left : (f : Format) (x y : Float) → div f (neg x) y ≡ neg (div f x y)
unfolding div neg
div_neg_left f nan y = refl
div_neg_left f (inf s) nan = refl
div_neg_left f (inf s) (inf t) = refl
div_neg_left f (inf s) (fin t n d) = inf_unlike false s t
div_neg_left f (fin s m e) nan = refl
div_neg_left f (fin s m e) (inf t) = rw (beq_not s t)
div_neg_left f (fin s m e) (fin t n d) = go (eqb n 0)
  where
    go : (b : Bool) → cond b (cond (eqb m 0) nan (inf (unlike (not s) t))) (round f (unlike (not s) t) (m * up e * down d) (n * up d * down e))
        ≡ neg (cond b (cond (eqb m 0) nan (inf (unlike s t))) (round f (unlike s t) (m * up e * down d) (n * up d * down e)))
    go true = inf_unlike (eqb m 0) s t
    go false = round_unlike f s t (m * up e * down d) (n * up d * down e)

div_neg_move : (f : Format) (x y : Float) → div f x (neg y) ≡ div f (neg x) y
unfolding div neg
div_neg_move f nan nan = refl
div_neg_move f nan (inf t) = refl
div_neg_move f nan (fin t n d) = refl
div_neg_move f (inf s) nan = refl
div_neg_move f (inf s) (inf t) = refl
div_neg_move f (inf s) (fin t n d) = rw (beq_move s t)
div_neg_move f (fin s m e) nan = refl
div_neg_move f (fin s m e) (inf t) = rw (beq_move s t)
div_neg_move f (fin s m e) (fin t n d) = rw (beq_move s t)

pub div_neg_right : (f : Format) (x y : Float) → div f x (neg y) ≡ neg (div f x y)
div_neg_right f x y = div_neg_move f x y ∙ div_neg_left f x y

-- ---- sums and differences
pub sub_neg : (f : Format) (x y : Float) → sub f x (neg y) ≡ add f x y
unfolding sub
sub_neg f x y = rw (neg_neg y)

pub sub_neg_neg : (f : Format) (x y : Float) → sub f (neg x) (neg y) ≡ sub f y x
unfolding sub
sub_neg_neg f x y = sub_neg f (neg x) y ∙ add_comm_f f (neg x) y

-- Signs that differ are another matter: 1 + -1 and -1 + 1 are both +0.
pub add_neg_like : (f : Format) (x y : Float) → T (nonneg x) → T (nonneg y) → add f (neg x) (neg y) ≡ neg (add f x y)
unfolding add neg
add_neg_like f nan y p q = absurd p
add_neg_like f (inf s) nan p q = absurd q
add_neg_like f (inf true) (inf t) p q = absurd p
add_neg_like f (inf false) (inf true) p q = absurd q
add_neg_like f (inf false) (inf false) p q = refl
add_neg_like f (inf s) (fin t n d) p q = refl
add_neg_like f (fin s m e) nan p q = absurd q
add_neg_like f (fin s m e) (inf t) p q = refl
add_neg_like f (fin true m e) (fin t n d) p q = absurd p
add_neg_like f (fin false m e) (fin true n d) p q = absurd q
add_neg_like f (fin false m e) (fin false n d) p q = round_neg f false (m * up e * down d + n * up d * down e) (down e * down d)

-- an integer below zero
pub of_int_neg : (f : Format) (n : ℕ) → of_int f (negsuc n) ≡ neg (of_int f (pos (suc n)))
unfolding of_int
of_int_neg f n = round_neg f false (suc n) 1

-- ---- comparisons
below_neg : (s : Bool) (a : ℕ) (t : Bool) (b : ℕ) → below (not s) a (not t) b ≡ below t b s a
below_neg true a true b = refl
below_neg true a false b = refl
below_neg false a true b = rw (add_comm a b)
below_neg false a false b = refl

pub lt_neg : (x y : Float) → lt (neg x) (neg y) ≡ lt y x
unfolding lt neg
lt_neg nan nan = refl
lt_neg nan (inf t) = refl
lt_neg nan (fin t n d) = refl
lt_neg (inf s) nan = refl
lt_neg (inf true) (inf true) = refl
lt_neg (inf true) (inf false) = refl
lt_neg (inf false) (inf true) = refl
lt_neg (inf false) (inf false) = refl
lt_neg (inf s) (fin t n d) = refl
lt_neg (fin s m e) nan = refl
lt_neg (fin s m e) (inf t) = rw (not-not t)
lt_neg (fin s m e) (fin t n d) = below_neg s (m * up e * down d) t (n * up d * down e)

beq_neg : (s t : Bool) → beq (not s) (not t) ≡ beq s t
beq_neg s t = beq_move (not s) t ∙ rw (not-not s)

pub eq_neg : (x y : Float) → eq (neg x) (neg y) ≡ eq x y
unfolding eq neg
eq_neg nan y = refl
eq_neg (inf s) nan = refl
eq_neg (inf s) (inf t) = beq_neg s t
eq_neg (inf s) (fin t n d) = refl
eq_neg (fin s m e) nan = refl
eq_neg (fin s m e) (inf t) = refl
eq_neg (fin s m e) (fin t n d) = rw (beq_neg s t)

level_comm : (s : Bool) (a : ℕ) (t : Bool) (b : ℕ) → level s a t b ≡ level t b s a
level_comm s a t b = go (eqb a b) refl
  where
    go : (p : Bool) → eqb a b ≡ p → level s a t b ≡ level t b s a
    go true h = subst (λ (c : ℕ). level s a t c ≡ level t c s a) (eqb-true a b h) (rw (beq_comm s t))
    go false h = rw (h, ne_eqb b a (λ k. eqb-false a b h (sym k)))

pub eq_comm : (x y : Float) → eq x y ≡ eq y x
unfolding eq
eq_comm nan nan = refl
eq_comm nan (inf t) = refl
eq_comm nan (fin t n d) = refl
eq_comm (inf s) nan = refl
eq_comm (inf s) (inf t) = beq_comm s t
eq_comm (inf s) (fin t n d) = refl
eq_comm (fin s m e) nan = refl
eq_comm (fin s m e) (inf t) = refl
eq_comm (fin s m e) (fin t n d) = level_comm s (m * up e * down d) t (n * up d * down e)

pub le_neg : (x y : Float) → le (neg x) (neg y) ≡ le y x
unfolding le
le_neg x y = ap₂ ◌||◌ (lt_neg x y) (eq_neg x y ∙ eq_comm x y)

-- ---- finite values and NaNs
pub finite_neg : (x : Float) → finite (neg x) ≡ finite x
unfolding finite neg
finite_neg nan = refl
finite_neg (inf s) = refl
finite_neg (fin s m e) = refl

pub is_nan_neg : (x : Float) → is_nan (neg x) ≡ is_nan x
unfolding is_nan neg
is_nan_neg nan = refl
is_nan_neg (inf s) = refl
is_nan_neg (fin s m e) = refl

pub add_finite : (f : Format) (x y : Float) → T (finite (add f x y)) → T (finite x) × T (finite y)
unfolding finite add
add_finite f nan y h = absurd h
add_finite f (inf s) nan h = absurd h
add_finite f (inf true) (inf true) h = absurd h
add_finite f (inf true) (inf false) h = absurd h
add_finite f (inf false) (inf true) h = absurd h
add_finite f (inf false) (inf false) h = absurd h
add_finite f (inf s) (fin t n d) h = absurd h
add_finite f (fin s m e) nan h = absurd h
add_finite f (fin s m e) (inf t) h = absurd h
add_finite f (fin s m e) (fin t n d) h = (tt, tt)

pub sub_finite : (f : Format) (x y : Float) → T (finite (sub f x y)) → T (finite x) × T (finite y)
unfolding sub
sub_finite f x y h = rw (finite_neg y) at (add_finite f x (neg y) h)

-- an infinity, or a NaN
no_product : (b s : Bool) → T (finite (cond b nan (inf s))) → ⊥
unfolding finite
no_product true s h = h
no_product false s h = h

pub mul_finite : (f : Format) (x y : Float) → T (finite (mul f x y)) → T (finite x) × T (finite y)
unfolding finite mul
mul_finite f nan y h = absurd h
mul_finite f (inf s) nan h = absurd h
mul_finite f (inf s) (inf t) h = absurd h
mul_finite f (inf s) (fin t n d) h = absurd (no_product (eqb n 0) (unlike s t) h)
mul_finite f (fin s m e) nan h = absurd h
mul_finite f (fin s m e) (inf t) h = absurd (no_product (eqb m 0) (unlike s t) h)
mul_finite f (fin s m e) (fin t n d) h = (tt, tt)

-- ---- no units round to a zero
pub round_zero : (f : Format) (s : Bool) (d : ℕ) → 0 < d → round f s 0 d ≡ fin s 0 (pos 0)
unfolding round size span climb units odd
round_zero f s zero h = absurd (omega arith)
round_zero binary32 s (suc d) h = rw (zero-div (suc d), mul-one (suc d), zero-div (suc d), zero-mod (suc d), compare.zero-suc d)
round_zero binary64 s (suc d) h = rw (zero-div (suc d), mul-one (suc d), zero-div (suc d), zero-mod (suc d), compare.zero-suc d)
