use Rattle.std.specs.Prelude.{Some, None}
use Rattle.std.proofs.Common.{◌≡◌, ℕ, zero, suc, ◌*◌, ◌<◌, Bool, true, false, ◌&&◌, ◌||◌, T, eqb, ltb, sym, refl, ap, ◌∙◌, subst, true≢false, zero-lt-suc, mul-pos, arith, le-ltb, lt-ltb, eq-eqb, eqb-true}
use mathlib.Core.Bool.{beq, false≢true}
use lib.Ieee.{Float, nan, inf, fin, binary64, up, down, level, lt, eq, of_bits}
use lib.Ieee.Fits.{up_pos}
use lib.Ieee.Bits.{is_true}
use Rattle.elementary.specs.Float.{finite, positive, count, hex}
use Rattle.elementary.specs.Reply.{value}
use Rattle.elementary.specs.Elementary.{told, SQRT, sqrt_of}
use Rattle.elementary.proofs.sqrt.Goals as goal

-- a zero compared with a zero
zero-below : (u d : ℕ) → ltb (0 * 1 * d) (0 * u * 1) ≡ false
zero-below u d = le-ltb (0 * 1 * d) (0 * u * 1) (omega arith)

zero-level : (s : Bool) (u d : ℕ) → level s (0 * u * 1) false (0 * 1 * d) ≡ true
zero-level s u d = go s (eqb (0 * u * 1) (0 * 1 * d)) (eqb (0 * u * 1) 0) (eq-eqb (0 * u * 1) (0 * 1 * d) (omega arith)) (eq-eqb (0 * u * 1) 0 (omega arith))
  where
    go : (s a b : Bool) → a ≡ true → b ≡ true → (a && (beq s false || b)) ≡ true
    go true a b p q = cc
    go false a b p q = cc

-- a zero is its own root
zero-root : (x : Float) → eq x (hex 0) ≡ true → told (Some x) ≡ SQRT x
unfolding told SQRT eq of_bits
zero-root nan h = absurd (false≢true h)
zero-root (inf s) h = absurd (false≢true h)
zero-root (fin s zero e) h = refl
zero-root (fin s (suc m) e) h = absurd (none (suc m * up e) (mul-pos (zero-lt-suc m) (up_pos e)) (both (eqb (suc m * up e * 1) (0 * 1 * down e)) (beq s false || eqb (suc m * up e * 1) 0) h))
  where
    both : (a b : Bool) → (a && b) ≡ true → a ≡ true
    both true b h = refl
    both false b h = h

    none : (a : ℕ) → 0 < a → eqb (a * 1) (0 * 1 * down e) ≡ true → ⊥
    none a h k = omega (arith, eqb-true (a * 1) (0 * 1 * down e) k)

-- a positive number has the root of its count
positive-root : (x : Float) → T (positive x) → SQRT x ≡ value (sqrt_of (count binary64 x))
unfolding SQRT positive finite lt of_bits
positive-root nan p = absurd p
positive-root (inf s) p = absurd p
positive-root (fin true m e) p = absurd p
positive-root (fin false zero e) p = absurd (false≢true (sym (zero-below (up e) (down e)) ∙ is_true (ltb (0 * 1 * down e) (0 * up e * 1)) p))
positive-root (fin false (suc m) e) p = refl

-- any other is refused
no-root : (x : Float) → eq x (hex 0) ≡ false → positive x ≡ false → told None ≡ SQRT x
unfolding told SQRT eq positive finite lt of_bits
no-root nan z p = refl
no-root (inf s) z p = refl
no-root (fin s zero e) z p = absurd (true≢false (sym (zero-level s (up e) (down e)) ∙ z))
no-root (fin true (suc m) e) z p = refl
no-root (fin false (suc m) e) z p = absurd (true≢false (sym (lt-ltb (0 * 1 * down e) (suc m * up e * 1) (omega (arith, mul-pos (zero-lt-suc m) (up_pos e)))) ∙ p))

pub returns-then-x : goal.returns-then-x
returns-then-x c = zero-root c.args.x c.if-x.true

pub sqrt_positive-requires : goal.sqrt_positive-requires
sqrt_positive-requires c = subst T (sym c.if-is_positive_finite.true ∙ c.is_positive_finite.ensures) tt

pub returns-then-is_positive_finite : goal.returns-then-is_positive_finite
unfolding told
returns-then-is_positive_finite c =
    let x = c.args.x in
    ap value c.sqrt_positive.ensures ∙ sym (positive-root x (subst T (sym c.if-is_positive_finite.true ∙ c.is_positive_finite.ensures) tt))

pub returns : goal.returns
returns c =
    no-root c.args.x c.if-x.false (sym c.is_positive_finite.ensures ∙ c.if-is_positive_finite.false)
