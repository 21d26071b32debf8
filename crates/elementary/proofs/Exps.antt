-- EXP's count N: how far it goes for an argument in the range, and that it changes sign with the argument. Then N as a float, and the power of two. Assumes nothing.
use Rattle.std.proofs.Common.{◌≡◌, ℕ, suc, ◌+◌, ◌-◌, ◌*◌, ◌/◌, ◌^◌, ◌<◌, ◌≤◌, min, true, false, not, T, ℤ, pos, negsuc, ◌+ℤ◌, ◌-ℤ◌, neg_ℤ, sym, refl, ap, ◌∙◌, subst, true≢false, le_trans, lt_of_le_of_lt, add_comm, mul-pos, zero-mul, arith, lit<, lit≤, lt→ltb, pow_pos, ltb-false, ltb-true, le-ltb}
use lib.IntN.{+ℤ_comm, neg_ℤ-+ℤ, +ℤ-neg_ℤ_cancel, -ℤ-+ℤ_cancel}
use lib.Ieee.{Float, nan, inf, fin, Format, binary64, up, down, minus, round, neg, add, sub, mul, lt, le, of_int, of_bits, to_unsigned, to_signed, is_nan}
use lib.Ieee.Fits.{down_pos}
use Rattle.elementary.specs.Float.{◌⊕◌, ◌⊖◌, ◌⊗◌, whole, 0ᶠ, ½ᶠ, finite}
use Rattle.elementary.specs.Elementary.{LOG2E, exp_n}
use Rattle.elementary.proofs.Signs.{nonneg, neg_neg, mul_neg_left, add_neg_like, lt_neg, of_int_neg, round_zero}
use Rattle.elementary.proofs.Order.{le_refl_f, le_trans_f, not_lt→le, lt→le, le_lt_trans, finite_below, round_nonneg, add_nonneg, add_mono, mul_mono, to_unsigned_mono}
use Rattle.elementary.proofs.Exact.{minus_is, minus_zero_lem, sub_whole}

-- ---- a float that is cut below half the unsigned range is cut to the same signed, and its negative to the negative
module _ (h : ℕ) where
  wide : 2 ^ suc h ≡ 2 * 2 ^ h
  wide = omega arith

  lower : (n : ℕ) → min n (2 ^ suc h - 1) < 2 ^ h → min n (2 ^ h - 1) ≡ min n (2 ^ suc h - 1)
  lower n k = omega (arith, wide)

  upper : (n : ℕ) → min n (2 ^ suc h - 1) < 2 ^ h → min n (2 ^ h) ≡ min n (2 ^ suc h - 1)
  upper n k = omega (arith, wide)

  signed_is : (x : Float) → T (nonneg x) → to_unsigned (suc h) x < 2 ^ h → to_signed h x ≡ pos (to_unsigned (suc h) x)
  unfolding to_signed to_unsigned
  signed_is nan p k = absurd p
  signed_is (inf true) p k = absurd p
  signed_is (inf false) p k = absurd (omega (arith, wide, pow_pos h))
  signed_is (fin true m e) p k = absurd p
  signed_is (fin false m e) p k = ap pos (lower (m * up e / down e) k)

  signed_neg : (x : Float) → T (nonneg x) → to_unsigned (suc h) x < 2 ^ h → to_signed h (neg x) ≡ neg_ℤ (pos (to_unsigned (suc h) x))
  unfolding to_signed to_unsigned neg
  signed_neg nan p k = absurd p
  signed_neg (inf true) p k = absurd p
  signed_neg (inf false) p k = absurd (omega (arith, wide, pow_pos h))
  signed_neg (fin true m e) p k = absurd p
  signed_neg (fin false m e) p k = ap (λ (n : ℕ). neg_ℤ (pos n)) (upper (m * up e / down e) k)

-- ---- y plus 0.5, which keeps the order of what has the sign plus
abbrev pub turns : Float → Float
turns x = x ⊗ LOG2E ⊕ ½ᶠ

no_nan : (x : Float) → T (nonneg x) → T (not (is_nan x))
unfolding is_nan
no_nan nan p = absurd p
no_nan (inf s) p = tt
no_nan (fin s m e) p = tt

mul_finite : (f : Format) (x y : Float) → T (nonneg x) → T (finite x) → T (nonneg y) → T (finite y) → T (nonneg (mul f x y))
unfolding mul finite
mul_finite f nan y p t q u = absurd p
mul_finite f (inf s) y p t q u = absurd t
mul_finite f (fin true m e) y p t q u = absurd p
mul_finite f (fin false m e) nan p t q u = absurd q
mul_finite f (fin false m e) (inf s) p t q u = absurd u
mul_finite f (fin false m e) (fin true n d) p t q u = absurd q
mul_finite f (fin false m e) (fin false n d) p t q u = round_nonneg f (m * up e * (n * up d)) (down e * down d)

log_nonneg : T (nonneg LOG2E) × T (finite LOG2E)
unfolding of_bits finite
log_nonneg = (tt, tt)

half_nonneg : T (nonneg ½ᶠ)
unfolding of_bits
half_nonneg = tt

y_nonneg : (x : Float) → T (nonneg x) → T (finite x) → T (nonneg (x ⊗ LOG2E))
y_nonneg x p t = mul_finite binary64 x LOG2E p t log_nonneg.0 log_nonneg.1

turns_nonneg : (x : Float) → T (nonneg x) → T (finite x) → T (nonneg (turns x))
turns_nonneg x p t = add_nonneg binary64 (x ⊗ LOG2E) ½ᶠ (y_nonneg x p t) half_nonneg

turns_mono : (x b : Float) → T (nonneg x) → T (nonneg b) → T (finite b) → T (le x b) → T (le (turns x) (turns b))
turns_mono x b p q t h =
    let u = y_nonneg x p (finite_below x b p h t) in
    let v = y_nonneg b q t in
    add_mono binary64 (x ⊗ LOG2E) (b ⊗ LOG2E) ½ᶠ ½ᶠ u v half_nonneg half_nonneg
    (mul_mono binary64 x b LOG2E LOG2E p q log_nonneg.0 log_nonneg.0 (no_nan (x ⊗ LOG2E) u) (no_nan (b ⊗ LOG2E) v) h (le_refl_f LOG2E log_nonneg.0))
    (le_refl_f ½ᶠ half_nonneg)

-- ---- an x that is not below zero counts as one with the sign plus: -0 as +0
zero_times : (f : Format) (m : ℕ) (e : ℤ) (n : ℕ) (d : ℤ) → m * up e ≡ 0 → mul f (fin true m e) (fin false n d) ≡ fin true 0 (pos 0)
unfolding mul
zero_times f m e n d h =
    ap (λ (a : ℕ). round f true (a * (n * up d)) (down e * down d)) h
    ∙ ap (λ (a : ℕ). round f true a (down e * down d)) (zero-mul (n * up d))
    ∙ round_zero f true (down e * down d) (mul-pos (down_pos e) (down_pos d))

zero_turns : fin true 0 (pos 0) ⊕ ½ᶠ ≡ turns 0ᶠ
unfolding add mul of_bits
zero_turns = refl

-- a bound on x, and with it on N
record Limit (b : Float) (n : ℕ) : Type 0 where
  sign : T (nonneg b)
  number : T (finite b)
  least : T (le 0ᶠ b)
  most : to_unsigned 64 (turns b) ≤ n

module _ {b : Float} {n : ℕ} (l : Limit b n) where
  plus : (x : Float) → lt x 0ᶠ ≡ false → T (le x b) → (y : Float) × (turns x ≡ turns y) × T (nonneg y) × T (le y b)
  unfolding lt le of_bits finite
  plus nan z h = absurd h
  plus (inf true) z h = absurd (true≢false z)
  plus (inf false) z h = absurd (finite_below (inf false) b tt h l.number)
  plus (fin false m e) z h = (fin false m e, refl, tt, h)
  plus (fin true m e) z h =
      (0ᶠ, ap (λ (y : Float). y ⊕ ½ᶠ) (zero_times binary64 m e _ _ (omega (arith, ltb-false 0 (m * up e * 1 + 0 * 1 * down e) z))) ∙ zero_turns, tt, l.least)

  turned : (x : Float) → lt x 0ᶠ ≡ false → T (le x b) → T (nonneg (turns x)) × T (le (turns x) (turns b))
  turned x z h =
      let (y, s, p, k) = plus x z h in
      subst (λ (v : Float). T (nonneg v) × T (le v (turns b))) (sym s) (turns_nonneg y p (finite_below y b p k l.number), turns_mono y b p l.sign l.number k)

  count_most : (x : Float) → lt x 0ᶠ ≡ false → T (le x b) → to_unsigned 64 (turns x) ≤ n
  count_most x z h =
      let (p, k) = turned x z h in
      le_trans (to_unsigned_mono 64 (turns x) (turns b) p (turns_nonneg b l.sign l.number) k) l.most

to_709 : Limit (whole (pos 709)) 1023
unfolding finite le to_unsigned add mul of_int of_bits
to_709 = record { sign = tt; number = tt; least = tt; most = lit≤ tt }

to_708 : Limit (whole (pos 708)) 1022
unfolding finite le to_unsigned add mul of_int of_bits
to_708 = record { sign = tt; number = tt; least = tt; most = lit≤ tt }

-- ---- N from 0 to 709
over : (x : Float) → T (nonneg x) → T (lt (fin true 1 (pos 0)) x)
unfolding lt
over nan p = absurd p
over (inf s) p = p
over (fin true m e) p = absurd p
over (fin false m e) p = lt→ltb 0 (1 * down e + m * up e * 1) (omega (arith, down_pos e))

under : T (lt (turns (whole (pos 709))) (fin false 1 (pos 64)))
unfolding lt add mul of_int of_bits
under = tt

pub not_above : (x : Float) → T (finite x) → lt (whole (pos 709)) x ≡ false → T (le x (whole (pos 709)))
unfolding finite lt of_int
not_above nan t h = absurd t
not_above (inf s) t h = absurd t
not_above (fin false m e) t h = not_lt→le (whole (pos 709)) (fin false m e) to_709.sign tt h
not_above (fin true m e) t h = lt→le (fin true m e) (whole (pos 709)) (lt→ltb 0 (m * up e * 1 + 709 * down e) (omega (arith, down_pos e)))

module _ (x : Float) (z : lt x 0ᶠ ≡ false) (h : T (le x (whole (pos 709)))) where
  pub turns_range : T (lt (fin true 1 (pos 0)) (turns x)) × T (lt (turns x) (fin false 1 (pos 64)))
  turns_range =
      let (p, k) = turned to_709 x z h in
      (over (turns x) p, le_lt_trans (turns x) (turns (whole (pos 709))) (fin false 1 (pos 64)) p (turns_nonneg (whole (pos 709)) to_709.sign to_709.number) tt k under)

  pub count_up : (pos (to_unsigned 64 (turns x)) ≡ exp_n x) × (to_unsigned 64 (turns x) ≤ 1023)
  unfolding exp_n
  count_up =
      let m = count_most to_709 x z h in
      (rw z (sym (signed_is 63 (turns x) (turned to_709 x z h).0 (lt_of_le_of_lt m (lit< tt)))), m)

-- ---- N from -708 to 0
opposite : (x : Float) → lt x 0ᶠ ≡ true → T (nonneg (neg x)) × (lt (neg x) 0ᶠ ≡ false)
unfolding lt neg of_bits
opposite nan n = absurd (true≢false (sym n))
opposite (inf true) n = (tt, refl)
opposite (inf false) n = absurd (true≢false (sym n))
opposite (fin true m e) n = (tt, le-ltb (m * up e * 1) (0 * 1 * down e) (omega arith))
opposite (fin false m e) n = absurd (omega (arith, ltb-true (m * up e * 1) (0 * 1 * down e) n))

turns_neg : (x : Float) → T (nonneg (neg x ⊗ LOG2E)) → x ⊗ LOG2E ⊖ ½ᶠ ≡ neg (turns (neg x))
unfolding sub
turns_neg x p =
    ap (λ (y : Float). y ⊗ LOG2E ⊖ ½ᶠ) (sym (neg_neg x))
    ∙ ap (λ (y : Float). y ⊖ ½ᶠ) (mul_neg_left binary64 (neg x) LOG2E)
    ∙ add_neg_like binary64 (neg x ⊗ LOG2E) ½ᶠ p half_nonneg

at_most : T (le (whole (pos 708)) (whole (pos 709)))
unfolding le of_int
at_most = tt

module _ (x : Float) (z : lt x 0ᶠ ≡ true) (h : lt x (whole (negsuc 707)) ≡ false) where
  neg_most : T (le (neg x) (whole (pos 708)))
  neg_most =
      not_lt→le (whole (pos 708)) (neg x) to_708.sign (opposite x z).0
      (sym (lt_neg (neg x) (whole (pos 708))) ∙ (λ i. lt (neg_neg x i) (sym (of_int_neg binary64 707) i)) ∙ h)

  pub neg_range : (lt (neg x) 0ᶠ ≡ false) × T (le (neg x) (whole (pos 709)))
  neg_range = ((opposite x z).1, le_trans_f (neg x) (whole (pos 708)) (whole (pos 709)) (opposite x z).0 to_708.sign to_709.sign neg_most at_most)

  pub count_down : (n : ℕ) → pos n ≡ exp_n (neg x) → (neg_ℤ (pos n) ≡ exp_n x) × (n ≤ 1022)
  unfolding exp_n
  count_down n e =
      let (p, k) = opposite x z in
      let t = finite_below (neg x) (whole (pos 708)) p neg_most to_708.number in
      let c : pos (to_unsigned 64 (turns (neg x))) ≡ exp_n (neg x) = (count_up (neg x) k neg_range.1).0 in
      let s : to_unsigned 64 (turns (neg x)) ≡ n = cc in
      let m = count_most to_708 (neg x) k neg_most in
      (rw (z, turns_neg x (y_nonneg (neg x) p t), signed_neg 63 (turns (neg x)) (turns_nonneg (neg x) p t) (lt_of_le_of_lt m (lit< tt)), s), rw s at m)

-- ---- -N as a float, and N again from the exponent's field, which has 1023 more
pub whole_neg : (n : ℕ) → n ≤ 2 ^ 53 → 0ᶠ ⊖ whole (pos n) ≡ whole (neg_ℤ (pos n))
unfolding of_int of_bits
whole_neg n h = sub_whole binary64 0 n (lit≤ tt) h ∙ ap (λ (z : ℤ). whole z) (sym (minus_zero_lem n))

pub minus_add : (a n : ℕ) → minus (a + n) a ≡ pos n
minus_add a n = ap (λ (k : ℕ). minus k a) (add_comm a n) ∙ minus_is (n + a) a ∙ +ℤ-neg_ℤ_cancel (pos n) (pos a)

pub minus_sub : (a n : ℕ) → n ≤ a → minus (a - n) a ≡ neg_ℤ (pos n)
minus_sub a n h =
    let d = a - n in
    let s : a ≡ n + d = omega arith in
    ap (λ (k : ℕ). minus d k) s
    ∙ minus_is d (n + d)
    ∙ ap (λ (z : ℤ). pos d +ℤ z) (neg_ℤ-+ℤ (pos n) (pos d))
    ∙ +ℤ_comm (pos d) (neg_ℤ (pos n) -ℤ pos d)
    ∙ -ℤ-+ℤ_cancel (neg_ℤ (pos n)) (pos d)
