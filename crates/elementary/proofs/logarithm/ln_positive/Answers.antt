use Rattle.std.proofs.Common.{◌≡◌, ℕ, ◌+◌, ◌*◌, ◌%◌, ◌^◌, ◌<◌, ◌≤◌, true, false, not, T, ℤ, pos, ◌+ℤ◌, sym, ap, ◌∙◌, subst, le_of_lt, add-one, arith, lit≤}
use lib.Ieee.{Float, binary64, fits, nan_bits, of_bits, minus, lt}
use Rattle.elementary.specs.Float.{count, positive, hex, ½ᶠ, ◌⊗◌}
use Rattle.elementary.specs.Inner.{SplitOf}
use Rattle.elementary.specs.Elementary.{mantissa, exponent, ln_parts, ln_halved, ln_of}
use Rattle.elementary.proofs.Exact.{minus_suc}
use Rattle.elementary.proofs.Bits.{bits_no_nan, units_small}
use Rattle.elementary.proofs.Parts.{mantissa_bits}
use Rattle.elementary.proofs.logarithm.ln_positive.Goals as goal

-- the pattern of f: the exponent of 1 and the digits after the leading one
one-and : (d : ℕ) → 2 ^ 52 ≤ d → d < 2 ^ 53 → 4607182418800017408 + d % 4503599627370496 ≡ 1022 * 2 ^ 52 + d
one-and d a b = omega arith

read : (x : Float) → T (fits binary64 x) → T (positive x) → (d z : ℕ) → SplitOf (count binary64 x) d z → of_bits binary64 (4607182418800017408 + d % 4503599627370496) ≡ mantissa x
read x held p d z s = ap (λ (b : ℕ). of_bits binary64 b) (one-and d s.low s.high ∙ ap (λ (y : ℕ). 1022 * 2 ^ 52 + y) s.leads) ∙ mantissa_bits x held p

pub float_from_bits-f : goal.float_from_bits-f
float_from_bits-f c =
    let s = c.split-s.ensures in
    subst (λ (b : ℕ). T (not (nan_bits binary64 b))) (sym (one-and c.split-s.result.digits s.low s.high))
    (bits_no_nan binary64 c.split-s.result.digits 1022 s.low (le_of_lt s.high) (units_small binary64 c.split-s.result.digits 1022 (le_of_lt s.high) (lit≤ tt)))

pub returns-then-f : goal.returns-then-f
unfolding ln_of ln_halved exponent
returns-then-f c =
    let s = c.split-s in
    let f-is = read c.args.x (subst T (sym c.well_formed.0.1) tt) c.requires s.result.digits s.result.size s.ensures in
    let above : lt (hex 0x3FF8000000000000) (mantissa c.args.x) ≡ true = ap (λ (f : Float). lt (hex 0x3FF8000000000000) f) (sym f-is) ∙ c.if-f.true in
    rw above
    (c.ln_parts.ensures
    ∙ ap (λ (f : Float). ln_parts (f ⊗ ½ᶠ) (minus (s.result.size + 1) 1075)) f-is
    ∙ ap (λ (e : ℤ). ln_parts (mantissa c.args.x ⊗ ½ᶠ) e) (ap (λ (z : ℕ). minus z 1075) (add-one s.result.size) ∙ sym (minus_suc s.result.size 1075) ∙ ap (λ (z : ℕ). minus z 1075 +ℤ pos 1) s.ensures.sized))

pub returns : goal.returns
unfolding ln_of ln_halved exponent
returns c =
    let s = c.split-s in
    let f-is = read c.args.x (subst T (sym c.well_formed.0.1) tt) c.requires s.result.digits s.result.size s.ensures in
    let not_above : lt (hex 0x3FF8000000000000) (mantissa c.args.x) ≡ false = ap (λ (f : Float). lt (hex 0x3FF8000000000000) f) (sym f-is) ∙ c.if-f.false in
    rw not_above
    (c.ln_parts-2.ensures
    ∙ ap (λ (f : Float). ln_parts f (minus s.result.size 1075)) f-is
    ∙ ap (λ (z : ℕ). ln_parts (mantissa c.args.x) (minus z 1075)) s.ensures.sized)
