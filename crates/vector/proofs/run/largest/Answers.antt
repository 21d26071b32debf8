use mathlib.Core.Path.{◌≡◌, refl, sym, ap, ◌∙◌}
use Prim.Native.Nat.{ℕ, ◌+◌, ◌*◌, ◌-◌}
use native.Mathlib.Omega.{arith}
use mathlib.Core.Bool.{Bool, true, false, ◌&&◌}
use mathlib.Core.List.{List}
use lib.ListN.{length, take}
use lib.Seq.{take_all}
use lib.Ieee.{Float, binary64, lt}
use Rattle.std.specs.Bool.{then_some}
use Rattle.elementary.specs.Float.{0ᶠ, finite, positive}
use Rattle.operator.specs.Vectors.{at, every, fold, larger}
use Rattle.series.specs.Slices.{Fit}
use Rattle.operator.proofs.Lists.{tab_own}
use Rattle.operator.proofs.Loops.{every_zero, every_suc, every_at, fold_take}
use Rattle.series.proofs.Extremes.{larger_keeps, larger_apart, zero_gathered, zero_zero, positive_all}
use Rattle.vector.proofs.run.largest.Goals as goal

-- two entries more, in the order in which the code asks them
two-more : (a b x y : Bool) → ((a && x) && (b && y)) ≡ (((a && b) && x) && y)
two-more true true x y = refl
two-more true false true y = refl
two-more true false false y = refl
two-more false b x y = refl

-- the largest is finite, and all are above zero, just where every weight is positive
top_is : (w : List Float) → Fit w → (m : Float) (t : Bool) → m ≡ fold larger 0ᶠ w → t ≡ every (length w) (λ i. lt 0ᶠ (at w i))
    → then_some (t && finite m) m ≡ then_some (every (length w) (λ i. positive (at w i))) (fold larger 0ᶠ w)
top_is w f m t em et =
    rw (em, et) (ap (λ (b : Bool). then_some b (fold larger 0ᶠ w)) (ap (λ (l : List Float). every (length w) (λ i. lt 0ᶠ (at w i)) && finite (fold larger 0ᶠ l)) (tab_own (length w) w refl) ∙ positive_all (at w) f (length w)))

pub loop-k-init : goal.loop-k-init
unfolding fold
loop-k-init c = (zero_gathered, zero_gathered, zero_zero, every_zero _)

pub loop-k-preserved : goal.loop-k-preserved
loop-k-preserved c =
    let w = c.args.w.now in
    let k = 2 * c.loop-k.k in
    let i = c.loop-k.invariant in
    let x = c.loop-k.even in
    let y = c.loop-k.odd in
    let ex = c.larger_of-even.ensures in
    let ey = c.larger_of-odd.ensures in
    let two : k + 1 + 1 ≡ 2 * (c.loop-k.k + 1) = omega arith in
    let all : larger (larger (larger x y) (at w k)) (at w (k + 1)) ≡ fold larger 0ᶠ (take (2 * (c.loop-k.k + 1)) w) =
    rw i.2 (sym (fold_take larger 0ᶠ w (k + 1) (omega arith) ∙ ap (λ (z : Float). larger z (at w (k + 1))) (fold_take larger 0ᶠ w k (omega arith))) ∙ ap (λ (m : ℕ). fold larger 0ᶠ (take m w)) two) in
    let flags : ((c.loop-k.first && lt 0ᶠ (at w k)) && (c.loop-k.second && lt 0ᶠ (at w (k + 1)))) ≡ every (2 * (c.loop-k.k + 1)) (λ j. lt 0ᶠ (at w j)) =
    two-more c.loop-k.first c.loop-k.second (lt 0ᶠ (at w k)) (lt 0ᶠ (at w (k + 1)))
    ∙ ap (λ (b : Bool). (b && lt 0ᶠ (at w k)) && lt 0ᶠ (at w (k + 1))) i.3
    ∙ ap (λ (b : Bool). b && lt 0ᶠ (at w (k + 1))) (every_suc k (λ j. lt 0ᶠ (at w j)))
    ∙ every_suc (k + 1) (λ j. lt 0ᶠ (at w j)) ∙ every_at (k + 1 + 1) (2 * (c.loop-k.k + 1)) (λ j. lt 0ᶠ (at w j)) two in (
      rw ex (larger_keeps binary64 x (at w k) i.0 (c.requires k)),
      rw ey (larger_keeps binary64 y (at w (k + 1)) i.1 (c.requires (k + 1))),
      rw (ex, ey) (larger_apart binary64 x y (at w k) (at w (k + 1)) i.0 i.1 (c.requires k) (c.requires (k + 1)) ∙ all),
      flags,
    )

pub returns-then-w-eq1 : goal.returns-then-w-eq1
returns-then-w-eq1 c =
    let w = c.args.w.now in
    let k = 2 * c.loop-k.k in
    let last : length w - 1 ≡ k = omega arith in
    let both : c.larger_of-both.result ≡ fold larger 0ᶠ (take k w) = c.larger_of-both.ensures ∙ c.loop-k.invariant.2 in
    let max : c.larger_of.result ≡ fold larger 0ᶠ w =
    c.larger_of.ensures ∙ rw (both, last) (sym (fold_take larger 0ᶠ w k (omega arith)) ∙ ap (fold larger 0ᶠ) (take_all (k + 1) w (omega arith))) in
    let flags : ((c.loop-k.first && c.loop-k.second) && lt 0ᶠ (at w (length w - 1))) ≡ every (length w) (λ j. lt 0ᶠ (at w j)) =
    rw last (ap (λ (b : Bool). b && lt 0ᶠ (at w k)) c.loop-k.invariant.3 ∙ every_suc k (λ j. lt 0ᶠ (at w j)) ∙ every_at (k + 1) (length w) (λ j. lt 0ᶠ (at w j)) (omega arith)) in
    c.top_of.ensures ∙ top_is w c.requires _ _ max flags

pub returns : goal.returns
returns c =
    let w = c.args.w.now in
    let k = 2 * c.loop-k.k in
    let max : c.larger_of-both.result ≡ fold larger 0ᶠ w = c.larger_of-both.ensures ∙ c.loop-k.invariant.2 ∙ ap (fold larger 0ᶠ) (take_all k w (omega arith)) in
    let flags : (c.loop-k.first && c.loop-k.second) ≡ every (length w) (λ j. lt 0ᶠ (at w j)) = c.loop-k.invariant.3 ∙ every_at k (length w) (λ j. lt 0ᶠ (at w j)) (omega arith) in
    c.top_of-2.ensures ∙ top_is w c.requires _ _ max flags
