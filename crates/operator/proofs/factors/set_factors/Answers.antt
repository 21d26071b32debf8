-- Both factors, and whether they are finite, of the rows so far. Assumes nothing.
use mathlib.Core.Path.{◌≡◌, refl, sym, ◌∙◌}
use mathlib.Core.List.{List}
use mathlib.Core.Bool.{◌&&◌}
use Prim.Native.Nat.{ℕ}
use native.Mathlib.Omega.{arith}
use lib.ListN.{length}
use lib.Ieee.{Float}
use Rattle.elementary.specs.Float.{finite}
use Rattle.operator.specs.Vectors.{tab, at, every}
use Rattle.operator.specs.Operator.{left_at}
use Rattle.operator.specs.Slices.{right_by, left_over, right_over}
use Rattle.operator.proofs.Loops.{filled_zero, stored, filled_all, at_stored, every_zero, every_suc, every_at}
use Rattle.operator.proofs.Lists.{every_ext}
use Rattle.operator.proofs.Slices.{both_sized_lem, sized_both}
use Rattle.operator.proofs.factors.set_factors.Goals as goal

-- the same test of what is stored
both : (n : ℕ) (f g : ℕ → Float) (l r : List Float) → l ≡ tab n f → r ≡ tab n g → every n (λ i. finite (f i) && finite (g i)) ≡ every n (λ i. finite (at l i) && finite (at r i))
both n f g l r e d = every_ext n _ _ (λ k h. rw (at_stored l n f k e h, at_stored r n g k d h))

pub returns-then-not-both_sized : goal.returns-then-not-both_sized
unfolding left_over right_over
returns-then-not-both_sized c = rw (sym c.both_sized.ensures ∙ c.if-not-both_sized.true) (record { left_after = refl; right_after = refl; value = refl })

pub loop-i-init : goal.loop-i-init
loop-i-init c =
    let s = both_sized_lem _ _ _ (sym c.both_sized.ensures ∙ c.if-not-both_sized.false) in
    (s.0, s.1, filled_zero _ _, filled_zero _ _, every_zero _)

pub loop-i-preserved : goal.loop-i-preserved
unfolding right_by
loop-i-preserved c =
    let i = c.loop-i.invariant in
    let l = c.left_factor-lf.ensures in
    let r = rw (c.past_last.ensures, l) at c.right_factor-rf.ensures in (
      i.0,
      i.1,
      stored _ _ _ _ _ (omega arith) i.2 l,
      stored _ _ _ _ _ (omega arith) i.3 r,
      rw (i.4, c.is_finite.ensures, c.is_finite-in-loop-i.ensures, l, r) (every_suc c.loop-i.i _),
    )

pub returns : goal.returns
unfolding left_over right_over
returns c =
    let k = c.loop-i.i in
    let i = c.loop-i.invariant in
    let a = c.args in
    let o = a.o.now in
    let l : c.loop-i.left ≡ tab (length o) (left_at o) = filled_all _ _ _ k _ (omega arith) (omega arith) i.2 in
    let r : c.loop-i.right ≡ tab (length o) (right_by a.half (length o) o) = filled_all _ _ _ k _ (omega arith) (omega arith) i.3 in
    rw (sized_both (length o) _ _ i.0 i.1) (record { left_after = l; right_after = r; value = i.4 ∙ every_at _ _ _ (omega arith) ∙ both _ _ _ _ _ l r })
