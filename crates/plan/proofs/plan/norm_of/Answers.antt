use Rattle.std.proofs.Common.{◌≡◌, ℕ, List, length, sym, ap, ◌∙◌, arith}
use lib.Ieee.{Float}
use Rattle.elementary.specs.Float.{◌⊕◌, ◌⊗◌, 0ᶠ}
use Rattle.operator.specs.Vectors.{tab, at, fold, larger, abs}
use Rattle.plan.specs.Plan.{magnitudes, norm}
use Rattle.operator.proofs.Loops.{fold_zero, fold_suc, fold_at}
use Rattle.operator.proofs.Lists.{at_tab, tab_ext}
use Rattle.plan.proofs.plan.norm_of.Invariants.{row_sum}
use Rattle.plan.proofs.plan.norm_of.Goals as goal

pub loop-i-init : goal.loop-i-init
loop-i-init c = fold_zero _ _ _

pub loop-i-preserved : goal.loop-i-preserved
loop-i-preserved c =
    let i = c.loop-i.i in
    let x = c.args in
    let f = row_sum x.diag_s.now x.eta x.factors.left.now x.factors.right.now in
    c.larger_of-norm.ensures ∙ rw (c.loop-i.invariant, c.magnitude.ensures) (sym (fold_suc larger 0ᶠ i f))

-- the magnitudes as the definition stores them
stored-sizes : (n : ℕ) (d : List Float) (eta : Float) (left right : List Float)
    → fold larger 0ᶠ (tab n (row_sum d eta left right)) ≡ fold larger 0ᶠ (tab n (λ i. at (magnitudes n d) i ⊕ eta ⊗ (at left i ⊕ at right i)))
unfolding magnitudes
stored-sizes n d eta left right = ap (fold larger 0ᶠ) (tab_ext n _ _ (λ i h. rw (at_tab n (λ j. abs (at d j)) i h)))

pub returns : goal.returns
unfolding norm
returns c =
    let x = c.args in
    c.loop-i.invariant ∙ fold_at larger 0ᶠ _ (length x.diag_s.now) _ (omega arith) ∙ stored-sizes (length x.diag_s.now) x.diag_s.now x.eta x.factors.left.now x.factors.right.now
