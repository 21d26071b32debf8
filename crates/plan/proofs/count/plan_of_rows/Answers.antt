-- No offset having moved, every factor is finite, and the norm decides. Assumes nothing.
use Rattle.std.proofs.Common.{◌≡◌, List, length, take, sym, ◌∙◌, true≢false}
use lib.ListN.{length-replicate}
use lib.Ieee.{Float}
use Rattle.elementary.specs.Float.{0ᶠ}
use Rattle.operator.specs.Vectors.{tab, fill}
use Rattle.operator.specs.Operator.{left_at, right_at}
use Rattle.plan.proofs.Room.{blank_part, blank_length, stored_part, stored_length}
use Rattle.operator.specs.Slices.{both_fine}
use Rattle.operator.proofs.Slices.{left_over_lem, right_over_lem, factors_over}
use Rattle.series.proofs.Full.{right_whole}
use Rattle.plan.proofs.Plans.{planned_over}
use Rattle.plan.proofs.Rows.{factors_fine}
use Rattle.plan.proofs.Ahead.{ahead_of_lem}
use Rattle.plan.proofs.count.plan_of_rows.Goals as goal

pub returns-then-set_factors : goal.returns-then-set_factors
returns-then-set_factors c =
    let offsets : List Float = take c.args.n c.zeros-o.result in
    let offsets-n : length offsets ≡ c.args.n = blank_length _ _ c.zeros-o.ensures c.requires.0 in
    let lengths : let n = c.args.n in (length (take n c.zeros-left.result) ≡ length offsets) × (length (take n c.zeros-right.result) ≡ length offsets) = let h = c.requires.0 in
    (blank_length _ _ c.zeros-left.ensures h ∙ sym offsets-n, blank_length _ _ c.zeros-right.ensures h ∙ sym offsets-n) in
    let left_is : let n = c.args.n in c.set_factors.new.left ≡ tab n (left_at (fill n 0ᶠ)) = rw (blank_part _ _ c.zeros-o.ensures c.requires.0, length-replicate c.args.n 0ᶠ) at (left_over_lem _ _ _ lengths.0 lengths.1 _ c.set_factors.ensures.left_after) in
    let right_is : let n = c.args.n in c.set_factors.new.right ≡ tab n (right_at n (fill n 0ᶠ)) = (rw (blank_part _ _ c.zeros-o.ensures c.requires.0, length-replicate c.args.n 0ᶠ) at (right_over_lem _ _ _ lengths.0 lengths.1 _ _ c.set_factors.ensures.right_after)) ∙ right_whole _ _ in
    let d = c.requires.1 in
    rw (c.ahead.ensures, planned_over _ _ _ _ _ _ (stored_length _ _ _ _ left_is ∙ sym d) (stored_length _ _ _ _ right_is ∙ sym d) _ c.plan_over.ensures, d)
    (sym (ahead_of_lem _ _ _ _ (stored_part _ _ _ _ left_is) (stored_part _ _ _ _ right_is)))

pub returns : goal.returns
returns c =
    let offsets : List Float = take c.args.n c.zeros-o.result in
    let offsets-n : length offsets ≡ c.args.n = blank_length _ _ c.zeros-o.ensures c.requires.0 in
    let lengths : let n = c.args.n in (length (take n c.zeros-left.result) ≡ length offsets) × (length (take n c.zeros-right.result) ≡ length offsets) = let h = c.requires.0 in
    (blank_length _ _ c.zeros-left.ensures h ∙ sym offsets-n, blank_length _ _ c.zeros-right.ensures h ∙ sym offsets-n) in
    let left_is : let n = c.args.n in c.set_factors.new.left ≡ tab n (left_at (fill n 0ᶠ)) = rw (blank_part _ _ c.zeros-o.ensures c.requires.0, length-replicate c.args.n 0ᶠ) at (left_over_lem _ _ _ lengths.0 lengths.1 _ c.set_factors.ensures.left_after) in
    let right_is : let n = c.args.n in c.set_factors.new.right ≡ tab n (right_at n (fill n 0ᶠ)) = (rw (blank_part _ _ c.zeros-o.ensures c.requires.0, length-replicate c.args.n 0ᶠ) at (right_over_lem _ _ _ lengths.0 lengths.1 _ _ c.set_factors.ensures.right_after)) ∙ right_whole _ _ in
    let fine : c.set_factors.result ≡ both_fine (length offsets) c.set_factors.new.left c.set_factors.new.right = let n = c.args.n in
    factors_over offsets (take n c.zeros-left.result) (take n c.zeros-right.result) lengths.0 lengths.1 c.set_factors.new.left c.set_factors.new.right _ c.set_factors.ensures.value in
    let n = c.args.n in
    let e = rw (left_is, right_is, offsets-n) at (sym fine ∙ c.if-set_factors.false) in
    absurd (true≢false (sym (factors_fine n) ∙ e))
