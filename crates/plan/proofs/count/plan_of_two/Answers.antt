-- Without a drift two rows have the largest sum, and where it passes the diagonal is finite. Assumes nothing.
use Rattle.std.proofs.Common.{sym, ◌∙◌}
use Rattle.plan.proofs.Drift.{two_ahead, two_fail}
use Rattle.plan.proofs.count.plan_of_two.Goals as goal

pub returns-then-is_positive_finite : goal.returns-then-is_positive_finite
returns-then-is_positive_finite c =
    let norm = c.norm_at_first.ensures in
    let p = c.requires in
    rw (c.ahead.ensures, c.plan_for.ensures, norm)
    (two_ahead _ p.0 p.1 p.2 p.3 (rw norm at (sym c.is_positive_finite.ensures ∙ c.if-is_positive_finite.true)))

pub returns : goal.returns
returns c =
    let norm = c.norm_at_first.ensures in
    let p = c.requires in
    two_fail _ p.0 p.1 p.2 p.3 (rw norm at (sym c.is_positive_finite.ensures ∙ c.if-is_positive_finite.false))
