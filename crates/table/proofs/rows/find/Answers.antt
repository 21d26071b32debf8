use mathlib.Core.Path.{sym, ◌∙◌}
use Rattle.table.proofs.Looking.{first_all, first_here, first_on, first_none}
use Rattle.table.proofs.rows.find.Goals as goal

pub loop-r-init : goal.loop-r-init
loop-r-init c = first_all _ _

pub returns-then-row_agrees : goal.returns-then-row_agrees
returns-then-row_agrees c = sym (c.loop-r.invariant ∙ first_here _ _ _ c.loop-r-test.true (sym (rw (c.row.ensures.0, c.row.ensures.1) at c.row_agrees.ensures) ∙ c.if-row_agrees.true))

pub loop-r-preserved : goal.loop-r-preserved
loop-r-preserved c = c.loop-r.invariant ∙ first_on _ _ _ c.loop-r-test.true (sym (rw (c.row.ensures.0, c.row.ensures.1) at c.row_agrees.ensures) ∙ c.if-row_agrees.false)

pub returns : goal.returns
returns c = sym (c.loop-r.invariant ∙ first_none _ _ _ c.loop-r-test.false)
