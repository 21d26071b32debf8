-- By the verdict of the checks; past them the entry answers from its run. Assumes nothing.
use mathlib.Core.Path.{◌≡◌, sym, ◌∙◌}
use mir.Facts.{to_z-of_z}
use borrow.Author.Tests.{leb-true}
use Rattle.elementary.specs.Checks.{passes, first_failing}
use Rattle.elementary.proofs.Checks.{check_passes, check_refused}
use Rattle.distances.specs.FloatEntry.{entry_checks, entry_if, entry_over, float_entry}
use Rattle.distances.proofs.Checked.{passed}
use Rattle.distances.proofs.float_entry.Goals as goal

pub returns-in-Err : goal.returns-in-Err
unfolding float_entry entry_over entry_if
returns-in-Err c =
    rw (check_refused _ _ (rw (to_z-of_z c.ranges.q) at (sym c.in-Err.is ∙ c.check_entry.ensures))) c.refused_entry.ensures

pub entry_within-requires : goal.entry_within-requires
entry_within-requires c =
    let passes-is : let a = c.args in first_failing (entry_checks a.k a.base a.input a.q) ≡ passes = check_passes _ (rw (to_z-of_z c.ranges.q) at (sym c.in-Ok.is ∙ c.check_entry.ensures)) in
    let p = passed _ _ _ c.args.q passes-is in
    rw (to_z-of_z c.ranges.q) (p.floats, p.bound_is_ok, leb-true _ _ p.held)

pub returns-in-Ok : goal.returns-in-Ok
unfolding float_entry entry_over entry_if
returns-in-Ok c =
    let passes-is : let a = c.args in first_failing (entry_checks a.k a.base a.input a.q) ≡ passes = check_passes _ (rw (to_z-of_z c.ranges.q) at (sym c.in-Ok.is ∙ c.check_entry.ensures)) in
    rw (passes-is, c.entry_within.ensures, to_z-of_z c.ranges.q)
