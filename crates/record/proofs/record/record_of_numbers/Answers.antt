-- `record::record::record_of_numbers` meets its contract: numbers within their limits are a record. Assumes nothing.
use mathlib.Core.Path.{sym, subst, ◌∙◌}
use lib.Dec.{T}
use Rattle.record.specs.Record.{record_if}
use Rattle.record.proofs.record.record_of_numbers.Goals as goal

pub record_of-requires : goal.record_of-requires
record_of-requires c = subst T (sym c.if-within_limits.true ∙ c.within_limits.ensures) tt

pub returns-then-within_limits : goal.returns-then-within_limits
unfolding record_if
returns-then-within_limits c = rw (← c.within_limits.ensures, c.if-within_limits.true, c.record_of.ensures)

pub returns : goal.returns
unfolding record_if
returns c = rw (← c.within_limits.ensures, c.if-within_limits.false)
