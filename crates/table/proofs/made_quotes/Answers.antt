-- `table::made_quotes` meets its contract: the quotes are those of the vector that is made, and it is kept where there are quotes. Assumes nothing.
use mathlib.Core.Path.{◌≡◌, sym, ◌∙◌}
use mir.Facts.{to_z-of_z}
use Rattle.vector.specs.Values.{value_vector}
use Rattle.distances.specs.Reading.{answer_from}
use Rattle.quote.specs.Quotes.{quotes_by_answer}
use Rattle.table.specs.Table.{kept_in}
use Rattle.table.proofs.Checked.{table_passed}
use Rattle.table.proofs.made_quotes.Goals as goal

pub add_row-requires : goal.add_row-requires
add_row-requires c = (c.requires.0, (table_passed c.args.table.now c.requires.1).within)

pub returns-in-Quotes : goal.returns-in-Quotes
unfolding kept_in answer_from
returns-in-Quotes c =
    let quotes-are : let a = c.args in c.quotes_by-quotes.result ≡ quotes_by_answer a.mid a.least (answer_from (value_vector a.input) a.m.k a.m.base a.q) = rw (c.quotes_by-quotes.ensures, to_z-of_z c.ranges.mid, to_z-of_z c.ranges.least, c.answer_in-answer.ensures, to_z-of_z c.ranges.q, c.value_vector-a.ensures) in
    record { value = sym c.in-Quotes.is ∙ quotes-are; table_after = rw (← c.value_vector-a.ensures) c.add_row.ensures }

pub returns-in-OverStepCap : goal.returns-in-OverStepCap
unfolding kept_in answer_from
returns-in-OverStepCap c =
    let quotes-are : let a = c.args in c.quotes_by-quotes.result ≡ quotes_by_answer a.mid a.least (answer_from (value_vector a.input) a.m.k a.m.base a.q) = rw (c.quotes_by-quotes.ensures, to_z-of_z c.ranges.mid, to_z-of_z c.ranges.least, c.answer_in-answer.ensures, to_z-of_z c.ranges.q, c.value_vector-a.ensures) in
    record { value = quotes-are; table_after = rw c.in-OverStepCap.is }

pub returns-in-Refused : goal.returns-in-Refused
unfolding kept_in answer_from
returns-in-Refused c =
    let quotes-are : let a = c.args in c.quotes_by-quotes.result ≡ quotes_by_answer a.mid a.least (answer_from (value_vector a.input) a.m.k a.m.base a.q) = rw (c.quotes_by-quotes.ensures, to_z-of_z c.ranges.mid, to_z-of_z c.ranges.least, c.answer_in-answer.ensures, to_z-of_z c.ranges.q, c.value_vector-a.ensures) in
    record { value = quotes-are; table_after = rw c.in-Refused.is }
