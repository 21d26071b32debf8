use mathlib.Core.Path.{◌≡◌, sym, subst, ◌∙◌}
use lib.Dec.{T}
use mir.Syntax.{w64}
use mir.Val.{to_z, of_z}
use mir.Facts.{to_z-of_z}
use Rattle.elementary.specs.Checks.{verdict, first_of, first_failing}
use Rattle.distances.specs.Reading.{answer_from}
use Rattle.amounts.specs.Amounts.{amount_ok, above0}
use Rattle.lots.specs.Reckoning.{quotes_from, holding_of, lots_if, quotes_of_lots}
use Rattle.amounts.proofs.Limits.{kept}
use Rattle.quote.specs.Quotes.{quotes_by_answer}
use Rattle.lots.proofs.quotes_in.Goals as goal

pub lots_fit-requires : goal.lots_fit-requires
lots_fit-requires c =
    let lot-kept : let l = c.args.config.lot_size in to_z w64 (of_z w64 l) ≡ l = kept c.args.config.lot_size c.struct_told-1.given.1.1.1.1.0.1 in
    let lot-is : above0 c.args.config.lot_size ≡ c.is_positive.result = rw (c.is_positive.ensures, lot-kept) in
    rw lot-kept (subst T (sym (lot-is ∙ c.if-is_positive.true)) tt)

pub returns-then-lots_fit : goal.returns-then-lots_fit
unfolding quotes_of_lots first_failing first_of verdict lots_if quotes_from quotes_by_answer answer_from holding_of
returns-then-lots_fit c =
    let lot-kept : let l = c.args.config.lot_size in to_z w64 (of_z w64 l) ≡ l = kept c.args.config.lot_size c.struct_told-1.given.1.1.1.1.0.1 in
    let lot-is : above0 c.args.config.lot_size ≡ c.is_positive.result = rw (c.is_positive.ensures, lot-kept) in
    let fits-is : let a = c.args in amount_ok (holding_of a.config a.q) ≡ c.lots_fit.result = rw (c.lots_fit.ensures, lot-kept, to_z-of_z c.ranges.q) in
    rw (lot-is, c.if-is_positive.true, fits-is, c.if-lots_fit.true, c.quotes_by.ensures, c.answer_in-answer.ensures, to_z-of_z c.ranges.mid_price, kept c.args.config.min_spread c.struct_told-1.given.1.1.1.1.1.1.0.1, to_z-of_z c.ranges.q)

pub returns-then-is_positive : goal.returns-then-is_positive
unfolding quotes_of_lots first_failing first_of verdict lots_if holding_of
returns-then-is_positive c =
    let lot-kept : let l = c.args.config.lot_size in to_z w64 (of_z w64 l) ≡ l = kept c.args.config.lot_size c.struct_told-1.given.1.1.1.1.0.1 in
    let lot-is : above0 c.args.config.lot_size ≡ c.is_positive.result = rw (c.is_positive.ensures, lot-kept) in
    let fits-is : let a = c.args in amount_ok (holding_of a.config a.q) ≡ c.lots_fit.result = rw (c.lots_fit.ensures, lot-kept, to_z-of_z c.ranges.q) in
    rw (lot-is, c.if-is_positive.true, fits-is, c.if-lots_fit.false)

pub returns : goal.returns
unfolding quotes_of_lots first_failing first_of verdict lots_if
returns c =
    let lot-kept : let l = c.args.config.lot_size in to_z w64 (of_z w64 l) ≡ l = kept c.args.config.lot_size c.struct_told-1.given.1.1.1.1.0.1 in
    let lot-is : above0 c.args.config.lot_size ≡ c.is_positive.result = rw (c.is_positive.ensures, lot-kept) in
    rw (lot-is, c.if-is_positive.false)
