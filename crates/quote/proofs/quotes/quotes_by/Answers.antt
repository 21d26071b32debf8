use Rattle.std.proofs.Common.{◌≡◌, T, sym, ◌∙◌, subst, to_z-of_z}
use Rattle.amounts.specs.Amounts.{amount_ok}
use Rattle.quote.specs.Quotes.{from_if, quotes_by_answer}
use Rattle.quote.proofs.quotes.quotes_by.Goals as goal

pub invariant_of-around : goal.invariant_of-around
invariant_of-around c =
    let mid-is : amount_ok c.args.mid_price ≡ c.amount_fits.result = rw (c.amount_fits.ensures, to_z-of_z c.ranges.mid_price) in
    let least-is : amount_ok c.args.min_spread ≡ c.amount_fits-then-amount_fits.result = rw (c.amount_fits-then-amount_fits.ensures, to_z-of_z c.ranges.min_spread) in
    let r = c.ranges in
    record {
      mid_fits = rw (to_z-of_z r.mid_price) (subst T (sym (mid-is ∙ c.if-amount_fits.true)) tt);
      least_fits = rw (to_z-of_z r.min_spread) (subst T (sym (least-is ∙ c.if-amount_fits-2.true)) tt);
    }

pub returns-then-amount_fits-2 : goal.returns-then-amount_fits-2
unfolding from_if quotes_by_answer
returns-then-amount_fits-2 c =
    let mid-is : amount_ok c.args.mid_price ≡ c.amount_fits.result = rw (c.amount_fits.ensures, to_z-of_z c.ranges.mid_price) in
    let least-is : amount_ok c.args.min_spread ≡ c.amount_fits-then-amount_fits.result = rw (c.amount_fits-then-amount_fits.ensures, to_z-of_z c.ranges.min_spread) in
    let r = c.ranges in
    rw (mid-is, c.if-amount_fits.true, least-is, c.if-amount_fits-2.true, c.from_answer.ensures, to_z-of_z r.mid_price, to_z-of_z r.min_spread)

pub returns-else-amount_fits-2 : goal.returns-else-amount_fits-2
unfolding from_if quotes_by_answer
returns-else-amount_fits-2 c =
    let mid-is : amount_ok c.args.mid_price ≡ c.amount_fits.result = rw (c.amount_fits.ensures, to_z-of_z c.ranges.mid_price) in
    let least-is : amount_ok c.args.min_spread ≡ c.amount_fits-then-amount_fits.result = rw (c.amount_fits-then-amount_fits.ensures, to_z-of_z c.ranges.min_spread) in
    rw (mid-is, c.if-amount_fits.true, least-is, c.if-amount_fits-2.false)

pub returns-else-amount_fits : goal.returns-else-amount_fits
unfolding from_if quotes_by_answer
returns-else-amount_fits c =
    let mid-is : amount_ok c.args.mid_price ≡ c.amount_fits.result = rw (c.amount_fits.ensures, to_z-of_z c.ranges.mid_price) in
    rw (mid-is, c.if-amount_fits.false)
