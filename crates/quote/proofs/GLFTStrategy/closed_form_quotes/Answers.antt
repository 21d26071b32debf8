use Rattle.std.proofs.Common.{◌≡◌, ◌∙◌, to_z-of_z}
use Rattle.model.specs.Model.{closed_model}
use Rattle.quote.specs.Quotes.{closed_from, closed_answer, closed_by, closed_form_quotes}
use Rattle.model.proofs.Passed.{closed_amounts}
use Rattle.quote.proofs.GLFTStrategy.closed_form_quotes.Goals as goal
use Rattle.elementary.proofs.Results.{handed_on}
use mir.Syntax.{w64}
use mir.Val.{to_z, of_z}
use borrow.Author.Rules.{rules}

pub invariant_of-around : goal.invariant_of-around
invariant_of-around c =
    let model_is : let a = c.args in closed_model a.mid_price a.inventory a.config a.volatility ≡ c.closed_form.result = let r = c.ranges in
    rw (c.closed_form.ensures, to_z-of_z r.mid_price, to_z-of_z r.inventory, to_z-of_z r.volatility) in
    let a = c.args in
    let amounts-ok = closed_amounts a.mid_price a.inventory a.config a.volatility _ _ (model_is ∙ c.in_ok-m.was) in
    let least_is : to_z w64 (of_z w64 a.config.min_spread) ≡ a.config.min_spread = search rules in
    record {
      mid_fits = rw (to_z-of_z c.ranges.mid_price) amounts-ok.0;
      least_fits = rw least_is amounts-ok.1;
    }

pub returns : goal.returns
unfolding closed_form_quotes closed_answer closed_from
returns c =
    let model_is : let a = c.args in closed_model a.mid_price a.inventory a.config a.volatility ≡ c.closed_form.result = let r = c.ranges in
    rw (c.closed_form.ensures, to_z-of_z r.mid_price, to_z-of_z r.inventory, to_z-of_z r.volatility) in
    let least_is : to_z w64 (of_z w64 c.args.config.min_spread) ≡ c.args.config.min_spread = search rules in
    let lots_is : to_z w64 (of_z w64 c.in_ok-m.q) ≡ c.in_ok-m.q = search rules in
    rw (c.closed_of.ensures, c.distances.ensures, model_is, c.in_ok-m.was, to_z-of_z c.ranges.mid_price, least_is, lots_is)

pub returns-in_err-m : goal.returns-in_err-m
unfolding closed_form_quotes closed_answer closed_from closed_by
returns-in_err-m c =
    let model_is : let a = c.args in closed_model a.mid_price a.inventory a.config a.volatility ≡ c.closed_form.result = let r = c.ranges in
    rw (c.closed_form.ensures, to_z-of_z r.mid_price, to_z-of_z r.inventory, to_z-of_z r.volatility) in
    handed_on c.from_residual.result c.in_err-m.field-0.0 c.from_residual.ensures.1 ∙ rw (model_is, c.in_err-m.was)
