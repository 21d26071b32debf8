use Rattle.std.proofs.Common.{◌≡◌, ◌∙◌, to_z-of_z}
use Rattle.model.specs.Model.{exact_model}
use Rattle.quote.specs.Quotes.{exact_from, exact_answer, exact_by, exact_quotes}
use Rattle.model.proofs.Passed.{exact_amounts}
use Rattle.quote.proofs.GLFTStrategy.exact_quotes.Goals as goal
use mir.Syntax.{w64}
use mir.Val.{to_z, of_z}
use borrow.Author.Rules.{rules}

pub invariant_of-around : goal.invariant_of-around
invariant_of-around c =
    let model_is : let a = c.args in exact_model a.mid_price a.inventory a.config a.volatility a.current_time ≡ c.exact.result = let r = c.ranges in
    rw (c.exact.ensures, to_z-of_z r.mid_price, to_z-of_z r.inventory, to_z-of_z r.volatility) in
    let a = c.args in
    let amounts-ok = exact_amounts a.mid_price a.inventory a.config a.volatility a.current_time _ _ (model_is ∙ c.in-Ok.is) in
    let least_is : to_z w64 (of_z w64 a.config.min_spread) ≡ a.config.min_spread = search rules in
    record {
      mid_fits = rw (to_z-of_z c.ranges.mid_price) amounts-ok.0;
      least_fits = rw least_is amounts-ok.1;
    }

pub returns-in-Ok : goal.returns-in-Ok
unfolding exact_quotes exact_answer exact_from
returns-in-Ok c =
    let model_is : let a = c.args in exact_model a.mid_price a.inventory a.config a.volatility a.current_time ≡ c.exact.result = let r = c.ranges in
    rw (c.exact.ensures, to_z-of_z r.mid_price, to_z-of_z r.inventory, to_z-of_z r.volatility) in
    let least_is : to_z w64 (of_z w64 c.args.config.min_spread) ≡ c.args.config.min_spread = search rules in
    let lots_is : to_z w64 (of_z w64 c.in-Ok.q) ≡ c.in-Ok.q = search rules in
    rw (c.exact_of.ensures, model_is, c.in-Ok.is, c.seconds_to_terminal-tau.ensures, to_z-of_z c.ranges.mid_price, least_is, lots_is)

pub returns-in-Err : goal.returns-in-Err
unfolding exact_quotes exact_answer exact_from exact_by
returns-in-Err c =
    let model_is : let a = c.args in exact_model a.mid_price a.inventory a.config a.volatility a.current_time ≡ c.exact.result = let r = c.ranges in
    rw (c.exact.ensures, to_z-of_z r.mid_price, to_z-of_z r.inventory, to_z-of_z r.volatility) in
    rw (model_is, c.in-Err.is)
