-- The checks of `exact_quotes`, and the count of the model's floats. Assumes nothing.
use Rattle.std.proofs.Common.{◌≡◌, to_z-of_z}
use Rattle.model.specs.Model.{exact_model}
use Rattle.quote.specs.Horizon.{plan_from, desk_plan}
use Rattle.quote.proofs.horizon.first_plan.Goals as goal
use mir.Syntax.{w64}
use mir.Val.{to_z, of_z}
use borrow.Author.Rules.{rules}

pub returns-in-Ok : goal.returns-in-Ok
unfolding desk_plan plan_from
returns-in-Ok c =
    let model_is : let a = c.args in exact_model a.mid_price a.inventory a.config a.volatility a.current_time ≡ c.exact.result = let r = c.ranges in
    rw (c.exact.ensures, to_z-of_z r.mid_price, to_z-of_z r.inventory, to_z-of_z r.volatility) in
    let lots_is : to_z w64 (of_z w64 c.in-Ok.q) ≡ c.in-Ok.q = search rules in
    rw (c.step_count.ensures, c.run_input.ensures, model_is, c.in-Ok.is, c.seconds_to_terminal-tau.ensures, lots_is)

pub returns-in-Err : goal.returns-in-Err
unfolding desk_plan plan_from
returns-in-Err c =
    let model_is : let a = c.args in exact_model a.mid_price a.inventory a.config a.volatility a.current_time ≡ c.exact.result = let r = c.ranges in
    rw (c.exact.ensures, to_z-of_z r.mid_price, to_z-of_z r.inventory, to_z-of_z r.volatility) in
    rw (model_is, c.in-Err.is)
