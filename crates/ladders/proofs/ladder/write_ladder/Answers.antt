use Rattle.std.specs.Prelude.{Ok}
use mathlib.Core.Path.{◌≡◌, ◌∙◌}
use mir.Facts.{to_z-of_z}
use Rattle.model.specs.Model.{check_call}
use Rattle.ladders.proofs.Rungs.{bound_checked, ladder_refused, ladder_small, ladder_written}
use Rattle.ladders.proofs.ladder.write_ladder.Goals as goal
use Rattle.elementary.proofs.Results.{handed_on}

pub rungs_of-requires : goal.rungs_of-requires
rungs_of-requires c =
    let checked : let a = c.args in check_call a.mid_price a.config a.volatility a.current_time ≡ c.check_call.result = let r = c.ranges in rw (c.check_call.ensures, to_z-of_z r.mid_price, to_z-of_z r.volatility) in
    let passes : let a = c.args in check_call a.mid_price a.config a.volatility a.current_time ≡ Ok tt = checked ∙ c.in_ok-check_call.was in
    bound_checked c.args.mid_price c.args.config c.args.volatility c.args.current_time passes

pub returns-then-out-rungs_of : goal.returns-then-out-rungs_of
returns-then-out-rungs_of c =
    let checked : let a = c.args in check_call a.mid_price a.config a.volatility a.current_time ≡ c.check_call.result = let r = c.ranges in rw (c.check_call.ensures, to_z-of_z r.mid_price, to_z-of_z r.volatility) in
    let passes : let a = c.args in check_call a.mid_price a.config a.volatility a.current_time ≡ Ok tt = checked ∙ c.in_ok-check_call.was in
    let p = ladder_small _ _ _ _ _ passes (rw (← c.rungs_of.ensures) c.if-out-rungs_of.true) in record { value = p.0; out_after = p.1 }

pub write_rungs-requires : goal.write_rungs-requires
write_rungs-requires c =
    let checked : let a = c.args in check_call a.mid_price a.config a.volatility a.current_time ≡ c.check_call.result = let r = c.ranges in rw (c.check_call.ensures, to_z-of_z r.mid_price, to_z-of_z r.volatility) in
    let passes : let a = c.args in check_call a.mid_price a.config a.volatility a.current_time ≡ Ok tt = checked ∙ c.in_ok-check_call.was in
    record { checked = rw (to_z-of_z c.ranges.mid_price, to_z-of_z c.ranges.volatility) passes; room = rw (← c.rungs_of.ensures) c.if-out-rungs_of.false }

pub returns : goal.returns
returns c =
    let checked : let a = c.args in check_call a.mid_price a.config a.volatility a.current_time ≡ c.check_call.result = let r = c.ranges in rw (c.check_call.ensures, to_z-of_z r.mid_price, to_z-of_z r.volatility) in
    let passes : let a = c.args in check_call a.mid_price a.config a.volatility a.current_time ≡ Ok tt = checked ∙ c.in_ok-check_call.was in
    let o = rw (to_z-of_z c.ranges.mid_price, to_z-of_z c.ranges.volatility) at c.write_rungs.ensures in
    let p = ladder_written _ _ _ _ _ _ _ passes (rw (← c.rungs_of.ensures) c.if-out-rungs_of.false) o.out_after o.value in record { value = p.0; out_after = p.1 }

pub returns-in_err-check_call : goal.returns-in_err-check_call
returns-in_err-check_call c =
    let checked : let a = c.args in check_call a.mid_price a.config a.volatility a.current_time ≡ c.check_call.result = let r = c.ranges in rw (c.check_call.ensures, to_z-of_z r.mid_price, to_z-of_z r.volatility) in
    let p = ladder_refused _ _ _ _ _ _ (checked ∙ c.in_err-check_call.was) in
    record { value = handed_on c.from_residual.result c.in_err-check_call.field-0.0 c.from_residual.ensures.1 ∙ p.0; out_after = p.1 }
