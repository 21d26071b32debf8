-- `sheet::horizon::write_record_plan` meets its contract: the plan is the definition's. Assumes nothing.
use mathlib.Core.Path.{◌≡◌}
use Rattle.amounts.proofs.Limits.{kept}
use Rattle.sheet.specs.Horizon.{plan_of, record_plan}
use Rattle.sheet.proofs.horizon.write_record_plan.Goals as goal

pub returns : goal.returns
unfolding record_plan
returns c =
    let reply : c.first_plan-plan.result ≡ plan_of c.args.r = let r = c.args.r in
    let g = c.struct_told-3-1.given in
    rw (c.config_of.ensures, kept r.mid_price g.0.1, kept r.inventory g.1.0.1, kept r.volatility g.1.1.0.1) at c.first_plan-plan.ensures in
    rw (← reply) (record { value = c.write_plan.ensures.value; line_after = c.write_plan.ensures.line_after })
