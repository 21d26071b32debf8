use mathlib.Core.List.{◌∷◌, []}
use Rattle.plan.specs.Refusals.{configuration}
use Rattle.amounts.specs.Refusals.{limits}
use Rattle.model.specs.Configuration.{config_ok}
use Rattle.model.proofs.Joined.{one_told, joined_told}
use Rattle.model.proofs.checks.check_numbers.Goals as goal

pub returns : goal.returns
returns c =
    let a = c.args in
    rw (c.first_refusal.ensures, c.one_check.ensures, c.one_check-2.ensures, c.validate.ensures, one_told a.fit limits, one_told (config_ok a.config) configuration)
    (joined_told ((a.fit, limits) ∷ []) ((config_ok a.config, configuration) ∷ []))
