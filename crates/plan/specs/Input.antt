-- Document 01, module 3: the checks of what a run is made from. Definitions only.
use Rattle.std.specs.Prelude.{ℕ, Bool, ◌&&◌, List, [], ◌∷◌}
use Rattle.elementary.specs.Float.{finite, positive}
use Rattle.elementary.specs.Elementary.{outside}
use Rattle.plan.specs.Refusals.{configuration}
use Rattle.plan.specs.Plan.{bound_ok}
use Rattle.plan.specs.declared.RunInput.{RunInput}

-- alpha and eta finite and above zero, beta and tau finite
unfoldable pub rates_ok : RunInput → Bool
rates_ok x = positive x.alpha && finite x.beta && positive x.eta && finite x.tau

-- in order: the floats, the bound
abbrev pub input_checks : RunInput → List (Bool × ℕ)
input_checks x = (rates_ok x, outside) ∷ (bound_ok x.bound, configuration) ∷ []
