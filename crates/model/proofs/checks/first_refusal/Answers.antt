use Rattle.std.specs.Prelude.{Result, Ok, Err}
use Rattle.std.specs.Result.{result_and}
use Rattle.std.proofs.Common.{◌≡◌, refl, ◌∙◌}
use Rattle.elementary.specs.Checks.{first_of, check_of}
use Rattle.elementary.specs.declared.Refusal.{Refusal}
use Rattle.model.specs.Checks.{verdict_of, first_refusal}
use Rattle.model.proofs.checks.first_refusal.Goals as goal

is_and : (a b : Result Unit Refusal) → result_and a b ≡ first_refusal a b
unfolding first_refusal first_of verdict_of check_of
is_and (Ok u) (Ok v) = refl
is_and (Ok u) (Err r) = refl
is_and (Err r) b = refl

pub returns : goal.returns
returns c = c.and.ensures ∙ is_and c.args.first c.args.second
