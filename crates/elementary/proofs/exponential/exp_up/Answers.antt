use Rattle.elementary.specs.Elementary.{exp_by}
use Rattle.elementary.proofs.Exps.{minus_add}
use Rattle.elementary.proofs.exponential.exp_up.Goals as goal

pub returns : goal.returns
unfolding exp_by
returns c = cc (minus_add 1023 c.exp_count-n.result)
