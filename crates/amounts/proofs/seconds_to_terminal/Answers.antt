use Rattle.amounts.specs.Amounts.{tau_of}
use Rattle.amounts.proofs.Limits.{thousand_is}
use Rattle.amounts.proofs.seconds_to_terminal.Goals as goal

pub returns : goal.returns
unfolding tau_of
returns c = rw (c.nearest_u64_to_f64.ensures, thousand_is, c.saturating_sub.ensures)
