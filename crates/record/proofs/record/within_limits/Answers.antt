-- `record::record::within_limits` meets its contract: a stored holding is within twice the limit where the holding is within it. Assumes nothing.
use mathlib.Core.Bool.{and-true}
use lib.ListN.{get_or}
use Rattle.amounts.specs.Amounts.{amount_limit, amount_ok, time_ok}
use Rattle.model.specs.Configuration.{config_limits}
use Rattle.model.specs.Model.{model_limits}
use Rattle.record.specs.Record.{record_of, config_of, record_ok}
use Rattle.record.proofs.Limits.{holding_limit}
use Rattle.record.proofs.record.within_limits.Goals as goal

pub returns : goal.returns
unfolding record_ok record_of config_of model_limits amount_ok time_ok config_limits
returns c = rw (holding_limit (get_or c.args.v 1 0) amount_limit, and-true)
