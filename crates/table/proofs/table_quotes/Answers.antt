-- `table::table_quotes` meets its contract: the table's checks, the model's, and then the model's quotes. Assumes nothing.
use Rattle.std.specs.Prelude.{Ok}
use mathlib.Core.Path.{◌≡◌, sym, ◌∙◌}
use mir.Facts.{to_z-of_z}
use Rattle.elementary.specs.Checks.{first_failing, check_of}
use Rattle.amounts.proofs.Limits.{kept}
use Rattle.model.specs.Model.{exact_model}
use Rattle.table.specs.Table.{table_checks}
use Rattle.table.proofs.Answering.{ready, used_stopped, used_given, used_refused}
use Rattle.table.proofs.table_quotes.Goals as goal
use mir.Syntax.{w64}
use mir.Val.{to_z, of_z}
use borrow.Author.Rules.{rules}

pub returns-in-Err : goal.returns-in-Err
returns-in-Err c =
    let a = c.args in
    let u = used_stopped a.table.now a.mid_price a.inventory a.config a.volatility a.current_time _ (sym c.in-Err.is ∙ c.check_table.ensures) in
    record { value = rw u; table_after = rw u }

pub model_quotes-requires : goal.model_quotes-requires
model_quotes-requires c =
    let passed : Ok tt ≡ check_of (first_failing (table_checks c.args.table.now)) = sym c.in-Ok.is ∙ c.check_table.ensures in
    ready c.args.table.now passed

pub returns-in-Ok-exact : goal.returns-in-Ok-exact
returns-in-Ok-exact c =
    let passed : Ok tt ≡ check_of (first_failing (table_checks c.args.table.now)) = sym c.in-Ok.is ∙ c.check_table.ensures in
    let model_is : let a = c.args in c.exact.result ≡ exact_model a.mid_price a.inventory a.config a.volatility a.current_time = rw (to_z-of_z c.ranges.mid_price, to_z-of_z c.ranges.inventory, to_z-of_z c.ranges.volatility) at c.exact.ensures in
    let a = c.args in
    let q = c.model_quotes.ensures in
    let lots_is : to_z w64 (of_z w64 c.in-Ok-exact.q) ≡ c.in-Ok-exact.q = search rules in
    let p = used_given a.table.now a.mid_price a.inventory a.config a.volatility a.current_time passed _ _ (sym model_is ∙ c.in-Ok-exact.is) _ _ _ _
    lots_is (to_z-of_z c.ranges.mid_price) (kept a.config.min_spread c.struct_told-1.given.1.1.1.1.1.1.0.1)
    c.seconds_to_terminal-tau.ensures _ _ q.value q.table_after in record { value = p.0; table_after = p.1 }

pub returns-in-Err-exact : goal.returns-in-Err-exact
returns-in-Err-exact c =
    let passed : Ok tt ≡ check_of (first_failing (table_checks c.args.table.now)) = sym c.in-Ok.is ∙ c.check_table.ensures in
    let model_is : let a = c.args in c.exact.result ≡ exact_model a.mid_price a.inventory a.config a.volatility a.current_time = rw (to_z-of_z c.ranges.mid_price, to_z-of_z c.ranges.inventory, to_z-of_z c.ranges.volatility) at c.exact.ensures in
    let a = c.args in
    let u = used_refused a.table.now a.mid_price a.inventory a.config a.volatility a.current_time passed _ (sym model_is ∙ c.in-Err-exact.is) in
    record { value = rw u; table_after = rw u }
