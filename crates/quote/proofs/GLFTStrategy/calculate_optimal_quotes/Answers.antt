use Rattle.std.proofs.Common.{◌≡◌, to_z-of_z}
use Rattle.quote.specs.Quotes.{exact_quotes, wrapped, optimal_quotes}
use Rattle.quote.proofs.GLFTStrategy.calculate_optimal_quotes.Goals as goal

pub returns-in-Quotes : goal.returns-in-Quotes
unfolding optimal_quotes wrapped
returns-in-Quotes c =
    let exact_is : let a = c.args in exact_quotes a.mid_price a.inventory a.config a.volatility a.current_time ≡ c.exact_quotes.result = let r = c.ranges in
    rw (c.exact_quotes.ensures, to_z-of_z r.mid_price, to_z-of_z r.inventory, to_z-of_z r.volatility) in
    rw (exact_is, c.in-Quotes.is)

pub returns-in-OverStepCap : goal.returns-in-OverStepCap
unfolding optimal_quotes wrapped
returns-in-OverStepCap c =
    let exact_is : let a = c.args in exact_quotes a.mid_price a.inventory a.config a.volatility a.current_time ≡ c.exact_quotes.result = let r = c.ranges in
    rw (c.exact_quotes.ensures, to_z-of_z r.mid_price, to_z-of_z r.inventory, to_z-of_z r.volatility) in
    rw (exact_is, c.in-OverStepCap.is)

pub returns-in-Refused : goal.returns-in-Refused
unfolding optimal_quotes wrapped
returns-in-Refused c =
    let exact_is : let a = c.args in exact_quotes a.mid_price a.inventory a.config a.volatility a.current_time ≡ c.exact_quotes.result = let r = c.ranges in
    rw (c.exact_quotes.ensures, to_z-of_z r.mid_price, to_z-of_z r.inventory, to_z-of_z r.volatility) in
    rw (exact_is, c.in-Refused.is)
