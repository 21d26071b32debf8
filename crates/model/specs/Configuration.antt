-- Document 01, module 4: the configuration with its limits. Definitions only.
use Rattle.std.specs.Prelude.{ℕ, Bool, ◌&&◌, List, ◌∷◌, [], pos, neg_ℤ, ltb, Result, Ok, Err}
use Rattle.std.specs.Int.Signed.{le_z}
use Rattle.elementary.specs.Checks.{Verdict, passes, refused, first_failing, by}
use Rattle.plan.specs.Refusals.{configuration}
use Rattle.plan.specs.Plan.{bound_ok}
use Rattle.amounts.specs.Refusals.{limits}
use Rattle.model.specs.declared.GLFTConfig.{GLFTConfig}
use Rattle.amounts.specs.Amounts.{amount_ok, above0, time_ok}
use Rattle.elementary.specs.declared.Refusal.{Refusal}

-- every amount and the time within their limits, or 2
unfoldable pub config_limits : GLFTConfig → Bool
config_limits c =
    amount_ok c.risk_aversion && amount_ok c.order_intensity_k && amount_ok c.intensity_scale_a && amount_ok c.lot_size
    && amount_ok c.min_spread && amount_ok c.drift && time_ok c.terminal_time

-- risk aversion, k, A and lot size positive, the bound 1 to 200, a terminal time, no negative min spread, or 1
unfoldable pub config_ok : GLFTConfig → Bool
config_ok c =
    above0 c.risk_aversion && above0 c.order_intensity_k && above0 c.intensity_scale_a && above0 c.lot_size
    && bound_ok c.max_inventory_lots && ltb 0 c.terminal_time && le_z (pos 0) c.min_spread

-- ---- the checks, in order: each a test, and the number that refuses where it fails
-- 2 and 1, of a call whose first test is f: are its numbers within their limits
abbrev pub number_checks : Bool → GLFTConfig → List (Bool × ℕ)
number_checks f c = (f, limits) ∷ (config_ok c, configuration) ∷ []

abbrev pub config_checks : GLFTConfig → List (Bool × ℕ)
config_checks c = number_checks (config_limits c) c

unfoldable pub config_if : Verdict → GLFTConfig → Result GLFTConfig Refusal
config_if passes c = Ok c
config_if (refused n) c = Err (by n)

unfoldable pub new_config : GLFTConfig → Result GLFTConfig Refusal
new_config c = config_if (first_failing (config_checks c)) c

-- the same with the drift of the other sign
abbrev pub turned : GLFTConfig → GLFTConfig
turned c =
    record {
      risk_aversion = c.risk_aversion;
      order_intensity_k = c.order_intensity_k;
      intensity_scale_a = c.intensity_scale_a;
      max_inventory_lots = c.max_inventory_lots;
      lot_size = c.lot_size;
      terminal_time = c.terminal_time;
      min_spread = c.min_spread;
      drift = neg_ℤ c.drift;
    }
