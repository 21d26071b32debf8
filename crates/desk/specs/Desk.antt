-- The configuration of a record of thirteen words: risk aversion, k, A, bound, lot size and terminal are words 3 to 8, min spread is word 10, and the drift word 12. Definitions only.
use Rattle.std.specs.Prelude.{ℕ, ◌+◌, min, List}
use Rattle.harness.specs.Words.{word, signed}
use Rattle.model.specs.declared.GLFTConfig.{GLFTConfig}

-- a bound that 32 bits do not hold is the largest that they hold
unfoldable pub config_at : List ℕ → ℕ → GLFTConfig
config_at s at =
    record {
      risk_aversion = signed (word s (at + 24));
      order_intensity_k = signed (word s (at + 32));
      intensity_scale_a = signed (word s (at + 40));
      max_inventory_lots = min (word s (at + 48)) 0xFFFFFFFF;
      lot_size = signed (word s (at + 56));
      terminal_time = word s (at + 64);
      min_spread = signed (word s (at + 80));
      drift = signed (word s (at + 96));
    }
