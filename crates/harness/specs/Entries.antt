-- The numbers of a record of eight words: k, alpha, eta and base are words 0 to 3, the bound is word 4, tau word 5, q word 6, and beta word 7. Definitions only.
use Rattle.std.specs.Prelude.{ℕ, ◌+◌, min, List, Float}
use Rattle.std.specs.Float.{binary64}
use Rattle.std.specs.Float.Ieee.{of_bits}
use Rattle.harness.specs.Words.{word, signed}
use Rattle.harness.specs.declared.entry.Entry.{Entry}

-- the float of the word i places after a place
abbrev pub float_at : List ℕ → ℕ → ℕ → Float
float_at s at i = of_bits binary64 (word s (at + i))

-- a bound that 32 bits do not hold is the largest that they hold
unfoldable pub entry_at : List ℕ → ℕ → Entry
entry_at s at =
    record {
      k = float_at s at 0;
      alpha = float_at s at 8;
      eta = float_at s at 16;
      base = float_at s at 24;
      bound = min (word s (at + 32)) 0xFFFFFFFF;
      tau = float_at s at 40;
      q = signed (word s (at + 48));
      beta = float_at s at 56;
    }
