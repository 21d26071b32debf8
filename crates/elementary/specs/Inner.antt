-- What the crate's own functions hand each other. No public contract cites this file. Definitions only.
use Rattle.std.specs.Prelude.{◌≡◌, ℕ, ◌+◌, ◌*◌, ◌/◌, ◌^◌, ◌<◌, ◌≤◌}
use Rattle.std.specs.Float.Ieee.{size}

-- the leading 53 binary digits of n, as a number of 53 digits: n may have fewer
abbrev pub leading : ℕ → ℕ
leading n = n * 2 ^ 53 / 2 ^ size n

-- the parts of a number of n units of 2 ^ -1074
pub record SplitOf (n digits z : ℕ) : Type 0 where
  pub leads : digits ≡ leading n
  pub sized : z ≡ size n
  pub low : 2 ^ 52 ≤ digits
  pub high : digits < 2 ^ 53
  pub some : 1 ≤ z
  pub most : z ≤ 2098

-- r is the whole part of n's root, and `rest` is what its square leaves of n
pub record RootOf (n r rest : ℕ) : Type 0 where
  pub square : r * r + rest ≡ n
  pub short : rest ≤ 2 * r
