-- A word in hex digits, of which at least sixteen are asked: they are sixteen. Assumes nothing.
use mathlib.Core.Path.{◌≡◌, refl, ap}
use Prim.Native.Nat.{ℕ, ◌-◌, ◌^◌, ◌<◌, ◌≤◌}
use native.Mathlib.Nat.{pow-le-pow_right}
use native.Mathlib.Omega.{arith}
use mathlib.Core.Bool.{Bool, true, false}
use borrow.Author.Tests.{leb-true, leb-false}
use lib.Dec.{leb}
use Rattle.io.specs.Digits.{last_digits, IsDigitCount}

-- a word has not reached the sixteenth power of sixteen
no_more : (n r : ℕ) → n < 2 ^ 64 → IsDigitCount 16 16 n r → r ≤ 16
no_more n r h f = go (leb r 16) (leb-true r 16) (leb-false r 16)
  where
    go : (t : Bool) → (t ≡ true → r ≤ 16) → (t ≡ false → 16 < r) → r ≤ 16
    go true a b = a refl
    go false a b =
        let l : 16 < r = b refl in
        let k : 16 ≤ r - 1 = omega arith in
        let m : 16 ^ 16 ≤ 16 ^ (r - 1) = pow-le-pow_right (omega arith) k in
        absurd (omega (arith, f.2 l))

pub sixteen : (n r : ℕ) → n < 2 ^ 64 → IsDigitCount 16 16 n r → last_digits 16 r n ≡ last_digits 16 16 n
sixteen n r h f = let e : r ≡ 16 = omega (arith, no_more n r h f, f.0) in ap (λ k. last_digits 16 k n) e
