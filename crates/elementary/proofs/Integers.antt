-- The integers from -b to b: as two tests, and by magnitude. Assumes nothing.
use Rattle.std.proofs.Common.{◌≡◌, ℕ, zero, suc, ◌≤◌, ◌&&◌, leb, ℤ, pos, negsuc, ◌-ℤ◌, neg_ℤ, nat_abs, refl, arith}
use mathlib.Core.Bool.{and-true}
use lib.IntN.{+ℤ_idl}
use lib.Signed.{mag, le_z}
use lib.Dec.{leb-zero, leb-suc-zero, leb-suc-suc}

between : (q : ℤ) (b : ℕ) → (le_z (neg_ℤ (pos b)) q && le_z q (pos b)) ≡ leb (nat_abs q) b
between (pos n) zero = rw leb-zero
between (pos n) (suc b) = refl
between (negsuc n) zero = rw leb-suc-zero
between (negsuc n) (suc b) = rw (leb-suc-suc, and-true)

pub within_is : (q : ℤ) (b : ℕ) → (le_z (pos 0 -ℤ pos b) q && le_z q (pos b)) ≡ leb (nat_abs q) b
within_is q b = rw (+ℤ_idl (neg_ℤ (pos b))) (between q b)

pub minus_mag : (b : ℕ) → mag (pos 0 -ℤ pos b) ≤ b
minus_mag b = rw (+ℤ_idl (neg_ℤ (pos b))) (go b)
  where
    go : (b : ℕ) → mag (neg_ℤ (pos b)) ≤ b
    go zero = omega arith
    go (suc b) = omega arith
