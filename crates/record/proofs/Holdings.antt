-- Numbers and holdings as they are stored, and the drift, which is not. Assumes nothing.
use mathlib.Core.Path.{◌≡◌, refl, ap}
use Prim.Native.Nat.{ℕ, suc, ◌-◌, ◌*◌, ◌/◌, ◌%◌}
use native.Mathlib.Omega.{arith}
use mathlib.Core.Bool.{Bool, true, false}
use borrow.Author.Tests.{eq-eqb, ne_eqb, eqb-true, eqb-false}
use lib.IntN.{ℤ, pos, negsuc}
use lib.Dec.{eqb}
use Rattle.record.specs.Record.{◌then◌, group, groups, number, stored, holding_by, holding, config_of}
use Rattle.record.specs.Promises.{BillionRead, HoldingsStored, RecordsDriftless}

-- ---- numbers and holdings
pub billion_read : BillionRead
unfolding number groups group ◌then◌
billion_read = refl

back : (h : ℤ) → holding (stored h) ≡ h
unfolding stored holding holding_by
back (pos n) = rw (eq-eqb (2 * n % 2) 0 (omega arith)) (ap pos (omega arith))
back (negsuc n) = rw (ne_eqb ((2 * suc n - 1) % 2) 0 (λ e. omega arith)) (ap negsuc (omega arith))

forth : (n : ℕ) → stored (holding n) ≡ n
unfolding stored holding holding_by
forth n = go (eqb (n % 2) 0) (eqb-true (n % 2) 0) (eqb-false (n % 2) 0)
  where
    go : (t : Bool) → (t ≡ true → n % 2 ≡ 0) → (t ≡ false → n % 2 ≡ 0 → ⊥) → stored (holding_by t (n / 2)) ≡ n
    go true f g = let h = f refl in omega arith
    go false f g = let h = g refl in omega arith

pub holdings_stored : HoldingsStored
holdings_stored = (back, forth)

-- ---- no drift
pub records_driftless : RecordsDriftless
unfolding config_of
records_driftless r = refl
