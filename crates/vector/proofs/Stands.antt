-- All rows stand for themselves; without a drift those up to the centre stand for all: the diagonal turns on the lots alone, long or short. Assumes nothing.
use mathlib.Core.Path.{◌≡◌, refl, sym, ap, ◌∙◌}
use Prim.Native.Nat.{ℕ, suc, ◌+◌}
use native.Mathlib.Omega.{arith}
use mathlib.Core.Bool.{true, false}
use lib.IntN.{pos}
use lib.Ieee.{Float, eq}
use Rattle.elementary.specs.Float.{◌⊕◌, ◌⊗◌, whole, 0ᶠ, 2ᶠ, positive}
use Rattle.operator.specs.Vectors.{tab}
use Rattle.operator.specs.Operator.{diagonal_at, rows}
use Rattle.plan.specs.Plan.{bound_ok}
use Rattle.series.specs.Half.{full_size, full_factors}
use Rattle.vector.specs.Half.{RowsStand}
use Rattle.plan.proofs.Lots.{lots, lots_are, diagonal_is}
use Rattle.series.proofs.Full.{full_tab}
use Rattle.plan.proofs.Drift.{entry_driftless}

pub all_stand : (b : ℕ) (alpha beta eta : Float) → RowsStand false (rows b) b alpha beta eta
unfolding full_size full_factors
all_stand b alpha beta eta = record { sized = refl; diagonals = refl }

module _ (b : ℕ) (alpha beta eta : Float) (ok : bound_ok b ≡ true) (pa : positive alpha ≡ true) (pe : positive eta ≡ true) (z : eq beta 0ᶠ ≡ true) where
  -- opposite rows have as many lots
  opposite_entries : (i j : ℕ) → suc (i + j) ≡ rows b → diagonal_at b alpha beta eta i ≡ diagonal_at b alpha beta eta j
  opposite_entries i j e =
      let same : lots b i ≡ lots b j = lots_are b i ∙ omega arith ∙ sym (lots_are b j) in
      entry_driftless b alpha eta ok pa pe beta z i (omega arith)
      ∙ diagonal_is b alpha eta i ∙ ap (λ (m : ℕ). alpha ⊗ whole (pos m) ⊗ whole (pos m) ⊕ 2ᶠ ⊗ eta) same ∙ sym (diagonal_is b alpha eta j)
      ∙ sym (entry_driftless b alpha eta ok pa pe beta z j (omega arith))

  half_sized : full_size true (b + 1) ≡ rows b
  unfolding full_size
  half_sized = ap rows (omega arith)

  pub half_stands : RowsStand true (b + 1) b alpha beta eta
  half_stands = record {
    sized = half_sized;
    diagonals =
        full_tab true (b + 1) (diagonal_at b alpha beta eta) (diagonal_at b alpha beta eta) (diagonal_at b alpha beta eta) (diagonal_at b alpha beta eta) (omega arith)
        (λ _ i j e. opposite_entries i j (e ∙ half_sized)) (λ i k. refl) (λ i k. refl)
        ∙ ap (λ (k : ℕ). tab k (diagonal_at b alpha beta eta)) half_sized;
  }
