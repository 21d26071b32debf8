-- A configuration with the drift turned: its checks answer as before, and its beta is the opposite, or a zero both times. Assumes nothing.
use mathlib.Core.Path.{◌≡◌, refl, ap, ◌∙◌}
use Prim.Native.Nat.{zero, suc, ◌<◌}
use native.Mathlib.Nat.{zero-lt-suc}
use mathlib.Core.Bool.{false}
use lib.IntN.{ℤ, pos, negsuc, neg_ℤ, nat_abs}
use lib.Dec.{T}
use lib.Ieee.{Float, fin, binary64, neg, div, of_int}
use Rattle.elementary.specs.Float.{◌⊗◌, ◌⊘◌, whole, finite}
use Rattle.elementary.proofs.Signs.{mul_neg_right, div_neg_left, finite_neg}
use Rattle.elementary.proofs.Zeros.{Zero, zero_of, times_zero}
use Rattle.amounts.specs.Amounts.{billion, to_float, amount_ok}
use Rattle.model.specs.Configuration.{config_limits, turned}
use Rattle.model.specs.Model.{seconds_per_year, model_by, model_from, model_of, model_ok, driftless}
use Rattle.model.specs.declared.GLFTConfig.{GLFTConfig}
use Rattle.amounts.proofs.Signed.{nat_abs_neg, whole_neg}

-- ---- beta of a drift
abbrev pub beta_of : Float → ℤ → Float
beta_of k d = k ⊗ (to_float d ⊘ whole (pos seconds_per_year))

pub beta_neg : (k : Float) (d : ℤ) → 0 < nat_abs d → beta_of k (neg_ℤ d) ≡ neg (beta_of k d)
unfolding to_float
beta_neg k d h =
    let b = whole (pos billion) in
    let y = whole (pos seconds_per_year) in
    rw (whole_neg binary64 d h, div_neg_left binary64 (whole d) b, div_neg_left binary64 (whole d ⊘ b) y, mul_neg_right binary64 k (whole d ⊘ b ⊘ y))

-- none: a zero, where k is finite
none_a_second : to_float (pos 0) ⊘ whole (pos seconds_per_year) ≡ fin false 0 (pos 0)
unfolding to_float div of_int
none_a_second = refl

pub beta_none : (k : Float) → T (finite k) → Zero (beta_of k (pos 0))
beta_none k h = rw none_a_second (times_zero binary64 k h (zero_of false (pos 0)))

-- ---- the checks
finite_turned : (k : Float) (d : ℤ) → finite (beta_of k (neg_ℤ d)) ≡ finite (beta_of k d)
finite_turned k (pos zero) = refl
finite_turned k (pos (suc n)) = ap finite (beta_neg k (pos (suc n)) (zero-lt-suc n)) ∙ finite_neg (beta_of k (pos (suc n)))
finite_turned k (negsuc n) = ap finite (beta_neg k (negsuc n) (zero-lt-suc n)) ∙ finite_neg (beta_of k (negsuc n))

module _ (c : GLFTConfig) where
  pub model_ok_turned : (vol : ℤ) → model_ok (model_of (turned c) vol) ≡ model_ok (model_of c vol)
  unfolding model_ok model_of model_from model_by
  model_ok_turned vol = rw (finite_turned (to_float c.order_intensity_k) c.drift)

  pub limits_turned : config_limits (turned c) ≡ config_limits c
  unfolding config_limits amount_ok
  limits_turned = rw (nat_abs_neg c.drift)

  pub driftless_turned : driftless (turned c) ≡ driftless c
  unfolding driftless
  driftless_turned = rw (nat_abs_neg c.drift)
