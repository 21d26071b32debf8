use Rattle.std.specs.Prelude.{Ok}
use mathlib.Core.Path.{◌≡◌, sym, ap, ◌∙◌}
use Prim.Native.Nat.{ℕ}
use lib.IntN.{ℤ}
use mir.Syntax.{w64}
use mir.Val.{to_z, of_z}
use mir.Facts.{to_z-of_z}
use Rattle.elementary.specs.Checks.{first_failing, check_of}
use Rattle.elementary.proofs.Checks.{check_passes, check_refused}
use Rattle.model.specs.Configuration.{config_checks, config_if, new_config}
use Rattle.model.specs.declared.GLFTConfig.{GLFTConfig}
use Rattle.model.proofs.GLFTConfig.new.Goals as goal
use Rattle.elementary.proofs.Results.{handed_on}

-- the numbers given, each amount through f
abbrev given : (ℤ → ℤ) → ℤ → ℤ → ℤ → ℕ → ℤ → ℕ → ℤ → ℤ → GLFTConfig
given f gamma k a bound lot end least drift = record {
  risk_aversion = f gamma;
  order_intensity_k = f k;
  intensity_scale_a = f a;
  max_inventory_lots = bound;
  lot_size = f lot;
  terminal_time = end;
  min_spread = f least;
  drift = f drift;
}

pub returns : goal.returns
unfolding new_config config_if
returns c =
    let same : given (λ z. to_z w64 (of_z w64 z)) c.args.risk_aversion c.args.order_intensity_k c.args.intensity_scale_a c.args.max_inventory_lots c.args.lot_size c.args.terminal_time c.args.min_spread c.args.drift ≡ given (λ z. z) c.args.risk_aversion c.args.order_intensity_k c.args.intensity_scale_a c.args.max_inventory_lots c.args.lot_size c.args.terminal_time c.args.min_spread c.args.drift = let r = c.ranges in
    rw (to_z-of_z r.risk_aversion, to_z-of_z r.order_intensity_k, to_z-of_z r.intensity_scale_a, to_z-of_z r.lot_size, to_z-of_z r.min_spread, to_z-of_z r.drift) in
    let checked : c.check_numbers.result ≡ check_of (first_failing (config_checks (given (λ z. z) c.args.risk_aversion c.args.order_intensity_k c.args.intensity_scale_a c.args.max_inventory_lots c.args.lot_size c.args.terminal_time c.args.min_spread c.args.drift))) = rw (c.check_numbers.ensures, c.within_limits.ensures) (ap (λ (x : GLFTConfig). check_of (first_failing (config_checks x))) same) in
    rw (check_passes (first_failing (config_checks (given (λ z. z) c.args.risk_aversion c.args.order_intensity_k c.args.intensity_scale_a c.args.max_inventory_lots c.args.lot_size c.args.terminal_time c.args.min_spread c.args.drift))) (sym c.in_ok-check_numbers.was ∙ checked)) (ap Ok same)

pub returns-in_err-check_numbers : goal.returns-in_err-check_numbers
unfolding new_config config_if
returns-in_err-check_numbers c =
    let same : given (λ z. to_z w64 (of_z w64 z)) c.args.risk_aversion c.args.order_intensity_k c.args.intensity_scale_a c.args.max_inventory_lots c.args.lot_size c.args.terminal_time c.args.min_spread c.args.drift ≡ given (λ z. z) c.args.risk_aversion c.args.order_intensity_k c.args.intensity_scale_a c.args.max_inventory_lots c.args.lot_size c.args.terminal_time c.args.min_spread c.args.drift = let r = c.ranges in
    rw (to_z-of_z r.risk_aversion, to_z-of_z r.order_intensity_k, to_z-of_z r.intensity_scale_a, to_z-of_z r.lot_size, to_z-of_z r.min_spread, to_z-of_z r.drift) in
    let checked : c.check_numbers.result ≡ check_of (first_failing (config_checks (given (λ z. z) c.args.risk_aversion c.args.order_intensity_k c.args.intensity_scale_a c.args.max_inventory_lots c.args.lot_size c.args.terminal_time c.args.min_spread c.args.drift))) = rw (c.check_numbers.ensures, c.within_limits.ensures) (ap (λ (x : GLFTConfig). check_of (first_failing (config_checks x))) same) in
    handed_on c.from_residual.result c.in_err-check_numbers.field-0.0 c.from_residual.ensures.1
    ∙ rw (check_refused (first_failing (config_checks (given (λ z. z) c.args.risk_aversion c.args.order_intensity_k c.args.intensity_scale_a c.args.max_inventory_lots c.args.lot_size c.args.terminal_time c.args.min_spread c.args.drift))) _ (sym c.in_err-check_numbers.was ∙ checked))
