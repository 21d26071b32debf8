-- What holds of a bound and of rates that pass. Assumes nothing.
use Rattle.std.proofs.Common.{◌≡◌, ℕ, ◌≤◌, true, false, ◌&&◌, T, leb, sym, subst}
use lib.Ieee.Bits.{is_true}
use mir.Facts.{and_yes, leb_yes}
use Rattle.elementary.specs.Float.{finite, positive}
use Rattle.elementary.specs.Elementary.{outside}
use Rattle.elementary.specs.Checks.{passes, refused, first_failing, here, later, Passes, none, each}
use Rattle.elementary.proofs.Checks.{first_failing_lem, none_failing}
use Rattle.plan.specs.Refusals.{configuration}
use Rattle.plan.specs.Plan.{bound_ok}
use Rattle.plan.specs.Input.{rates_ok, input_checks}
use Rattle.plan.specs.declared.RunInput.{RunInput}

pub bound_range : (b : ℕ) → bound_ok b ≡ true → (1 ≤ b) × (b ≤ 200)
bound_range b e = let t = and_yes (leb 1 b) (leb b 200) (subst T (sym e) tt) in (leb_yes t.0, leb_yes t.1)

pub rates_above : (x : RunInput) → rates_ok x ≡ true → (positive x.alpha ≡ true) × (finite x.beta ≡ true) × (positive x.eta ≡ true)
unfolding rates_ok
rates_above x e =
    let t = and_yes (positive x.alpha && finite x.beta && positive x.eta) (finite x.tau) (subst T (sym e) tt) in
    let u = and_yes (positive x.alpha && finite x.beta) (positive x.eta) t.0 in
    let v = and_yes (positive x.alpha) (finite x.beta) u.0 in
    (is_true (positive x.alpha) v.0, is_true (finite x.beta) v.1, is_true (positive x.eta) u.1)

-- an input whose checks pass
pub input_passes : (x : RunInput) → first_failing (input_checks x) ≡ passes → (rates_ok x ≡ true) × (bound_ok x.bound ≡ true)
input_passes x e = go ((none_failing (input_checks x)).0 e)
  where
    go : Passes (input_checks x) → (rates_ok x ≡ true) × (bound_ok x.bound ≡ true)
    go (each r (each b none)) = (r, b)

pub input_passed : (x : RunInput) → first_failing (input_checks x) ≡ passes → (bound_ok x.bound ≡ true) × (positive x.alpha ≡ true) × (positive x.eta ≡ true)
input_passed x e =
    let (r, b) = input_passes x e in
    let (pa, pb, pe) = rates_above x r in
    (b, pa, pe)

-- and one whose checks fail
pub rates_refused : (x : RunInput) → rates_ok x ≡ false → first_failing (input_checks x) ≡ refused outside
rates_refused x r = (first_failing_lem (input_checks x) outside).1 (here r)

pub bound_refused : (x : RunInput) → rates_ok x ≡ true → bound_ok x.bound ≡ false → first_failing (input_checks x) ≡ refused configuration
bound_refused x r b = (first_failing_lem (input_checks x) configuration).1 (later r (here b))

pub all_passed : (x : RunInput) → rates_ok x ≡ true → bound_ok x.bound ≡ true → first_failing (input_checks x) ≡ passes
all_passed x r b = (none_failing (input_checks x)).1 (each r (each b none))
