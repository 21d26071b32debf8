-- k and base, the length, the holding. Assumes nothing.
use mathlib.Core.Path.{◌≡◌, sym, ap, ◌∙◌}
use Prim.Native.Nat.{◌/◌}
use native.Mathlib.Omega.{arith}
use mathlib.Core.Bool.{true, ◌&&◌}
use lib.IntN.{ℤ, nat_abs}
use lib.Dec.{leb}
use mir.Facts.{to_z-of_z}
use Rattle.elementary.specs.Float.{positive}
use Rattle.elementary.specs.Checks.{verdict, first_of, first_failing, check_of}
use Rattle.distances.specs.Distances.{length_ok}
use Rattle.distances.proofs.Holdings.{length_range}
use Rattle.distances.proofs.places.check_read.Goals as goal

pub overflow_cast-n : goal.overflow_cast-n
overflow_cast-n c =
    let sized : length_ok c.args.n ≡ true = sym c.length_fits.ensures ∙ c.if-length_fits.true in
    omega (arith, length_range c.args.n sized)

pub returns-then-within : goal.returns-then-within
unfolding first_failing first_of verdict check_of
returns-then-within c =
    let scaled : (positive c.args.scale.k && positive c.args.scale.base) ≡ true = sym c.scale_fits.ensures ∙ c.if-scale_fits.true in
    let sized : length_ok c.args.n ≡ true = sym c.length_fits.ensures ∙ c.if-length_fits.true in
    let held : let a = c.args in leb (nat_abs a.q) (a.n / 2) ≡ c.within.result = sym (c.within.ensures ∙ ap (λ (z : ℤ). leb (nat_abs z) (c.args.n / 2)) (to_z-of_z c.ranges.q)) in
    rw (scaled, sized, held, c.if-within.true)

pub returns-then-length_fits : goal.returns-then-length_fits
unfolding first_failing first_of verdict check_of
returns-then-length_fits c =
    let scaled : (positive c.args.scale.k && positive c.args.scale.base) ≡ true = sym c.scale_fits.ensures ∙ c.if-scale_fits.true in
    let sized : length_ok c.args.n ≡ true = sym c.length_fits.ensures ∙ c.if-length_fits.true in
    let held : let a = c.args in leb (nat_abs a.q) (a.n / 2) ≡ c.within.result = sym (c.within.ensures ∙ ap (λ (z : ℤ). leb (nat_abs z) (c.args.n / 2)) (to_z-of_z c.ranges.q)) in
    rw (scaled, sized, held, c.if-within.false)

pub returns-then-scale_fits : goal.returns-then-scale_fits
unfolding first_failing first_of verdict check_of
returns-then-scale_fits c =
    let scaled : (positive c.args.scale.k && positive c.args.scale.base) ≡ true = sym c.scale_fits.ensures ∙ c.if-scale_fits.true in
    rw (scaled, ← c.length_fits.ensures, c.if-length_fits.false)

pub returns : goal.returns
unfolding first_failing first_of verdict check_of
returns c = rw (← c.scale_fits.ensures, c.if-scale_fits.false)
