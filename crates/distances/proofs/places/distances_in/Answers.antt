-- By the answer of the checks. Assumes nothing.
use mathlib.Core.Path.{◌≡◌, sym, ◌∙◌, ap}
use mathlib.Core.List.{map}
use Prim.Native.Nat.{◌/◌}
use native.Mathlib.Omega.{arith}
use mir.Facts.{to_z-of_z}
use Rattle.elementary.proofs.Results.{handed_on}
use Rattle.distances.specs.Distances.{place}
use Rattle.distances.proofs.Readable.{Readable, readable, unreadable}
use Rattle.distances.proofs.places.distances_in.Goals as goal

pub overflow_cast-v : goal.overflow_cast-v
overflow_cast-v g c =
    let a = c.args in
    let passed : Readable a.v.n a.scale.k a.scale.base a.q = readable a.v.n a.scale.k a.scale.base a.q (rw (to_z-of_z c.ranges.q) at (sym c.in_ok-check_read.was ∙ c.check_read.ensures)) in
    omega (arith, passed.half)

pub place_of-requires : goal.place_of-requires
place_of-requires g c =
    let a = c.args in
    let passed : Readable a.v.n a.scale.k a.scale.base a.q = readable a.v.n a.scale.k a.scale.base a.q (rw (to_z-of_z c.ranges.q) at (sym c.in_ok-check_read.was ∙ c.check_read.ensures)) in
    rw (to_z-of_z c.ranges.q) passed.held

pub sides_at-requires : goal.sides_at-requires
sides_at-requires g c =
    let a = c.args in
    let passed : Readable a.v.n a.scale.k a.scale.base a.q = readable a.v.n a.scale.k a.scale.base a.q (rw (to_z-of_z c.ranges.q) at (sym c.in_ok-check_read.was ∙ c.check_read.ensures)) in
    let placed : c.place_of.result ≡ place (a.v.n / 2) a.q = c.place_of.ensures ∙ ap (place (a.v.n / 2)) (to_z-of_z c.ranges.q) in
    rw placed passed.inside

pub returns : goal.returns
returns g c =
    let a = c.args in
    let passed : Readable a.v.n a.scale.k a.scale.base a.q = readable a.v.n a.scale.k a.scale.base a.q (rw (to_z-of_z c.ranges.q) at (sym c.in_ok-check_read.was ∙ c.check_read.ensures)) in
    let placed : c.place_of.result ≡ place (a.v.n / 2) a.q = c.place_of.ensures ∙ ap (place (a.v.n / 2)) (to_z-of_z c.ranges.q) in
    rw (passed.read (map g.T.Number.float a.v.w.now) (map g.T.Number.float a.v.log_offset.now), c.sides_at.ensures, placed)

pub returns-in_err-check_read : goal.returns-in_err-check_read
returns-in_err-check_read g c =
    let a = c.args in
    handed_on c.from_residual.result c.in_err-check_read.field-0.0 c.from_residual.ensures.1
    ∙ sym
    (unreadable a.v.n a.scale.k a.scale.base a.q _ (rw (to_z-of_z c.ranges.q) at (sym c.in_err-check_read.was ∙ c.check_read.ensures)) (map g.T.Number.float a.v.w.now) (map g.T.Number.float a.v.log_offset.now))
