use mathlib.Core.Path.{◌≡◌}
use Prim.Native.Nat.{ℕ, ◌<◌, ◌≤◌, ◌^◌}
use native.Mathlib.Omega.{arith}
use lib.IntN.{ℤ, pos, nat_abs, ◌+ℤ◌}
use mir.Syntax.{w64}
use mir.Val.{SFits, to_z, of_z}
use mir.Facts.{to_z-of_z, to_z_pos}
use Rattle.distances.specs.Distances.{place}
use Rattle.distances.proofs.Holdings.{at_place, place_most}
use Rattle.distances.proofs.places.place_of.Goals as goal

sum_is : (q b : ℤ) (n : ℕ) → SFits w64 q → b ≡ pos n → n < 2 ^ 32 → nat_abs q ≤ n → to_z w64 (of_z w64 q) +ℤ to_z w64 (of_z w64 b) ≡ pos (place n q)
sum_is q b n f e k h = let g : SFits w64 (pos n) = record { sfits = omega arith } in rw (e, to_z-of_z f, to_z-of_z g) (at_place q n h)

small : (q : ℤ) (n : ℕ) → n < 2 ^ 32 → nat_abs q ≤ n → place n q < 2 ^ 63
small q n k h = omega (arith, place_most q n h)

pub overflow_add-result : goal.overflow_add-result
overflow_add-result c =
    let a = c.args in
    rw (sum_is a.q _ a.bound c.ranges.q c.from.ensures (omega arith) c.requires) (record { sfits = small a.q a.bound (omega arith) c.requires })

pub overflow_cast-result : goal.overflow_cast-result
overflow_cast-result c =
    let a = c.args in
    let s : place a.bound a.q < 2 ^ 63 = small a.q a.bound (omega arith) c.requires in
    rw (sum_is a.q _ a.bound c.ranges.q c.from.ensures (omega arith) c.requires, to_z_pos w64 s) (tt, omega (arith, s))

pub returns : goal.returns
returns c =
    let a = c.args in
    let s : place a.bound a.q < 2 ^ 63 = small a.q a.bound (omega arith) c.requires in
    rw (sum_is a.q _ a.bound c.ranges.q c.from.ensures (omega arith) c.requires, to_z_pos w64 s)
