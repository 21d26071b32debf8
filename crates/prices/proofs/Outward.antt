-- No price lies inside its reckoned distance: the count is not below it, and a widening moves outward. Assumes nothing.
use Rattle.std.specs.Prelude.{Option, Some, None}
use mathlib.Core.Path.{◌≡◌, refl, sym, ap, subst}
use Prim.Native.Nat.{ℕ, ◌+◌, ◌*◌, ◌/◌}
use native.Mathlib.Omega.{arith}
use mathlib.Core.Bool.{true, and-eq-true_iff}
use lib.IntN.{ℤ, pos, negsuc, neg_ℤ, ◌+ℤ◌, ◌-ℤ◌, ◌*ℤ◌, +ℤ_comm, +ℤ_assoc, +ℤ_invr, +ℤ_idl, +ℤ-neg_ℤ_cancel, neg_ℤ-+ℤ, neg_ℤ-neg_ℤ}
use lib.Dec.{T}
use lib.Ieee.{Float, nan, inf, fin, down}
use Rattle.elementary.specs.Float.{finite}
use Rattle.distances.specs.Distances.{fine}
use Rattle.amounts.specs.Rounding.{billionths, exactly, AtMost}
use Rattle.prices.specs.Prices.{side, half_up, widening, bid_price, ask_price, widened}
use Rattle.prices.specs.Outward.{OnSide, BuiltOutside}
use Rattle.amounts.proofs.Differences.{over, under, add_parts, over_times, under_times, le_parts, parts_le}
use Rattle.amounts.proofs.Least.{rounding_is_right}
use Rattle.prices.proofs.Facing.{built_finite, built_is}

-- ---- n billionths more
further : (x : Float) (z : ℤ) (n : ℕ) → AtMost x z → AtMost x (z +ℤ pos n)
unfolding AtMost
further nan z n h = h
further (inf s) z n h = h
further (fin s m e) z n h =
    let x = exactly s m e in
    let u = z +ℤ pos n in
    let d = down e in
    let moved : over u + under z ≡ over z + n + under u = omega (arith, add_parts z (pos n)) in
    let scaled = ap (λ (k : ℕ). k * d) moved in
    parts_le x (u *ℤ pos d) (omega (arith, le_parts x (z *ℤ pos d) h, over_times z d, under_times z d, over_times u d, under_times u d, scaled))

-- how far a bid lies below the mid, and an ask above it
below_mid : (m u : ℤ) → m -ℤ (m -ℤ u) ≡ u
below_mid m u = rw (neg_ℤ-+ℤ m (neg_ℤ u), neg_ℤ-neg_ℤ u, ← +ℤ_assoc m (neg_ℤ m) u, +ℤ_invr m, +ℤ_idl u)

above_mid : (m u : ℤ) → (m +ℤ u) -ℤ m ≡ u
above_mid m u = rw (+ℤ_comm m u) (+ℤ-neg_ℤ_cancel u m)

-- ---- quotes from finite distances
moved : (least : ℤ) (b a : Option ℤ) → (n : ℕ) × (widening least b a ≡ pos n)
unfolding widening half_up
moved least None a = (0, refl)
moved least (Some b) None = (0, refl)
moved least (Some b) (Some a) = half (least -ℤ (b +ℤ a))
  where
    half : (z : ℤ) → (n : ℕ) × (half_up z ≡ pos n)
    half (pos n) = ((n + 1) / 2, refl)
    half (negsuc n) = (0, refl)

-- a finite distance is at most its count, and n more
counted : (d : Float) (n : ℕ) → finite d ≡ true → AtMost d (billionths d +ℤ pos n)
counted d n f = further d (billionths d) n (rounding_is_right d (subst T (sym f) tt)).0

bid_outside : (mid : ℤ) (n : ℕ) (b : Option Float) → fine b ≡ true → OnSide (λ d p. AtMost d (mid -ℤ p)) b (bid_price mid (pos n) (side b))
unfolding fine side bid_price OnSide
bid_outside mid n (Some d) f = rw (below_mid mid (billionths d +ℤ pos n)) (counted d n f)
bid_outside mid n None f = tt

ask_outside : (mid : ℤ) (n : ℕ) (a : Option Float) → fine a ≡ true → OnSide (λ d p. AtMost d (p -ℤ mid)) a (ask_price mid (pos n) (side a))
unfolding fine side ask_price OnSide
ask_outside mid n (Some d) f = rw (above_mid mid (billionths d +ℤ pos n)) (counted d n f)
ask_outside mid n None f = tt

pub built_outside : BuiltOutside
unfolding widened
built_outside mid least b a q e =
    let f = (and-eq-true_iff (fine b) (fine a)).0 (built_finite mid least b a q e) in
    let w = moved least (side b) (side a) in
    rw (built_is mid least b a q e, w.1) (record { bid = bid_outside mid w.0 b f.0; ask = ask_outside mid w.0 a f.1 })
