-- The rounded sides as the code has them, and the size of a widening. Assumes nothing.
use Rattle.std.specs.Prelude.{Option, Some, None, Result, Ok, Err}
use mathlib.Core.Path.{◌≡◌, refl}
use Prim.Native.Nat.{◌*◌, ◌≤◌}
use native.Mathlib.Omega.{arith}
use mathlib.Core.Bool.{Bool, true, false, ◌&&◌}
use lib.IntN.{ℤ, pos, negsuc, nat_abs, ◌+ℤ◌, ◌-ℤ◌}
use lib.Dec.{T}
use mir.Syntax.{w64}
use mir.Val.{SFits}
use Rattle.amounts.specs.Amounts.{amount_limit, amount_ok}
use Rattle.amounts.proofs.Sizes.{size_add, size_sub, size_fits, amount_size}
use Rattle.prices.specs.Prices.{each, rounded_if, half_up, widening}
use Rattle.prices.specs.Inner.{side_by, side_of}
use Rattle.elementary.specs.declared.Refusal.{Refusal}

-- ---- both sides, by the bid's
unfoldable pub rounded_by : Result (Option ℤ) Refusal → Result (Option ℤ) Refusal → Result (Option ℤ × Option ℤ) Refusal
rounded_by (Ok b) (Ok a) = Ok (b, a)
rounded_by (Ok b) (Err r) = Err r
rounded_by (Err r) a = Err r

with_ask : (b a : Option ℤ) → each amount_ok b ≡ true → rounded_by (Ok b) (side_of a) ≡ rounded_if true (each amount_ok b && each amount_ok a) b a
unfolding side_of side_by rounded_by rounded_if each
with_ask b None h = rw h
with_ask b (Some z) h = go (amount_ok z)
  where
    go : (t : Bool) → rounded_by (Ok b) (side_by t z) ≡ rounded_if true (each amount_ok b && t) b (Some z)
    go true = rw h
    go false = rw h

pub rounded_by_lem : (b a : Option ℤ) → rounded_by (side_of b) (side_of a) ≡ rounded_if true (each amount_ok b && each amount_ok a) b a
unfolding side_of side_by rounded_by rounded_if each
rounded_by_lem None a = with_ask None a refl
rounded_by_lem (Some z) a = go (amount_ok z) refl
  where
    go : (t : Bool) → amount_ok z ≡ t → rounded_by (side_by t z) (side_of a) ≡ rounded_if true (t && each amount_ok a) (Some z) a
    go true e = rw e at (with_ask (Some z) a e)
    go false e = refl

-- ---- sizes
pub size_half : (z : ℤ) → nat_abs (half_up z) ≤ nat_abs z
unfolding half_up
size_half (pos n) = omega arith
size_half (negsuc n) = omega arith

pub size_widening : (least : ℤ) (b a : Option ℤ) → T (amount_ok least) → T (each amount_ok b) → T (each amount_ok a) → nat_abs (widening least b a) ≤ 3 * amount_limit
unfolding widening each
size_widening least None a l s t = omega arith
size_widening least (Some b) None l s t = omega arith
size_widening least (Some b) (Some a) l s t =
    omega (arith, amount_size least l, amount_size b s, amount_size a t, size_half (least -ℤ (b +ℤ a)), size_sub least (b +ℤ a), size_add b a)

-- ---- a distance within the limit, moved outward by w, and the prices at it
module _ (w : ℤ) (o : Option ℤ) (k : nat_abs w ≤ 3 * amount_limit) (h : T (each amount_ok o)) where
  size_outward : (d : ℤ) → o ≡ Some d → nat_abs (d +ℤ w) ≤ 4 * amount_limit
  unfolding each
  size_outward d e = let t : T (amount_ok d) = rw e at h in omega (arith, amount_size d t, k, size_add d w)

  pub outward_fits : (d : ℤ) → o ≡ Some d → SFits w64 (d +ℤ w)
  outward_fits d e = size_fits (d +ℤ w) (omega (arith, size_outward d e))

  module _ (mid : ℤ) (m : T (amount_ok mid)) where
    pub below_fits : (d : ℤ) → o ≡ Some d → SFits w64 (mid -ℤ (d +ℤ w))
    below_fits d e = size_fits (mid -ℤ (d +ℤ w)) (omega (arith, amount_size mid m, size_outward d e, size_sub mid (d +ℤ w)))

    pub above_fits : (d : ℤ) → o ≡ Some d → SFits w64 (mid +ℤ (d +ℤ w))
    above_fits d e = size_fits (mid +ℤ (d +ℤ w)) (omega (arith, amount_size mid m, size_outward d e, size_add mid (d +ℤ w)))

-- ---- both distances within the limit: their spread, and what it is short of the least
module _ (least b a : ℤ) (p q : Option ℤ) (l : T (amount_ok least)) (s : T (each amount_ok p)) (t : T (each amount_ok q)) (e : p ≡ Some b) (f : q ≡ Some a) where
  size_spread : nat_abs (b +ℤ a) ≤ 2 * amount_limit
  unfolding each
  size_spread =
      let u : T (amount_ok b) = rw e at s in
      let v : T (amount_ok a) = rw f at t in
      omega (arith, amount_size b u, amount_size a v, size_add b a)

  pub size_short : nat_abs (least -ℤ (b +ℤ a)) ≤ 3 * amount_limit
  size_short = omega (arith, amount_size least l, size_spread, size_sub least (b +ℤ a))

  pub spread_fits : SFits w64 (b +ℤ a)
  spread_fits = size_fits (b +ℤ a) (omega (arith, size_spread))

  pub short_fits : SFits w64 (least -ℤ (b +ℤ a))
  short_fits = size_fits (least -ℤ (b +ℤ a)) (omega (arith, size_short))

  pub half_fits : SFits w64 (half_up (least -ℤ (b +ℤ a)))
  half_fits = size_fits (half_up (least -ℤ (b +ℤ a))) (omega (arith, size_short, size_half (least -ℤ (b +ℤ a))))
