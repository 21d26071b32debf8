-- Prices of two distances and of the same two exchanged: those that face each other add up to twice the mid, widened or not. Assumes nothing.
use Rattle.std.specs.Prelude.{Option, Some, None, Ok, Float}
use mathlib.Core.Path.{◌≡◌, refl}
use native.Mathlib.Omega.{arith}
use Prim.Native.Nat.{ℕ}
use mathlib.Core.Bool.{Bool, true, false, ◌&&◌}
use lib.IntN.{ℤ, ◌+ℤ◌, +ℤ_comm}
use lib.Dec.{T}
use mir.Facts.{and_yes}
use Rattle.distances.specs.Distances.{fine}
use Rattle.amounts.specs.Amounts.{amount_ok}
use Rattle.amounts.proofs.Signed.{around}
use Rattle.prices.specs.Prices.{each, side, rounded_if, rounded, widening, bid_price, ask_price, widened, judge_if, judge, quotes_by, build_quotes}
use Rattle.prices.specs.Facing.{Facing, BuiltFacing}
use Rattle.prices.specs.declared.GlftQuotes.{GlftQuotes}
use Rattle.elementary.proofs.Results.{ok_pair}

-- ---- quotes that are not refused are the widened prices, of finite distances
judged_is : (x o : Bool) (p q : GlftQuotes) → judge_if x o p ≡ Ok q → q ≡ p
unfolding judge_if
judged_is false o p q e = cc
judged_is true false p q e = cc
judged_is true true p q e = cc

rounded_is : (x y : Bool) (mid least : ℤ) (b a : Option ℤ) (q : GlftQuotes) → quotes_by mid least (rounded_if x y b a) ≡ Ok q → (x ≡ true) × (q ≡ widened mid least b a)
unfolding quotes_by rounded_if judge
rounded_is false y mid least b a q e = let z : ◌≡◌ {A = ℕ} 0 1 = cc in absurd (omega arith)
rounded_is true false mid least b a q e = let z : ◌≡◌ {A = ℕ} 0 1 = cc in absurd (omega arith)
rounded_is true true mid least b a q e = (refl, judged_is _ _ _ q e)

module _ (mid least : ℤ) (b a : Option Float) (q : GlftQuotes) (e : build_quotes mid least b a ≡ Ok q) where
  pub built_finite : (fine b && fine a) ≡ true
  unfolding build_quotes rounded
  built_finite = (rounded_is _ _ mid least (side b) (side a) q e).0

  pub built_is : q ≡ widened mid least (side b) (side a)
  unfolding build_quotes rounded
  built_is = (rounded_is _ _ mid least (side b) (side a) q e).1

-- ---- prices that face each other
widening_swap : (least : ℤ) (b a : Option ℤ) → widening least b a ≡ widening least a b
unfolding widening
widening_swap least None None = refl
widening_swap least None (Some a) = refl
widening_swap least (Some b) None = refl
widening_swap least (Some b) (Some a) = rw (+ℤ_comm b a)

-- a bid and an ask at one distance, each moved outward by w
pub facing_at : (mid w : ℤ) (d : Option ℤ) → Facing mid (bid_price mid w d) (ask_price mid w d)
unfolding Facing bid_price ask_price
facing_at mid w None = tt
facing_at mid w (Some d) = around mid (d +ℤ w)

-- b and a are the rounded distances at one holding, a and b those at the other
facing : (mid least : ℤ) (b a : Option ℤ) → Facing mid (bid_price mid (widening least b a) b) (ask_price mid (widening least a b) b)
facing mid least b a = rw (widening_swap least b a) (facing_at mid (widening least a b) b)

pub built_facing : BuiltFacing
unfolding widened
built_facing mid least b a q q' e e' =
    rw (built_is mid least b a q e, built_is mid least a b q' e') (record { bid = facing mid least (side b) (side a); ask = facing mid least (side a) (side b) })

-- ---- sides that are rounded are within the limit
pub rounded_within : (b a : Option Float) (x y : Option ℤ) → rounded b a ≡ Ok (x, y) → T (each amount_ok x) × T (each amount_ok y)
unfolding rounded rounded_if
rounded_within b a x y = go (fine b && fine a) (each amount_ok (side b) && each amount_ok (side a)) (λ t. t)
  where
    go : (f w : Bool) → (T w → T (each amount_ok (side b) && each amount_ok (side a))) → rounded_if f w (side b) (side a) ≡ Ok (x, y) → T (each amount_ok x) × T (each amount_ok y)
    go false w h e = let z : ◌≡◌ {A = ℕ} 0 1 = cc in absurd (omega arith)
    go true false h e = let z : ◌≡◌ {A = ℕ} 0 1 = cc in absurd (omega arith)
    go true true h e =
        let (i, j) = ok_pair e in
        rw (← i, ← j) (and_yes (each amount_ok (side b)) (each amount_ok (side a)) (h tt))
