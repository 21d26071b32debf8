-- Each refusal of the three parts, and of all three, is the reply in just the situation that the paper names. Assumes nothing.
use Rattle.std.specs.Prelude.{Option, Err, Float}
use mathlib.Core.Path.{◌≡◌, refl, sym, ◌∙◌, subst}
use mathlib.Core.Logic.{◌↔◌}
use Prim.Native.Nat.{ℕ}
use native.Mathlib.Omega.{arith}
use mathlib.Core.Bool.{Bool, true, false, ◌&&◌}
use lib.IntN.{ℤ}
use Rattle.distances.specs.Distances.{fine}
use Rattle.amounts.specs.Amounts.{amount_ok, above0}
use Rattle.prices.specs.Prices as Prices
use Rattle.prices.specs.Prices.{each, side, rounded_if, rounded, widened, widen_if, widen, price_sides, in_order, judge_if, judge, quotes_by, build_quotes}
use Rattle.prices.specs.Refusing.{RoundingRefused, rounded_11, rounded_13, RoundingRefusals, SidesRefused, sides_2, sides_13, WideningRefusals, PricingRefusals, JudgedRefused, judged_13, judged_14, JudgedRefusals, Within, Ordered, Priced, by_13, by_14, PricesRefused}
use Rattle.prices.specs.declared.GlftQuotes.{GlftQuotes}
use Rattle.elementary.specs.Checks.{by}
use Rattle.elementary.proofs.Checks.{same_err}

pub rounding_refusals : RoundingRefusals
unfolding rounded rounded_if
rounding_refusals b a n = (to (fine b && fine a) (each amount_ok (side b) && each amount_ok (side a)) refl refl, from n)
  where
    to : (x y : Bool) → (fine b && fine a) ≡ x → (each amount_ok (side b) && each amount_ok (side a)) ≡ y → rounded_if x y (side b) (side a) ≡ Err (by n) → RoundingRefused b a n
    to false y h k e = subst (λ (m : ℕ). RoundingRefused b a m) (same_err e) (rounded_11 h)
    to true false h k e = subst (λ (m : ℕ). RoundingRefused b a m) (same_err e) (rounded_13 h k)
    to true true h k e = let z : ◌≡◌ {A = ℕ} 0 1 = cc in absurd (omega arith)

    from : (m : ℕ) → RoundingRefused b a m → rounded b a ≡ Err (by m)
    from m (rounded_11 h) = rw h
    from m (rounded_13 h k) = rw (h, k)

-- the widening, and the prices without it, by whether the amounts that are given are within the limit
sides_refused : (given : Bool) (b a : Option ℤ) (q : GlftQuotes) (n : ℕ) → (widen_if given (each amount_ok b && each amount_ok a) q ≡ Err (by n)) ↔ SidesRefused given b a n
unfolding widen_if
sides_refused given b a q n = (to given (each amount_ok b && each amount_ok a) refl refl, from n)
  where
    to : (x y : Bool) → given ≡ x → (each amount_ok b && each amount_ok a) ≡ y → widen_if x y q ≡ Err (by n) → SidesRefused given b a n
    to false y h k e = subst (λ (m : ℕ). SidesRefused given b a m) (same_err e) (sides_2 h)
    to true false h k e = subst (λ (m : ℕ). SidesRefused given b a m) (same_err e) (sides_13 h k)
    to true true h k e = let z : ◌≡◌ {A = ℕ} 0 1 = cc in absurd (omega arith)

    from : (m : ℕ) → SidesRefused given b a m → widen_if given (each amount_ok b && each amount_ok a) q ≡ Err (by m)
    from m (sides_2 h) = rw h
    from m (sides_13 h k) = rw (h, k)

pub widening_refusals : WideningRefusals
unfolding widen
widening_refusals mid least b a n = sides_refused (amount_ok mid && amount_ok least) b a (widened mid least b a) n

pub pricing_refusals : PricingRefusals
unfolding price_sides
pricing_refusals mid b a n = sides_refused (amount_ok mid) b a (Prices.priced mid b a) n

pub judged_refusals : JudgedRefusals
unfolding judge judge_if
judged_refusals q n = (to (each amount_ok q.bid && each amount_ok q.ask) (each above0 q.bid && each above0 q.ask && in_order q.bid q.ask) refl refl, from n)
  where
    to : (x y : Bool) → (each amount_ok q.bid && each amount_ok q.ask) ≡ x → (each above0 q.bid && each above0 q.ask && in_order q.bid q.ask) ≡ y
        → judge_if x y q ≡ Err (by n) → JudgedRefused q n
    to false y h k e = subst (λ (m : ℕ). JudgedRefused q m) (same_err e) (judged_13 h)
    to true false h k e = subst (λ (m : ℕ). JudgedRefused q m) (same_err e) (judged_14 h k)
    to true true h k e = let z : ◌≡◌ {A = ℕ} 0 1 = cc in absurd (omega arith)

    from : (m : ℕ) → JudgedRefused q m → judge q ≡ Err (by m)
    from m (judged_13 h) = rw h
    from m (judged_14 h k) = rw (h, k)

-- ---- all three, of finite distances
module _ (mid least : ℤ) (b a : Option Float) (f : fine b ≡ true) (g : fine a ≡ true) where
  -- the counts within the limit, the prices within it, and in order
  abbrev counts : Bool
  counts = each amount_ok (side b) && each amount_ok (side a)

  abbrev prices : GlftQuotes
  prices = widened mid least (side b) (side a)

  abbrev limited : Bool
  limited = each amount_ok prices.bid && each amount_ok prices.ask

  abbrev ordered : Bool
  ordered = each above0 prices.bid && each above0 prices.ask && in_order prices.bid prices.ask

  by_tests : build_quotes mid least b a ≡ judge_if (counts && limited) ordered prices
  unfolding build_quotes quotes_by rounded rounded_if judge judge_if
  by_tests = rw (f, g) (go counts)
    where
      go : (t : Bool) → quotes_by mid least (rounded_if true t (side b) (side a)) ≡ judge_if (t && limited) ordered prices
      go true = refl
      go false = refl

  priced : (n : ℕ) (x o : Bool) → Within mid least b a ≡ x → Ordered mid least b a ≡ o → judge_if x o prices ≡ Err (by n) → Priced mid least b a n
  unfolding judge_if widened
  priced n false o h k e = subst (λ (m : ℕ). Priced mid least b a m) (same_err e) (by_13 h)
  priced n true false h k e = subst (λ (m : ℕ). Priced mid least b a m) (same_err e) (by_14 h k)
  priced n true true h k e = let z : ◌≡◌ {A = ℕ} 0 1 = cc in absurd (omega arith)

  unpriced : (n : ℕ) → Priced mid least b a n → judge_if (Within mid least b a) (Ordered mid least b a) prices ≡ Err (by n)
  unfolding judge_if
  unpriced n (by_13 h) = rw h
  unpriced n (by_14 h k) = rw (h, k)

pub prices_refused : PricesRefused
unfolding widened
prices_refused mid least b a n f g =
    let t = by_tests mid least b a f g in
    (λ e. priced mid least b a f g n _ _ refl refl (sym t ∙ e), λ p. t ∙ unpriced mid least b a f g n p)
