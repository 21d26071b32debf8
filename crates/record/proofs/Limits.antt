-- The limits of a record's numbers, as its stored numbers and the machine's keep them. Assumes nothing.
use mathlib.Core.Path.{◌≡◌, refl, sym, ◌∙◌, subst}
use Prim.Native.Nat.{ℕ, suc, ◌*◌, ◌/◌, ◌%◌, ◌<◌, ◌≤◌}
use native.Mathlib.Omega.{arith}
use mathlib.Core.Bool.{Bool, true, false, ◌&&◌}
use mathlib.Core.List.{List}
use borrow.Author.Tests.{leb-true, leb-false, le-leb, lt-leb, eqb-true, eqb-false}
use lib.IntN.{ℤ, pos, negsuc, nat_abs}
use lib.ListN.{get_or}
use lib.Dec.{T, leb, eqb, leb→le}
use mir.Syntax.{w64}
use mir.Val.{to_z, of_z}
use Rattle.amounts.specs.Amounts.{amount_limit, time_limit, amount_ok, time_ok}
use Rattle.model.specs.Configuration.{config_limits}
use Rattle.model.specs.Model.{model_limits}
use Rattle.amounts.proofs.Limits.{kept}
use Rattle.record.specs.Record.{holding_by, holding, record_of, config_of, most_bound, record_ok}

-- ---- an amount within the limit, as the machine holds it
pub same_bits : (z : ℤ) → nat_abs z ≤ amount_limit → to_z w64 (of_z w64 z) ≡ z
same_bits (pos n) h = kept (pos n) (omega arith)
same_bits (negsuc n) h = kept (negsuc n) (omega arith)

-- ---- stored numbers
-- two bounds that hold together
same_bound : (a b x y : ℕ) → (a ≤ b → x ≤ y) → (b < a → y < x) → leb a b ≡ leb x y
same_bound a b x y f g = go (leb a b) refl
  where
    go : (t : Bool) → leb a b ≡ t → leb a b ≡ leb x y
    go true e = e ∙ sym (le-leb x y (f (leb-true a b e)))
    go false e = e ∙ sym (lt-leb x y (g (leb-false a b e)))

-- a stored holding is at most twice the limit
pub holding_limit : (n m : ℕ) → leb (nat_abs (holding n)) m ≡ leb n (2 * m)
unfolding holding holding_by
holding_limit n m = go (eqb (n % 2) 0) refl
  where
    go : (t : Bool) → eqb (n % 2) 0 ≡ t → leb (nat_abs (holding_by t (n / 2))) m ≡ leb n (2 * m)
    go true e = let h = eqb-true (n % 2) 0 e in same_bound (n / 2) m n (2 * m) (λ k. omega arith) (λ k. omega arith)
    go false e = let h = eqb-false (n % 2) 0 e in same_bound (suc (n / 2)) m n (2 * m) (λ k. omega arith) (λ k. omega arith)

-- what a record that passes has stored
pub record Bounds (v : List ℕ) : Type 0 where
  pub mid : get_or v 0 0 ≤ amount_limit
  pub holds : get_or v 1 0 ≤ 2 * amount_limit
  pub volatility : get_or v 2 0 ≤ amount_limit
  pub risk : get_or v 3 0 ≤ amount_limit
  pub k : get_or v 4 0 ≤ amount_limit
  pub scale : get_or v 5 0 ≤ amount_limit
  pub bound : get_or v 6 0 ≤ most_bound
  pub lot : get_or v 7 0 ≤ amount_limit
  pub terminal : get_or v 8 0 ≤ time_limit
  pub current : get_or v 9 0 ≤ time_limit
  pub spread : get_or v 10 0 ≤ amount_limit

-- the drift of a stored record passes by itself
all_pass : (m h v r k a l s t c b : Bool) → T (m && h && v && (r && k && a && l && s && true && t) && c && b)
    → T m × T h × T v × T r × T k × T a × T l × T s × T t × T c × T b
all_pass false h v r k a l s t c b x = absurd x
all_pass true false v r k a l s t c b x = absurd x
all_pass true true false r k a l s t c b x = absurd x
all_pass true true true false k a l s t c b x = absurd x
all_pass true true true true false a l s t c b x = absurd x
all_pass true true true true true false l s t c b x = absurd x
all_pass true true true true true true false s t c b x = absurd x
all_pass true true true true true true true false t c b x = absurd x
all_pass true true true true true true true true false c b x = absurd x
all_pass true true true true true true true true true false b x = absurd x
all_pass true true true true true true true true true true false x = absurd x
all_pass true true true true true true true true true true true x = (tt, tt, tt, tt, tt, tt, tt, tt, tt, tt, tt)

pub bounds : (v : List ℕ) → T (record_ok (record_of v)) → Bounds v
unfolding record_ok record_of config_of model_limits amount_ok time_ok config_limits
bounds v h =
    let small : ℕ → Bool = λ i. leb (get_or v i 0) amount_limit in
    let p = all_pass (small 0) (leb (nat_abs (holding (get_or v 1 0))) amount_limit) (small 2) (small 3) (small 4) (small 5) (small 7) (small 10) (small 8) (small 9) (leb (get_or v 6 0) most_bound) h in
    record {
      mid = leb→le _ _ p.0;
      holds = leb→le (get_or v 1 0) (2 * amount_limit) (subst T (holding_limit (get_or v 1 0) amount_limit) p.1);
      volatility = leb→le _ _ p.2;
      risk = leb→le _ _ p.3;
      k = leb→le _ _ p.4;
      scale = leb→le _ _ p.5;
      bound = leb→le _ _ p.10;
      lot = leb→le _ _ p.6;
      terminal = leb→le _ _ p.8;
      current = leb→le _ _ p.9;
      spread = leb→le _ _ p.7;
    }
