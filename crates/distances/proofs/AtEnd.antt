-- At or past the end of the time each present distance is the base. Assumes nothing.
use Rattle.std.specs.Prelude.{Ok}
use mathlib.Core.Path.{◌≡◌, refl, ap, ◌∙◌, subst}
use Prim.Native.Nat.{ℕ, zero, suc, ◌≤◌, ◌<◌}
use native.Mathlib.Nat.{zero-lt-suc}
use native.Mathlib.Omega.{arith}
use mathlib.Core.Bool.{Bool, true, false, not, and-eq-true_iff}
use borrow.Author.Tests.{le-leb, lt-ltb, le-ltb}
use lib.IntN.{ℤ, pos, negsuc, nat_abs}
use lib.Dec.{T, ltb, ltb→lt}
use lib.ListN.{length-replicate, get_or-replicate, get_or-append}
use lib.Ieee.{Float, nan, inf, fin, binary64, fits, lt, round, add, sub, mul, div, of_int, of_bits}
use lib.Ieee.Fits.{and_l}
use lib.Ieee.Bits.{is_true}
use lib.Ieee.Positive.{above}
use lib.Ieee.Positive as Positive
use Rattle.elementary.specs.Float.{◌⊕◌, ◌⊖◌, 0ᶠ, 1ᶠ, finite, positive, count}
use Rattle.elementary.specs.Reply.{given}
use Rattle.elementary.specs.Elementary.{horner, mantissa, exponent, odds, ln_sum, ln_series, ln_join, ln_parts, ln_halved, ln_of, LN, or_nan}
use Rattle.elementary.proofs.Count.{positive_is}
use Rattle.elementary.proofs.Exact.{minus_zero, zero_add_f, zero-div}
use Rattle.operator.specs.Vectors.{at, fill}
use Rattle.operator.specs.Operator.{rows}
use Rattle.vector.specs.Run.{fixed, run, run_from}
use Rattle.vector.specs.Values.{padded, vector_of}
use Rattle.distances.specs.Distances.{place, distance, bid_at, ask_at, fine, sides, exact_at}
use Rattle.distances.specs.FloatEntry.{with_vector, answer_by, entry_if, entry_over, float_entry}
use Rattle.distances.specs.Promises.{base_bid, AtTheEnd}
use Rattle.vector.specs.declared.ValueVector.{ValueVector}
use Rattle.distances.proofs.Checked.{scale_pass, all_pass}

-- ---- the floats
ln_one : or_nan (LN 1ᶠ) ≡ 0ᶠ
unfolding or_nan LN given positive finite lt ln_of ln_halved mantissa exponent count ln_parts ln_join ln_series ln_sum horner odds of_bits of_int round add sub mul div
ln_one = refl

no_difference : 0ᶠ ⊖ 0ᶠ ⊕ (0ᶠ ⊖ 0ᶠ) ≡ 0ᶠ
unfolding of_bits round add sub
no_difference = refl

above_zero : (x : Float) → T (positive x) → T (above x) × T (not (minus_zero x))
above_zero x p = go x (subst T (positive_is x) p)
  where
    go : (x : Float) → T (Positive.positive x) → T (above x) × T (not (minus_zero x))
    go nan p = absurd p
    go (inf s) p = absurd p
    go (fin true m e) p = absurd p
    go (fin false m e) p = (p, tt)

-- ---- the places
place_within : (bound : ℕ) (q : ℤ) → nat_abs q ≤ bound → place bound q < rows bound
unfolding place
place_within bound (pos n) h = omega arith
place_within bound (negsuc n) h = rw (le-ltb bound (suc n) h) (omega arith)

at_padded : (n i : ℕ) (x : Float) → i < n → at (padded n (fill n x)) i ≡ x
unfolding padded
at_padded n i x h = get_or-append (fill n x) _ nan i (rw (length-replicate n x) h) ∙ get_or-replicate n i x nan h

-- ---- the sides, where n weights are 1.0 and n offsets are 0.0
flat : ℕ → ValueVector
flat n = vector_of n (fill n 1ᶠ) (fill n 0ᶠ)

module _ (n : ℕ) (k base : Float) (held : T (fits binary64 base)) (k-ok : T (positive k)) (base_ok : T (positive base)) where
  distance_is : (i j : ℕ) → i < n → j < n → distance (flat n) k base i j ≡ base
  unfolding distance flat vector_of
  distance_is i j h l =
      rw (at_padded n i 1ᶠ h, at_padded n j 1ᶠ l, at_padded n i 0ᶠ h, at_padded n j 0ᶠ l, ln_one, no_difference, zero-div binary64 k (above_zero k k-ok).0)
      (zero_add_f binary64 base held (above_zero base base_ok).1)

  bid_is : (c : Bool) (i : ℕ) → (T c → suc i < n) → bid_at c (flat n) k base i ≡ base_bid c base
  unfolding bid_at base_bid
  bid_is false i h = refl
  bid_is true i h = let l : suc i < n = h tt in rw (distance_is i (suc i) (omega arith) l)

  ask_is : (i : ℕ) → i < n → ask_at (flat n) k base i ≡ base_bid (ltb 0 i) base
  unfolding ask_at base_bid
  ask_is zero h = refl
  ask_is (suc i) h = rw (distance_is (suc i) i h (omega arith), lt-ltb 0 (suc i) (zero-lt-suc i))

  base_fine : (c : Bool) → fine (base_bid c base) ≡ true
  unfolding fine base_bid positive
  base_fine true = is_true (finite base) (and_l (finite base) (lt 0ᶠ base) base_ok)
  base_fine false = refl

  exact_is : (i : ℕ) → i < n → exact_at (flat n) k base i ≡ Ok (base_bid (ltb (suc i) n) base, base_bid (ltb 0 i) base)
  unfolding exact_at sides flat vector_of
  exact_is i h = rw (bid_is (ltb (suc i) n) i (ltb→lt (suc i) n), ask_is i h, base_fine (ltb (suc i) n), base_fine (ltb 0 i))

pub at_the_end : AtTheEnd
unfolding float_entry entry_over entry_if answer_by run run_from fixed with_vector flat
at_the_end k base x q held floats ok within late =
    let (k-ok, base_ok) = (and-eq-true_iff (positive k) (positive base)).0 (scale_pass k base x floats) in
    rw (all_pass k base x q floats ok (le-leb (nat_abs q) x.bound within), late)
    (ap (with_vector (flat (rows x.bound)) 0) (exact_is (rows x.bound) k base held (rw k-ok tt) (rw base_ok tt) (place x.bound q) (place_within x.bound q within)))
