-- A distance's count is the least whole number of billionths that is not below it. Assumes nothing.
use Rattle.std.specs.Prelude.{Err}
use Rattle.std.proofs.Common.{◌≡◌, ℕ, ◌+◌, ◌*◌, ◌<◌, ◌≤◌, Bool, true, false, ◌⊎◌, ℤ, pos, ◌*ℤ◌, neg_ℤ, ◌≤ℤ◌, refl, ap, inl, inr, lt_of_mul-lt-mul_right, le_of_mul-le-mul_right, arith}
use lib.Signed.{≤ℤ_refl}
use lib.Ieee.{nan, inf, fin, up, down}
use lib.Ieee.Fits.{down_pos}
use Rattle.elementary.specs.Float.{finite}
use Rattle.elementary.specs.WholeUp.{next}
use Rattle.elementary.proofs.WholeUp.{next_holds}
use Rattle.series.specs.Refusals.{numerical}
use Rattle.amounts.specs.Refusals.{beyond}
use Rattle.amounts.specs.Amounts.{billion, amount_ok}
use Rattle.amounts.specs.Rounding.{billionths, count_if, to_billionths, exactly, AtMost, RoundingIsRight, WholeStays, CountRefusals}
use Rattle.amounts.proofs.Differences.{over, under, over_neg, under_neg, over_times, under_times, le_parts, parts_le, le_antisym}
use Rattle.elementary.specs.Checks.{by}
use Rattle.elementary.proofs.Checks.{same_number}

-- ---- from natural numbers to a float's count: e is the distance over d, k its count
module _ (e k : ℤ) (d : ℕ) where
  -- e ≤ k * d
  reached : over e + under k * d ≤ over k * d + under e → e ≤ℤ (k *ℤ pos d)
  reached h = parts_le e (k *ℤ pos d) (omega (arith, over_times k d, under_times k d))

  -- k * d < e + d
  least_of : over k * d + under e < over e + under k * d + d → (z : ℤ) → e ≤ℤ (z *ℤ pos d) → k ≤ℤ z
  least_of h z g =
      let most = le_parts e (z *ℤ pos d) g in
      let scaled : (over k + under z) * d < (over z + under k + 1) * d = omega (arith, over_times z d, under_times z d, most) in
      parts_le k z (omega (arith, lt_of_mul-lt-mul_right d scaled))

at_most : (s : Bool) (m : ℕ) (e : ℤ) → exactly s m e ≤ℤ (billionths (fin s m e) *ℤ pos (down e))
unfolding exactly billionths
at_most false m e = reached (pos (m * up e * billion)) (pos (next false (m * up e * billion) (down e))) (down e) (omega (arith, (next_holds false (m * up e * billion) (down e) (down_pos e)).0))
at_most true m e =
    let a = m * up e * billion in
    let k = next true a (down e) in
    reached (neg_ℤ (pos a)) (neg_ℤ (pos k)) (down e)
    (omega (arith, over_neg (pos a), under_neg (pos a), ap (λ (x : ℕ). x * down e) (over_neg (pos k)), ap (λ (x : ℕ). x * down e) (under_neg (pos k)), (next_holds true a (down e) (down_pos e)).0))

least : (s : Bool) (m : ℕ) (e z : ℤ) → exactly s m e ≤ℤ (z *ℤ pos (down e)) → billionths (fin s m e) ≤ℤ z
unfolding exactly billionths
least false m e = least_of (pos (m * up e * billion)) (pos (next false (m * up e * billion) (down e))) (down e) (omega (arith, (next_holds false (m * up e * billion) (down e) (down_pos e)).1))
least true m e =
    let a = m * up e * billion in
    let k = next true a (down e) in
    least_of (neg_ℤ (pos a)) (neg_ℤ (pos k)) (down e)
    (omega (arith, over_neg (pos a), under_neg (pos a), ap (λ (x : ℕ). x * down e) (over_neg (pos k)), ap (λ (x : ℕ). x * down e) (under_neg (pos k)), (next_holds true a (down e) (down_pos e)).1))

pub rounding_is_right : RoundingIsRight
unfolding finite AtMost
rounding_is_right nan t = absurd t
rounding_is_right (inf s) t = absurd t
rounding_is_right (fin s m e) t = (at_most s m e, least s m e)

-- ---- a whole number of billionths
times_le : (z k : ℤ) (d : ℕ) → 0 < d → (z *ℤ pos d) ≤ℤ (k *ℤ pos d) → z ≤ℤ k
times_le z k d p h =
    let most = le_parts (z *ℤ pos d) (k *ℤ pos d) h in
    let scaled : (over z + under k) * d ≤ (over k + under z) * d = omega (arith, over_times z d, under_times z d, over_times k d, under_times k d, most) in
    parts_le z k (le_of_mul-le-mul_right scaled p)

pub whole_stays : WholeStays
whole_stays s m e z h =
    let k = billionths (fin s m e) in
    let d = down e in
    le_antisym k z (least s m e z (rw h (≤ℤ_refl (z *ℤ pos d)))) (times_le z k d (down_pos e) (rw h at (at_most s m e)))

-- ---- the entry's refusals
count_refused : (f w : Bool) (z : ℤ) (n : ℕ) → count_if f w z ≡ Err (by n) → ((n ≡ numerical) × (f ≡ false)) ⊎ ((n ≡ beyond) × (f ≡ true) × (w ≡ false))
unfolding count_if
count_refused false w z n e = inl (same_number (let y : by n ≡ by numerical = cc in y), refl)
count_refused true false z n e = inr (same_number (let y : by n ≡ by beyond = cc in y), refl, refl)
count_refused true true z n e = let y : ◌≡◌ {A = ℕ} 0 1 = cc in absurd (omega arith)

pub count_refusals : CountRefusals
unfolding to_billionths count_if
count_refusals d n = (count_refused (finite d) (amount_ok (billionths d)) (billionths d) n, λ x. elim x [ inl y ↦ rw (y.0, y.1) | inr y ↦ rw (y.0, y.1, y.2) ])
