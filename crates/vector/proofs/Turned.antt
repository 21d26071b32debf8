-- The diagonal at q lots and beta is that at minus q and minus beta, so a run and the one with the drift turned are mirror images; and a finished run has an entry for each row. Assumes nothing.
use mathlib.Core.Path.{◌≡◌, refl, sym, ap, ◌∙◌, subst}
use mathlib.Core.Logic.{◌⊎◌, inl, inr}
use Prim.Native.Nat.{ℕ, suc, ◌+◌, ◌-◌, ◌<◌}
use native.Mathlib.Omega.{arith}
use mathlib.Core.Bool.{Bool, true, false, cond}
use borrow.Author.Tests.{leb-true, leb-false, le-leb, lt-leb}
use lib.IntN.{pos, negsuc}
use lib.Dec.{leb}
use lib.ListN.{length}
use lib.Ieee.{Float, binary64, minus, neg, lt, of_int, round}
use lib.Ieee.Fits.{mul-fits}
use Rattle.elementary.specs.Float.{◌⊕◌, ◌⊖◌, ◌⊗◌, whole, 0ᶠ, 2ᶠ, finite, positive}
use Rattle.elementary.proofs.Signs.{neg_neg, mul_neg_left, mul_neg_neg, of_int_neg}
use Rattle.elementary.proofs.Zeros.{Zero, zero_of, zero_neg, times_zero, sub_nothing}
use Rattle.operator.specs.Vectors.{tab}
use Rattle.operator.specs.Operator.{diagonal_at, rows}
use Rattle.plan.specs.Plan.{Ended, vector, over_cap, failed, bound_ok, fixed_over, fixed}
use Rattle.vector.specs.Run.{run_for, run}
use Rattle.vector.specs.Promises.{TurnedMirror, FullLength}
use Rattle.plan.proofs.Bounds.{rates_above}
use Rattle.plan.proofs.Lots.{lots, lots_are, square_is}
use Rattle.plan.proofs.Drift.{square_above}
use Rattle.series.proofs.Mirror.{tab_mirror}
use Rattle.vector.proofs.Mirror.{Ends, vectors, reports, failures, ends, mirror_end}

-- ---- opposite rows: the centre, or two whose lots are opposite numbers
below_row : (b i : ℕ) → i < b → minus i b ≡ negsuc (b - suc i)
below_row b i h = ap (λ (t : Bool). cond t (pos (i - b)) (negsuc (b - suc i))) (lt-leb b i h)

above_row : (b i : ℕ) → b < suc i → minus i b ≡ pos (i - b)
above_row b i h = ap (λ (t : Bool). cond t (pos (i - b)) (negsuc (b - suc i))) (le-leb b i (omega arith))

-- a row below the centre has minus the lots of its opposite
facing : (b i j : ℕ) → suc (i + j) ≡ rows b → i < b → whole (minus i b) ≡ neg (whole (minus j b))
facing b i j e h =
    let same : suc (b - suc i) ≡ j - b = omega arith in
    rw (below_row b i h, above_row b j (omega arith), of_int_neg binary64 (b - suc i), same)

opposite : (b i j : ℕ) → suc (i + j) ≡ rows b → (i ≡ b) ⊎ (whole (minus j b) ≡ neg (whole (minus i b)))
opposite b i j e = go (leb b i) (leb i b) refl refl
  where
    go : (s t : Bool) → leb b i ≡ s → leb i b ≡ t → (i ≡ b) ⊎ (whole (minus j b) ≡ neg (whole (minus i b)))
    go true true h k = inl (omega (arith, leb-true b i h, leb-true i b k))
    go true false h k = inr (facing b j i (omega arith) (omega (arith, leb-false i b k)))
    go false t h k = inr (sym (ap neg (facing b i j e (leb-false b i h)) ∙ neg_neg (whole (minus j b))))

centre_zero : (b : ℕ) → Zero (whole (minus b b))
unfolding of_int round
centre_zero b = let none : b - b ≡ 0 = omega arith in rw (above_row b b (omega arith), none) (zero_of false (pos 0))

-- ---- the diagonal
module _ (b : ℕ) (alpha beta eta : Float) (ok : bound_ok b ≡ true) (pa : positive alpha ≡ true) (pb : finite beta ≡ true) (pe : positive eta ≡ true) where
  -- in the centre no lots move, and neither zero changes what it is taken from
  at_centre : diagonal_at b alpha beta eta b ≡ diagonal_at b alpha (neg beta) eta b
  unfolding diagonal_at
  at_centre =
      let q = whole (minus b b) in
      let z : Zero (beta ⊗ q) = times_zero binary64 beta (rw pb tt) (centre_zero b) in
      let s = square_above b alpha eta ok pa pe b (omega arith) in
      let f = mul-fits binary64 (alpha ⊗ q) q in
      ap (λ (y : Float). y ⊕ 2ᶠ ⊗ eta) (sub_nothing binary64 _ z s f ∙ sym (ap (λ (y : Float). alpha ⊗ q ⊗ q ⊖ y) (mul_neg_left binary64 beta q) ∙ sub_nothing binary64 _ (zero_neg z) s f))

  diagonal_turned : (i j : ℕ) → suc (i + j) ≡ rows b → diagonal_at b alpha beta eta i ≡ diagonal_at b alpha (neg beta) eta j
  unfolding diagonal_at
  diagonal_turned i j e = go (opposite b i j e)
    where
      squares : alpha ⊗ whole (minus i b) ⊗ whole (minus i b) ≡ alpha ⊗ whole (minus j b) ⊗ whole (minus j b)
      squares =
          let same : lots b i ≡ lots b j = lots_are b i ∙ omega arith ∙ sym (lots_are b j) in
          square_is b alpha i ∙ ap (λ (m : ℕ). alpha ⊗ whole (pos m) ⊗ whole (pos m)) same ∙ sym (square_is b alpha j)

      go : (i ≡ b) ⊎ (whole (minus j b) ≡ neg (whole (minus i b))) → diagonal_at b alpha beta eta i ≡ diagonal_at b alpha (neg beta) eta j
      go (inl h) = let k : j ≡ b = omega arith in rw (h, k) at_centre
      go (inr h) =
          let products : beta ⊗ whole (minus i b) ≡ neg beta ⊗ whole (minus j b) = sym (ap (λ (y : Float). neg beta ⊗ y) h ∙ mul_neg_neg binary64 beta (whole (minus i b))) in
          λ t. squares t ⊖ products t ⊕ 2ᶠ ⊗ eta

pub turned_mirror : TurnedMirror
unfolding run fixed
turned_mirror x ok r =
    let (pa, pb, pe) = rates_above x r in
    let n = rows x.bound in
    mirror_end n (ends n _ _ (tab_mirror n _ _ (diagonal_turned x.bound x.alpha x.beta x.eta ok pa pb pe)) x.eta (lt 0ᶠ x.tau) x.tau)

-- ---- the lengths: any diagonal has one that mirrors it
abbrev Long : ℕ → Ended → Type 0
Long n (vector w o s) = (length w ≡ n) × (length o ≡ n)
Long n (over_cap need b) = Unit {0}
Long n (failed s) = Unit {0}

long : (n : ℕ) {e e' : Ended} → Ends n e e' → Long n e
long n (vectors W O) = (W.long, O.long)
long n reports = tt
long n failures = tt

run_long : (n : ℕ) (f : ℕ → Float) (eta : Float) (later : Bool) (tau : Float) → Long n (run_for later (fixed_over n (tab n f) eta) tau)
run_long n f eta later tau =
    long n (ends n (tab n f) (tab n (λ j. f (n - suc j))) (tab_mirror n f (λ j. f (n - suc j)) (λ i j e. ap f (omega arith))) eta later tau)

pub full_length : FullLength
unfolding run fixed
full_length x w o s e = subst (Long (rows x.bound)) e (run_long (rows x.bound) (diagonal_at x.bound x.alpha x.beta x.eta) x.eta (lt 0ᶠ x.tau) x.tau)
