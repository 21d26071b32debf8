-- What n rows of a slice stand for, all rows or those up to the centre: the division by the largest weight, the smallest, and a plan's norm. Assumes nothing.
use mathlib.Core.Path.{◌≡◌, ap, ◌∙◌}
use Prim.Native.Nat.{ℕ, ◌≤◌}
use mathlib.Core.Bool.{Bool, false, ◌&&◌}
use mathlib.Core.List.{List}
use lib.Dec.{ltb}
use lib.ListN.{length}
use lib.Ieee.{Float, inf, binary64, lt}
use lib.Ieee.Fits.{add-fits}
use Rattle.elementary.specs.Float.{◌⊕◌, ◌⊗◌, ◌⊘◌, 0ᶠ}
use Rattle.elementary.proofs.Signs.{add_comm_f}
use Rattle.operator.specs.Vectors.{tab, at, fold, larger, smaller, abs}
use Rattle.series.specs.Slices.{Fit}
use Rattle.series.specs.Half.{full_size, full_factors, full, Centred}
use Rattle.operator.proofs.Lists.{at_tab, tab_ext}
use Rattle.series.proofs.Full.{at_full, own, fit_full, largest_full, smallest_full, full_with, own_tab, full_own_tab, left_opposite, right_opposite}
use Rattle.plan.specs.Plan.{magnitudes, norm, fixed_over}
use Rattle.vector.specs.Run.{floor, divided, rebalances}
use Rattle.vector.specs.Half.{full_fixed}

-- ---- the division by the largest weight, and the smallest
module _ (h : Bool) (n : ℕ) (some : 1 ≤ n) where
  module _ (v : List Float) (long : length v ≡ n) where
    largest_same : Fit v → fold larger 0ᶠ v ≡ fold larger 0ᶠ (full h n v)
    largest_same f = ap (fold larger 0ᶠ) (own_tab h n some v long) ∙ largest_full h n _ some (fit_full h n v f) (own h n v) ∙ ap (fold larger 0ᶠ) (full_own_tab h n some v long)

    pub divided_full : Fit v → full h n (divided n v) ≡ divided (full_size h n) (full h n v)
    unfolding divided
    divided_full f = ap (λ (m : Float). full h n (tab n (λ i. at v i ⊘ m))) (largest_same f) ∙ full_with h n some (λ x y. x ⊘ fold larger 0ᶠ (full h n v)) v v

    pub rebalances_full : (k : ℕ) → rebalances (fold smaller (inf false) v) k ≡ rebalances (fold smaller (inf false) (full h n v)) k
    unfolding rebalances
    rebalances_full k =
        ap (λ (b : Bool). ltb 0 k && b)
        (ap (λ (l : List Float). lt (fold smaller (inf false) l) floor) (own_tab h n some v long) ∙ smallest_full h n _ floor some (own h n v)
        ∙ ap (λ (l : List Float). lt (fold smaller (inf false) l) floor) (full_own_tab h n some v long))

-- ---- the norm of a plan
module _ (h : Bool) (n : ℕ) (l r : List Float) (some : 1 ≤ n) (c : Centred h n l r) where
  module _ (d : List Float) (eta : Float) where
    sum : ℕ → Float
    sum i = abs (at (full h n d) i) ⊕ eta ⊗ (at (full_factors h n l r) i ⊕ at (full_factors h n r l) i)

    pub norm_full : norm (fixed_over n d eta) l r ≡ norm (full_fixed h n d eta) (full_factors h n l r) (full_factors h n r l)
    unfolding norm magnitudes sum
    norm_full =
        ap (fold larger 0ᶠ) (tab_ext n _ sum (λ i k. rw (at_tab n (λ j. abs (at d j)) i k, at_full h n d d i k, at_full h n l r i k, at_full h n r l i k)))
        ∙ largest_full h n sum some (λ i. add-fits binary64 _ _)
        (λ y i j e. rw (own h n d y i j e, left_opposite h n l r some c y i j e, right_opposite h n l r some c y i j e, add_comm_f binary64 (at (full_factors h n r l) j) (at (full_factors h n l r) j)))
        ∙ ap (fold larger 0ᶠ) (tab_ext (full_size h n) sum _ (λ i k. rw (at_tab (full_size h n) (λ j. abs (at (full h n d) j)) i k)))
