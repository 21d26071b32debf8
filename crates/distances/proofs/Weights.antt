-- A distance is not finite just where a weight that it reads is not finite and positive, or else itself. Assumes nothing.
use mathlib.Core.Path.{◌≡◌, refl}
use mathlib.Core.Bool.{Bool, true, false}
use lib.Ieee.{Float, nan, inf, fin, neg, add, sub, div}
use Rattle.elementary.specs.Float.{◌⊖◌, finite, positive}
use Rattle.elementary.specs.Reply.{given}
use Rattle.elementary.specs.Elementary.{LN, or_nan}
use Rattle.operator.specs.Vectors.{at}
use Rattle.distances.specs.Distances.{distance}
use Rattle.distances.specs.Weights.{WeightsRead, DistanceFails, own_weight, next_weight, itself, DistancesFail}

no_log : (x : Float) → positive x ≡ false → or_nan (LN x) ≡ nan
unfolding or_nan LN given
no_log x e = rw e

sub_nan : (x : Float) → x ⊖ nan ≡ nan
unfolding sub add neg
sub_nan nan = refl
sub_nan (inf s) = refl
sub_nan (fin s m e) = refl

pub weights_read : WeightsRead
unfolding distance finite sub add div
weights_read v k base i j = (λ e. rw (no_log (at v.w i) e), λ e. rw (no_log (at v.w j) e, sub_nan (or_nan (LN (at v.w i)))))

pub distances_fail : DistancesFail
distances_fail v k base i j = (go (positive (at v.w i)) (positive (at v.w j)) refl refl, back)
  where
    go : (a b : Bool) → positive (at v.w i) ≡ a → positive (at v.w j) ≡ b → finite (distance v k base i j) ≡ false → DistanceFails v k base i j
    go false b ei ej e = own_weight ei
    go true false ei ej e = next_weight ei ej
    go true true ei ej e = itself ei ej e

    back : DistanceFails v k base i j → finite (distance v k base i j) ≡ false
    back (own_weight ei) = (weights_read v k base i j).0 ei
    back (next_weight ei ej) = (weights_read v k base i j).1 ej
    back (itself ei ej e) = e
