-- Two runs whose diagonals mirror each other stay mirrored through every term, step and rebalancing, and end alike. Assumes nothing.
use mathlib.Core.Path.{◌≡◌, refl, sym, ap, ◌∙◌}
use Prim.Native.Nat.{ℕ, zero, suc, ◌-◌}
use native.Mathlib.Omega.{arith}
use mathlib.Core.Bool.{Bool, true, false, ◌&&◌, and_comm}
use mathlib.Core.List.{List}
use lib.Dec.{ltb}
use lib.ListN.{length, length-replicate, get_or-replicate}
use lib.Ieee.{Float, nan, inf, binary64}
use lib.Ieee.Fits.{add-fits}
use Rattle.elementary.specs.Float.{◌⊕◌, ◌⊖◌, ◌⊗◌, hex, 0ᶠ, 1ᶠ, finite, positive}
use Rattle.elementary.specs.Reply.{Reply}
use Rattle.elementary.proofs.Signs.{add_comm_f}
use Rattle.operator.specs.Vectors.{tab, at, fill, every, fold, larger, smaller, Mirror}
use Rattle.operator.specs.Operator.{left_at, right_at}
use Rattle.plan.specs.Plan.{cap, Ended, vector, over_cap, failed, magnitudes, fixed_over, Going, Turn, going, ended, norm, start, begin, diagonal_finite, first_if}
use Rattle.vector.specs.Run.{divided, rebalances, rebalance, next, stepped, step_operator, turn, run_on, run_for, run_from}
use Rattle.vector.specs.Promises.{MirrorEnd, MirrorRuns}
use Rattle.operator.proofs.Lists.{Opposite, length_tab, every_mirror}
use Rattle.series.proofs.Extremes.{largest_mirror, smallest_mirror}
use Rattle.series.proofs.Mirror.{mirror_sym, tab_mirror, Replies, values, refusals, taylor_replies, factors}

-- ---- a vector of n entries and one that mirrors it
pub record Facing (n : ℕ) (l r : List Float) : Type 0 where
  pub long : length l ≡ n
  pub same : Mirror n l r

tab_facing : (n : ℕ) (f g : ℕ → Float) → Opposite n f g → Facing n (tab n f) (tab n g)
tab_facing n f g h = record { long = length_tab n f; same = tab_mirror n f g h }

fill_facing : (n : ℕ) (x : Float) → Facing n (fill n x) (fill n x)
unfolding Mirror
fill_facing n x = record {
  long = length-replicate n x;
  same = λ i j e. get_or-replicate n i x nan (omega arith) ∙ sym (get_or-replicate n j x nan (omega arith));
}

-- ---- a run of each: at its end, and between two steps
pub data Ends (n : ℕ) : Ended → Ended → Type 0 where
  vectors : {w w' o o' : List Float} {s : ℕ} → Facing n w w' → Facing n o o' → Ends n (vector w o s) (vector w' o' s)
  reports : {need : Float} {b : ℕ} → Ends n (over_cap need b) (over_cap need b)
  failures : {s : ℕ} → Ends n (failed s) (failed s)

abbrev between : List Float → List Float → List Float → List Float → Float → Float → ℕ → Going
between w o l r dt rest k = record { w = w; o = o; left = l; right = r; dt = dt; remaining = rest; steps = k }

data Turns (n : ℕ) : Turn → Turn → Type 0 where
  both_going : {w w' o o' l l' r r' : List Float} {dt rest : Float} {k : ℕ} → Facing n w w' → Facing n o o' → Mirror n l r' → Mirror n r l'
      → Turns n (going (between w o l r dt rest k)) (going (between w' o' l' r' dt rest k))
  both_ended : {e e' : Ended} → Ends n e e' → Turns n (ended e) (ended e')

-- ---- a plan
module _ (n : ℕ) (l l' r r' : List Float) (L : Mirror n l r') (R : Mirror n r l') where
  norm_alike : (d d' : List Float) → Mirror n d d' → (eta : Float) → norm (fixed_over n d eta) l r ≡ norm (fixed_over n d' eta) l' r'
  unfolding magnitudes norm Mirror
  norm_alike d d' D eta =
      let S : Mirror n (magnitudes n d) (magnitudes n d') = tab_mirror n _ _ (λ i j e. rw (D i j e)) in
      largest_mirror n _ _ (λ i. add-fits binary64 _ (eta ⊗ (at l i ⊕ at r i)))
      (λ i j e. rw (S i j e, L i j e, R i j e, add_comm_f binary64 (at r' j) (at l' j)))

  factors_alike : every n (λ i. finite (at l i) && finite (at r i)) ≡ every n (λ i. finite (at l' i) && finite (at r' i))
  unfolding Mirror
  factors_alike = every_mirror n _ _ (λ i j e. rw (L i j e, R i j e, and_comm (finite (at r' j)) (finite (at l' j))))

  starts : (a c : Bool) (b : ℕ) (w w' o o' : List Float) (rest need : Float) → Facing n w w' → Facing n o o'
      → Turns n (start a c b w o l r rest need) (start a c b w' o' l' r' rest need)
  unfolding start
  starts false c b w w' o o' rest need W O = both_ended failures
  starts true false b w w' o o' rest need W O = both_ended reports
  starts true true b w w' o o' rest need W O = both_going W O L R

-- ---- a step, and the run
module _ (n : ℕ) (d d' : List Float) (D : Mirror n d d') (eta : Float) where
  begins : (b : ℕ) (w w' o o' : List Float) (rest : Float) → Facing n w w' → Facing n o o' → Turns n (begin (fixed_over n d eta) b w o rest) (begin (fixed_over n d' eta) b w' o' rest)
  unfolding begin
  begins b w w' o o' rest W O =
      let l = tab n (left_at o) in
      let l' = tab n (left_at o') in
      let r = tab n (right_at n o) in
      let r' = tab n (right_at n o') in
      let L : Mirror n l r' = factors n o o' O.same in
      let R : Mirror n r l' = mirror_sym n l' r (factors n o' o (mirror_sym n o o' O.same)) in
      rw (factors_alike n l l' r r' L R, norm_alike n l l' r r' L R d d' D eta) (starts n l l' r r' L R _ _ b w w' o o' rest _ W O)

  rebalances_alike : (c : Bool) (b : ℕ) (w w' o o' : List Float) (rest : Float) → Facing n w w' → Facing n o o'
      → Turns n (rebalance c (fixed_over n d eta) b w o rest) (rebalance c (fixed_over n d' eta) b w' o' rest)
  unfolding rebalance Mirror
  rebalances_alike false b w w' o o' rest W O = both_ended failures
  rebalances_alike true b w w' o o' rest W O =
      begins b (fill n 1ᶠ) (fill n 1ᶠ) _ _ rest (fill_facing n 1ᶠ) (tab_facing n _ _ (λ i j e. rw (O.same i j e, W.same i j e)))

  nexts : (k : ℕ) (c : Bool) (b : ℕ) (w w' : List Float) (g g' : Going) → Facing n w w' → Turns n (going g) (going g')
      → Turns n (next k c (fixed_over n d eta) b g w) (next k c (fixed_over n d' eta) b g' w')
  unfolding next Mirror
  nexts zero c b w w' g g' W (both_going W₀ O L R) = both_ended (vectors W O)
  nexts (suc k) false b w w' g g' W (both_going W₀ O L R) = both_going W O L R
  nexts (suc k) true b w w' g g' W (both_going {o = o} {o' = o'} {dt = dt} {rest = rest} W₀ O L R) =
      rw (every_mirror n (λ i. positive (at w i)) (λ i. positive (at w' i)) (λ i j e. ap positive (W.same i j e)))
      (rebalances_alike (every n (λ i. positive (at w' i))) b w w' o o' (rest ⊖ dt) W O)

  module _ (v v' : List Float) (m : Mirror n v v') (h : fold larger 0ᶠ v ≡ fold larger 0ᶠ v') where
    divided_facing : Facing n (divided n v) (divided n v')
    unfolding divided Mirror
    divided_facing = tab_facing n _ _ (λ i j e. rw (m i j e, h))

    smallest_alike : (k : ℕ) → rebalances (fold smaller (inf false) (divided n v)) k ≡ rebalances (fold smaller (inf false) (divided n v')) k
    unfolding rebalances divided Mirror
    smallest_alike k = ap (λ (b : Bool). ltb 0 k && b) (smallest_mirror (hex 0x16687E92154EF7AC) n _ _ (λ i j e. rw (m i j e, h)))

  steps_alike : (b : ℕ) (g g' : Going) {x y : Reply (List Float)} → Turns n (going g) (going g') → Replies n x y
      → Turns n (stepped (fixed_over n d eta) b g x) (stepped (fixed_over n d' eta) b g' y)
  unfolding stepped
  steps_alike b g g' t refusals = both_ended failures
  steps_alike b g g' (both_going {k = k} W O L R) (values {v} {v'} m h) =
      rw (smallest_alike v v' m h (k - 1)) (nexts _ _ b (divided n v) (divided n v') _ _ (divided_facing v v' m h) (both_going W O L R))

  turns : (b : ℕ) (g g' : Going) → Turns n (going g) (going g') → Turns n (turn (fixed_over n d eta) b g) (turn (fixed_over n d' eta) b g')
  unfolding turn step_operator Mirror
  turns b g g' (both_going {w} {w'} {o} {o'} {l} {l'} {r} {r'} {dt} W O L R) =
      steps_alike b _ _ (both_going W O L R)
      (taylor_replies n _ _ l l' r r' (tab_mirror n _ _ (λ i j e. rw (D i j e))) L R (eta ⊗ dt) w w' W.same)

  runs : (b : ℕ) {t t' : Turn} → Turns n t t' → Ends n (run_on b (fixed_over n d eta) t) (run_on b (fixed_over n d' eta) t')
  unfolding run_on
  runs zero (both_ended e) = e
  runs (suc b) (both_ended e) = e
  runs zero (both_going W O L R) = failures
  runs (suc b) (both_going W O L R) = runs b (turns b _ _ (both_going W O L R))

  diagonals_alike : diagonal_finite (fixed_over n d eta) ≡ diagonal_finite (fixed_over n d' eta)
  unfolding Mirror
  diagonals_alike = every_mirror n _ _ (λ i j e. ap finite (D i j e))

  firsts : (t : Bool) (tau : Float) → Turns n (first_if t (fixed_over n d eta) tau) (first_if t (fixed_over n d' eta) tau)
  unfolding first_if
  firsts false tau = both_ended failures
  firsts true tau = begins cap (fill n 1ᶠ) (fill n 1ᶠ) (fill n 0ᶠ) (fill n 0ᶠ) tau (fill_facing n 1ᶠ) (fill_facing n 0ᶠ)

  pub ends : (later : Bool) (tau : Float) → Ends n (run_for later (fixed_over n d eta) tau) (run_for later (fixed_over n d' eta) tau)
  unfolding run_from
  ends false tau = vectors (fill_facing n 1ᶠ) (fill_facing n 0ᶠ)
  ends true tau = rw diagonals_alike (runs cap (firsts (diagonal_finite (fixed_over n d' eta)) tau))

pub mirror_end : (n : ℕ) {e e' : Ended} → Ends n e e' → MirrorEnd n e e'
unfolding MirrorEnd
mirror_end n (vectors W O) = (W.same, O.same, refl)
mirror_end n reports = (refl, refl)
mirror_end n failures = refl

pub mirror_runs : MirrorRuns
mirror_runs n d d' eta m later tau = mirror_end n (ends n d d' m eta later tau)
