-- An array that holds n entries and 0.0 after them, its first n places lent and come back. Assumes nothing.
use mathlib.Core.Path.{◌≡◌, ap, ◌∙◌}
use Prim.Native.Nat.{ℕ, ◌-◌, ◌≤◌}
use native.Mathlib.Omega.{arith}
use mathlib.Core.List.{List, ◌++◌}
use lib.ListN.{length, take, drop, length-append}
use lib.Seq.{take_at, drop_at}
use lib.Ieee.{Float}
use Rattle.elementary.specs.Float.{0ᶠ}
use Rattle.operator.specs.Vectors.{fill}
use Rattle.plan.specs.Plan.{room}
use Rattle.plan.proofs.Room.{blank_apart}
use Rattle.vector.specs.Values.{padded, vector_of}
use Rattle.vector.specs.declared.ValueVector.{ValueVector}

module _ (n : ℕ) (a l : List Float) (e : a ≡ padded n l) (k : length l ≡ n) where
  pub lent : take n a ≡ l
  unfolding padded
  lent = rw e (take_at l _ n k)

  pub length_lent : length (take n a) ≡ n
  length_lent = ap length lent ∙ k

  pub lent_room : n ≤ length a
  unfolding padded
  lent_room = rw (e, length-append l (fill (room - n) 0ᶠ), k) (omega arith)

  pub back : (v : List Float) → v ++ drop n a ≡ padded n v
  unfolding padded
  back v = rw e (ap (λ (r : List Float). v ++ r) (drop_at l _ n k))

-- a blank array
pub blank_padded : (n : ℕ) (a : List Float) → a ≡ fill room 0ᶠ → n ≤ room → a ≡ padded n (fill n 0ᶠ)
unfolding padded
blank_padded n a e h = blank_apart n a e h

-- a vector's own arrays
module _ (n : ℕ) (w o : List Float) (v : ValueVector) (e : v ≡ vector_of n w o) where
  pub own_w : v.w ≡ padded n w
  unfolding vector_of
  own_w = ap (λ (x : ValueVector). x.w) e

  pub own_o : v.log_offset ≡ padded n o
  unfolding vector_of
  own_o = ap (λ (x : ValueVector). x.log_offset) e
