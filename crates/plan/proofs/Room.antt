-- A blank array, its first n places lent and come back. Assumes nothing.
use Rattle.std.proofs.Common.{◌≡◌, ℕ, ◌+◌, ◌-◌, ◌≤◌, List, ◌++◌, length, take, sym, ap, ◌∙◌, arith, length-append, take_at}
use lib.ListN.{length-replicate, replicate-append-replicate}
use lib.Ieee.{Float}
use Rattle.elementary.specs.Float.{0ᶠ}
use Rattle.operator.specs.Vectors.{tab, fill}
use Rattle.operator.proofs.Lists.{length_tab}
use Rattle.plan.specs.Plan.{room}

-- a blank array
module _ (n : ℕ) (a : List Float) (e : a ≡ fill room 0ᶠ) (h : n ≤ room) where
  pub blank_apart : a ≡ fill n 0ᶠ ++ fill (room - n) 0ᶠ
  blank_apart =
      let k : room ≡ n + (room - n) = omega arith in
      e ∙ ap (λ (m : ℕ). fill m 0ᶠ) k ∙ sym (replicate-append-replicate n (room - n) 0ᶠ)

  pub blank_part : take n a ≡ fill n 0ᶠ
  blank_part = rw blank_apart (take_at (fill n 0ᶠ) _ n (length-replicate n 0ᶠ))

  pub blank_room : n ≤ length a
  blank_room = rw (ap length e ∙ length-replicate room 0ᶠ) h

  pub blank_length : length (take n a) ≡ n
  blank_length = ap length blank_part ∙ length-replicate n 0ᶠ

-- n entries that came back, with what stands after them
module _ (n : ℕ) (d r : List Float) (k : length d ≡ n) where
  pub part_back : take n (d ++ r) ≡ d
  part_back = take_at d r n k

  pub part_length : length (take n (d ++ r)) ≡ n
  part_length = ap length part_back ∙ k

  pub part_room : n ≤ length (d ++ r)
  part_room = rw (length-append d r, k) (omega arith)

-- and by a rule
module _ (n : ℕ) (f : ℕ → Float) (d r : List Float) (e : d ≡ tab n f) where
  by_rule : length d ≡ n
  by_rule = ap length e ∙ length_tab n f

  pub stored_part : take n (d ++ r) ≡ tab n f
  stored_part = part_back n d r by_rule ∙ e

  pub stored_length : length (take n (d ++ r)) ≡ n
  stored_length = part_length n d r by_rule

  pub stored_room : n ≤ length (d ++ r)
  stored_room = part_room n d r by_rule
