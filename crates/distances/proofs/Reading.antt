-- The float entry's answer, where the checks pass, is read from the value vector of its floats. Assumes nothing.
use Rattle.std.specs.Prelude.{Option, Result, Ok, Err}
use mathlib.Core.Path.{◌≡◌, refl}
use mathlib.Core.Logic.{◌⊎◌, inl, inr}
use Prim.Native.Nat.{ℕ, ◌*◌, ◌+◌, ◌/◌}
use native.Mathlib.Omega.{arith}
use mathlib.Core.Bool.{true, ◌&&◌}
use mathlib.Core.List.{List}
use lib.IntN.{ℤ}
use lib.Ieee.{Float}
use borrow.Author.Tests.{eq-eqb}
use Rattle.elementary.specs.Float.{positive}
use Rattle.elementary.specs.Checks.{verdict, first_of, first_failing, by}
use Rattle.vector.specs.Run.{Ended, vector, over_cap, failed, bound_ok, run}
use Rattle.operator.specs.Operator.{rows}
use Rattle.vector.specs.Values.{vector_of, refused_vector, vector_by}
use Rattle.vector.specs.declared.ValueVector.{ValueVector}
use Rattle.vector.specs.declared.Outcome.{Outcome}
use Rattle.distances.specs.Distances.{within, place, length_ok, exact_at, distances_if, exact_distances}
use Rattle.distances.specs.FloatEntry.{refused_entry, with_vector, answer_by, entry_if, entry_over, float_entry}
use Rattle.distances.specs.Reading.{sides_with, read_by, answer_from, EntryReads, ReadRefusals}
use Rattle.distances.specs.declared.Answer.TheVariants as Answer
use Rattle.distances.proofs.Checked.{scale_pass, vector_is, all_pass}
use Rattle.elementary.specs.declared.Refusal.{Refusal}

-- ---- the length of a bound's vector
half_rows : (b : ℕ) → (2 * b + 1) / 2 ≡ b
half_rows b = omega arith

rows_fit : (b : ℕ) → bound_ok b ≡ true → length_ok (rows b) ≡ true
unfolding length_ok
rows_fit b h = rw (half_rows b, h) (eq-eqb (rows b) (rows b) refl)

-- ---- a vector read at a holding within its bound
module _ (b : ℕ) (k base : Float) (q : ℤ) (s : (positive k && positive base) ≡ true) (h : bound_ok b ≡ true) (g : within b q ≡ true) where
  with_is : (w o : List Float) (n : ℕ) (x : Result (Option Float × Option Float) Refusal) → (with_vector (vector_of (rows b) w o) n x).answer ≡ sides_with n x
  unfolding with_vector sides_with refused_entry
  with_is w o n (Ok (d, e)) = refl
  with_is w o n (Err r) = refl

  at_place : (w o : List Float) → exact_distances (vector_of (rows b) w o) k base q ≡ exact_at (vector_of (rows b) w o) k base (place b q)
  unfolding exact_distances distances_if vector_of first_failing first_of verdict
  at_place w o = rw (s, rows_fit b h, half_rows b, g)

  read_is : (e : Ended) → (answer_by b k base q e).answer ≡ answer_from (vector_by (rows b) e) k base q
  unfolding answer_by answer_from read_by vector_by vector_of refused_vector refused_entry
  read_is (vector w o n) = rw (at_place w o) (with_is w o n _)
  read_is (over_cap need l) = refl
  read_is (failed n) = refl

pub entry_reads : EntryReads
unfolding float_entry entry_over entry_if
entry_reads k base x q f b h = rw (all_pass k base x q f b h, vector_is k base x f b) (read_is x.bound k base q (scale_pass k base x f) b h (run x))

-- ---- refusals
sides_refused : (s : ℕ) (x : Result (Option Float × Option Float) Refusal) (n : ℕ) → sides_with s x ≡ Answer.Refused (by n) → x ≡ Err (by n)
unfolding sides_with
sides_refused s (Ok (b, a)) n e = cc
sides_refused s (Err r) n e = cc

module _ (v : ValueVector) (k base : Float) (q : ℤ) (n : ℕ) where
  read_refused : (o : Outcome) → read_by o v k base q ≡ Answer.Refused (by n)
      → (o ≡ Outcome.Refused (by n)) ⊎ ((s : ℕ) × (o ≡ Outcome.Done s) × (exact_distances v k base q ≡ Err (by n)))
  unfolding read_by
  read_refused (Outcome.Done s) e = inr (s, refl, sides_refused s _ n e)
  read_refused (Outcome.OverCap need b s) e = let z : ◌≡◌ {A = ℕ} 0 1 = cc in absurd (omega arith)
  read_refused (Outcome.Refused r) e = inl (cc)

pub read_refusals : ReadRefusals
unfolding answer_from read_by sides_with
read_refusals a k base q n = (
  read_refused a.vector k base q n a.outcome,
  λ x. elim x [ inl e ↦ rw e | inr y ↦ rw (y.1, y.2) ],
)
