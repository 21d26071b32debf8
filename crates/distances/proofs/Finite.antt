-- A distance that is answered is finite. Assumes nothing.
use Rattle.std.specs.Prelude.{Option, Result, Ok, Err}
use mathlib.Core.Path.{◌≡◌, refl, sym, ◌∙◌}
use Prim.Native.Nat.{ℕ, ◌/◌}
use native.Mathlib.Omega.{arith}
use mathlib.Core.Bool.{Bool, true, false, ◌&&◌, and-eq-true_iff}
use lib.IntN.{ℤ}
use lib.Ieee.{Float}
use Rattle.elementary.specs.Checks.{Verdict, passes, refused, first_failing}
use Rattle.vector.specs.Run.{run}
use Rattle.plan.specs.declared.RunInput.{RunInput}
use Rattle.vector.specs.declared.ValueVector.{ValueVector}
use Rattle.vector.specs.declared.Outcome.{Outcome}
use Rattle.distances.specs.Distances.{place, fine, sides, exact_at, distance_checks, distances_if, exact_distances}
use Rattle.distances.specs.FloatEntry.{refused_entry, answer_by, entry_checks, entry_if, entry_over, float_entry}
use Rattle.distances.specs.Reading.{sides_with, read_by, answer_from}
use Rattle.distances.specs.Promises.{Finite, FiniteDistances}
use Rattle.distances.specs.declared.Answer.TheVariants.{Distances}
use Rattle.distances.proofs.Checked.{passed}
use Rattle.distances.proofs.Presence.{sides_are}
use Rattle.distances.proofs.Reading.{entry_reads}
use Rattle.elementary.specs.declared.Refusal.{Refusal}

-- ---- both sides are answered where both are fine
pub sides_fine : (x y b a : Option Float) → sides (fine x && fine y) x y ≡ Ok (b, a) → Finite b a
unfolding sides
sides_fine x y b a = go (fine x && fine y) refl
  where
    go : (t : Bool) → (fine x && fine y) ≡ t → sides t x y ≡ Ok (b, a) → Finite b a
    go true h e = let u = sides_are true x y b a e in rw (← u.0, ← u.1) ((and-eq-true_iff (fine x) (fine y)).0 h)
    go false h e = let z : ◌≡◌ {A = ℕ} 0 1 = cc in absurd (omega arith)

vector_finite : (v : ValueVector) (k base : Float) (q : ℤ) (b a : Option Float) → exact_distances v k base q ≡ Ok (b, a) → Finite b a
unfolding exact_distances distances_if exact_at
vector_finite v k base q b a = go (first_failing (distance_checks v k base q))
  where
    go : (t : Verdict) → distances_if t (exact_at v k base (place (v.n / 2) q)) ≡ Ok (b, a) → Finite b a
    go passes e = sides_fine _ _ b a e
    go (refused n) e = let z : ◌≡◌ {A = ℕ} 0 1 = cc in absurd (omega arith)

-- ---- from an outcome
with_is : (s n : ℕ) (x : Result (Option Float × Option Float) Refusal) (b a : Option Float) → sides_with s x ≡ Distances b a n → x ≡ Ok (b, a)
unfolding sides_with
with_is s n (Ok (x, y)) b a e = cc
with_is s n (Err r) b a e = cc

read_finite : (o : Outcome) (v : ValueVector) (k base : Float) (q : ℤ) (b a : Option Float) (n : ℕ) → read_by o v k base q ≡ Distances b a n → Finite b a
unfolding read_by
read_finite (Outcome.Done s) v k base q b a n e = vector_finite v k base q b a (with_is s n (exact_distances v k base q) b a e)
read_finite (Outcome.OverCap need l s) v k base q b a n e = let z : ◌≡◌ {A = ℕ} 0 1 = cc in absurd (omega arith)
read_finite (Outcome.Refused r) v k base q b a n e = let z : ◌≡◌ {A = ℕ} 0 1 = cc in absurd (omega arith)

-- ---- the entry's answer is read from its vector
entry_finite : (k base : Float) (x : RunInput) (q : ℤ) (b a : Option Float) (s : ℕ) → (float_entry k base x q).answer ≡ Distances b a s → Finite b a
unfolding float_entry entry_over entry_if refused_entry answer_from
entry_finite k base x q b a s = go (first_failing (entry_checks k base x q)) refl
  where
    go : (v : Verdict) → first_failing (entry_checks k base x q) ≡ v → (entry_if v (answer_by x.bound k base q (run x))).answer ≡ Distances b a s → Finite b a
    go passes t e = let p = passed k base x q t in read_finite _ _ k base q b a s (sym (rw t at (entry_reads k base x q p.floats p.bound_is_ok p.held)) ∙ e)
    go (refused n) t e = let z : ◌≡◌ {A = ℕ} 0 1 = cc in absurd (omega arith)

pub finite_distances : FiniteDistances
unfolding answer_from
finite_distances = record { entry = entry_finite; answer = λ v. read_finite v.outcome v.vector; vector = vector_finite }
