-- What the checks of a read from a vector say: where they pass, the place lies within it and is read; else their number refuses. And an entry that is lent by its bits. Assumes nothing.
use Rattle.std.specs.Prelude.{Ok, Err}
use mathlib.Core.Path.{◌≡◌, refl}
use Prim.Native.Nat.{ℕ, zero, suc, ◌/◌, ◌<◌, ◌≤◌}
use native.Mathlib.Omega.{arith}
use mathlib.Core.List.{List, [], ◌∷◌, map}
use lib.ListN.{length, get_or}
use lib.IntN.{ℤ, nat_abs}
use lib.Ieee.{Float}
use borrow.Author.Tests.{leb-true}
use Rattle.elementary.specs.Checks.{Verdict, passes, first_failing, check_of, Passes, none, each}
use Rattle.elementary.proofs.Checks.{none_failing, check_passes, check_refused}
use Rattle.distances.specs.Distances.{lent, place, exact_at, distance_checks, distances_if, exact_distances}
use Rattle.operator.specs.Vectors.{at}
use Rattle.distances.proofs.Holdings.{length_range, place_most}
use Rattle.elementary.specs.declared.Refusal.{Refusal}

-- the verdict on a read at q lots of a vector of n entries, whatever they are
abbrev pub read_verdict : ℕ → Float → Float → ℤ → Verdict
read_verdict n k base q = first_failing (distance_checks (lent n [] []) k base q)

module _ (n : ℕ) (k base : Float) (q : ℤ) where
  pub record Readable : Type 0 where
    pub half : n / 2 ≤ 200
    pub most : n ≤ 401
    pub held : nat_abs q ≤ n / 2
    pub inside : place (n / 2) q < n
    pub read : (w o : List Float) → exact_distances (lent n w o) k base q ≡ exact_at (lent n w o) k base (place (n / 2) q)

  read_is : read_verdict n k base q ≡ passes → (w o : List Float) → exact_distances (lent n w o) k base q ≡ exact_at (lent n w o) k base (place (n / 2) q)
  unfolding exact_distances distances_if
  read_is e w o = rw e

  pub readable : Ok tt ≡ check_of (read_verdict n k base q) → Readable
  readable h = let e = check_passes (read_verdict n k base q) h in go e ((none_failing (distance_checks (lent n [] []) k base q)).0 e)
    where
      go : read_verdict n k base q ≡ passes → Passes (distance_checks (lent n [] []) k base q) → Readable
      go e (each f (each l (each b none))) =
          let r = length_range n l in
          let t = leb-true (nat_abs q) (n / 2) b in
          record { half = r.0; most = omega arith; held = t; inside = omega (arith, place_most q (n / 2) t); read = read_is e }

  pub unreadable : (m : Refusal) → Err m ≡ check_of (read_verdict n k base q) → (w o : List Float) → exact_distances (lent n w o) k base q ≡ Err m
  unfolding exact_distances distances_if
  unreadable m h w o = rw (check_refused (read_verdict n k base q) m h)

-- ---- an entry that is lent, by the float that it stands for
pub at_map : {A : Type 0} (f : A → Float) (l : List A) (i : ℕ) (d : A) → i < length l → at (map f l) i ≡ f (get_or l i d)
at_map f [] i d h = absurd (omega arith)
at_map f (x ∷ l) zero d h = refl
at_map f (x ∷ l) (suc i) d h = at_map f l i d (omega arith)
