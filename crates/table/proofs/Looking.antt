-- What the code learns of a table, test by test: of a row, of the whole, and of the first row that agrees. Assumes nothing.
use Rattle.std.specs.Prelude.{Some, None, Ok, Err}
use mathlib.Core.Path.{◌≡◌, sym}
use Prim.Native.Nat.{ℕ, suc, ◌+◌, ◌*◌, ◌-◌, ◌<◌, ◌≤◌}
use native.Mathlib.Nat.{add-zero, sub-zero}
use native.Mathlib.Numerals.{add-one}
use native.Mathlib.Omega.{arith}
use mathlib.Core.Bool.{Bool, true, false, ◌&&◌, and_comm}
use mathlib.Core.List.{List}
use borrow.Author.Tests.{le-leb, lt-leb}
use lib.Dec.{leb, eqb}
use lib.ListN.{length}
use Rattle.elementary.specs.Checks.{verdict, first_of, first_failing, check_of, by}
use Rattle.operator.specs.Vectors.{every}
use Rattle.operator.proofs.Lists.{never_true}
use Rattle.table.specs.Refusals.{small_table, bad_table}
use Rattle.table.specs.Places.{table_room, row_at, bound_at}
use Rattle.table.specs.Table.{number, filled, next, counts_ok, row_ok, table_ok, table_checks, first_from}
use Rattle.table.proofs.Checked.{row_passed}

-- ---- a row that begins at a place
module _ (t : List ℕ) (r at : ℕ) (e : at ≡ row_at r) where
  -- its bound is too large
  pub row_far : 200 < number t (at + 2) → false ≡ row_ok t r
  row_far h = let k : 200 < number t (bound_at r) = rw e at h in sym (never_true (row_ok t r) (λ f. let p = row_passed t r f in omega arith))

  -- or is not, and the other tests decide
  pub row_near : number t (at + 2) ≤ 200 → (leb (number t (at + 0)) 11000 && (leb 1 (number t (at + 2)) && eqb (number t (at + 1)) (2 * number t (at + 2) + 1))) ≡ row_ok t r
  unfolding row_ok
  row_near h =
      let k : number t (bound_at r) ≤ 200 = rw e at h in
      rw (add-zero at, e, le-leb (number t (bound_at r)) 200 k, and_comm (leb 1 (number t (bound_at r))) true)

-- ---- the whole table
module _ (t : List ℕ) where
  pub rows_decide : (b : Bool) → counts_ok (filled t) (next t) ≡ true → b ≡ every (filled t) (row_ok t) → b ≡ table_ok t
  unfolding table_ok
  rows_decide b e f = rw e f

  pub counts_off : counts_ok (filled t) (next t) ≡ false → false ≡ table_ok t
  unfolding table_ok
  counts_off e = rw e

  -- 23, 24 and neither
  pub small_refused : length t < table_room → Err (by small_table) ≡ check_of (first_failing (table_checks t))
  unfolding check_of first_failing first_of verdict
  small_refused h = rw (lt-leb table_room (length t) h)

  pub bad_refused : table_room ≤ length t → table_ok t ≡ false → Err (by bad_table) ≡ check_of (first_failing (table_checks t))
  unfolding check_of first_failing first_of verdict
  bad_refused h e = rw (le-leb table_room (length t) h, e)

  pub table_passes : table_room ≤ length t → table_ok t ≡ true → Ok tt ≡ check_of (first_failing (table_checks t))
  unfolding check_of first_failing first_of verdict
  table_passes h e = rw (le-leb table_room (length t) h, e)

-- ---- the first of n places from place r on
pub first_all : (n : ℕ) (p : ℕ → Bool) → first_from 0 n p ≡ first_from 0 (n - 0) p
first_all n p = rw (sub-zero n)

module _ (n : ℕ) (p : ℕ → Bool) (r : ℕ) where
  pub first_here : r < n → p r ≡ true → first_from r (n - r) p ≡ Some r
  unfolding first_from
  first_here h e = let k : n - r ≡ suc (n - suc r) = omega arith in rw (k, e)

  pub first_on : r < n → p r ≡ false → first_from r (n - r) p ≡ first_from (r + 1) (n - (r + 1)) p
  unfolding first_from
  first_on h e = let k : n - r ≡ suc (n - suc r) = omega arith in rw (k, e, add-one r)

  pub first_none : n ≤ r → first_from r (n - r) p ≡ None
  unfolding first_from
  first_none h = let k : n - r ≡ 0 = omega arith in rw k
