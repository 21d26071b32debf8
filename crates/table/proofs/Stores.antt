-- What the stores of the writers leave: of the bits of floats, and of a row's numbers. Assumes nothing.
use mathlib.Core.Path.{◌≡◌, refl, sym, ap, ◌∙◌}
use mathlib.Core.List.{List, [], ◌∷◌, ◌++◌, map, append-nil}
use Prim.Native.Nat.{ℕ, zero, suc, ◌+◌, ◌-◌, ◌%◌, min, ◌<◌, ◌≤◌}
use native.Mathlib.Numerals.{add-one}
use native.Mathlib.Omega.{arith}
use borrow.Author.Tests.{le-leb, lt-leb}
use lib.ListN.{length, get_or, set, take, drop, replicate, length-set, length-map, drop_of_length-le, length-drop}
use lib.Seq.{length-take-le, take_all, take_at, take-suc, drop_at, drop-cons, drop-drop, set_at, append_snoc, sets-eq}
use borrow.Rule.Slice.PartMut.{put_mid}
use lib.Ieee.{Float, nan}
use Rattle.elementary.specs.Checks.{verdict, first_of, first_failing, check_of, by}
use Rattle.plan.specs.declared.RunInput.{RunInput}
use Rattle.vector.specs.declared.ValueVector.{ValueVector}
use Rattle.distances.specs.Distances.{lent}
use Rattle.table.specs.Refusals.{small_table}
use Rattle.table.specs.Places.{table_room, rows_kept, row_at}
use Rattle.table.specs.Table.{number, filled, next, bits, put_at, row_numbers, with_row, cleared_if, cleared_by, cleared}
use Rattle.table.proofs.Parts.{length_row}
use Rattle.std.specs.Prelude.{Ok, Err}

-- ---- a list that came as l, after i of as many numbers as it has are stored
pub record Stored (l s out : List ℕ) (i : ℕ) : Type 0 where
  pub few : i ≤ length s
  pub same : length l ≡ length s
  pub size : length out ≡ length l
  pub is : out ≡ take i s ++ drop i l

pub stored_none : (l s : List ℕ) → length l ≡ length s → Stored l s l 0
stored_none l s e = record { few = omega arith; same = e; size = refl; is = refl }

pub stored_more : (l s out : List ℕ) (i v : ℕ) → Stored l s out i → i < length out → v ≡ number s i → Stored l s (set out i v) (i + 1)
stored_more l s out i v d h e =
    record {
      few = omega arith;
      same = d.same;
      size = length-set out i v ∙ d.size;
      is =
          rw (d.is, e, add-one i, drop-cons l i 0 (omega arith), set_at (take i s) (number l i) (drop (suc i) l) (number s i) i (length-take-le i s d.few), take-suc s i 0 (omega arith))
          (sym (append_snoc (take i s) (number s i) (drop (suc i) l)));
    }

pub stored_all : (l s out : List ℕ) (i : ℕ) → Stored l s out i → length out ≤ i → out ≡ s
stored_all l s out i d h = d.is ∙ rw (take_all i s (omega arith), drop_of_length-le l {i = i} (omega arith), append-nil)

-- the bits of floats
pub number_bits : (l : List Float) (i : ℕ) → i < length l → number (map bits l) i ≡ bits (get_or l i nan)
number_bits [] i h = absurd (omega arith)
number_bits (x ∷ l) zero h = refl
number_bits (x ∷ l) (suc i) h = number_bits l i (omega arith)

pub bits_none : (l : List ℕ) (f : List Float) → length l ≡ length f → Stored l (map bits f) l 0
bits_none l f e = stored_none l (map bits f) (e ∙ sym (length-map f bits))

pub bits_more : (l : List ℕ) (f : List Float) (out : List ℕ) (i v : ℕ) → Stored l (map bits f) out i → i < length out → v ≡ bits (get_or f i nan) → Stored l (map bits f) (set out i v) (i + 1)
bits_more l f out i v d h e = stored_more l (map bits f) out i v d h (e ∙ sym (number_bits f i (omega (arith, length-map f bits))))

-- ---- a part that was lent comes back
pub put_back : (i n : ℕ) (u t : List ℕ) → length u ≡ n → put_mid i (i + n - i) t u ≡ put_at i u t
unfolding put_at
put_back i n u t e =
    let k : i + n - i ≡ n = omega arith in
    rw (k, drop-drop n i t, e)

-- ---- a row's numbers: seven stores, and two parts that were lent
seven : (l u v : List ℕ) (s n b e f g h : ℕ) → length l ≡ 809 → length u ≡ 401
    → put_mid 408 401 (put_mid 7 401 (set (set (set (set (set (set (set l 0 s) 1 n) 2 b) 3 e) 4 f) 5 g) 6 h) u) v ≡ (s ∷ n ∷ b ∷ e ∷ f ∷ g ∷ h ∷ []) ++ (u ++ v)
seven l u v s n b e f g h k ku =
    let rest = drop 401 (drop 7 l) in
    let m : length rest ≤ 401 = simp length-drop (omega arith) in
    rw (sets-eq (s ∷ n ∷ b ∷ e ∷ f ∷ g ∷ h ∷ []) l 0 (omega arith), take_at u rest 401 ku, drop_at u rest 401 ku, drop_of_length-le rest {i = 401} m, append-nil v)

pub row_made : (x : RunInput) (s n : ℕ) (w o : List Float) (l u v : List ℕ) (e f g h : ℕ) → length l ≡ 809 → length w ≡ 401
    → u ≡ map bits w → v ≡ map bits o → e ≡ bits x.alpha → f ≡ bits x.beta → g ≡ bits x.eta → h ≡ bits x.tau
    → put_mid 408 401 (put_mid 7 401 (set (set (set (set (set (set (set l 0 s) 1 n) 2 x.bound) 3 e) 4 f) 5 g) 6 h) u) v ≡ row_numbers x s (lent n w o)
unfolding row_numbers
row_made x s n w o l u v e f g h k kw eu ev ee ef eg eh =
    seven l u v s n x.bound e f g h k (ap length eu ∙ length-map w bits ∙ kw) ∙ rw (eu, ev, ee, ef, eg, eh)

-- ---- a row more: the two counts, and the row's part
pub row_put : (x : RunInput) (s : ℕ) (v : ValueVector) (t u : List ℕ) (at f n : ℕ) → at ≡ row_at (next t) → f ≡ min rows_kept (suc (filled t)) → n ≡ suc (next t) % rows_kept
    → length v.w ≡ 401 → length v.log_offset ≡ 401 → u ≡ row_numbers x s v → put_mid at (at + 809 - at) (set (set t 0 f) 1 n) u ≡ with_row x s v t
unfolding with_row
row_put x s v t u at f n ea ef en kw ko eu = put_back at 809 u (set (set t 0 f) 1 n) (ap length eu ∙ length_row x s v kw ko) ∙ rw (ea, ef, en, eu)

-- ---- clearing
module _ (t : List ℕ) where
  pub clear_passes : (out : List ℕ) → table_room ≤ length t → out ≡ replicate (length t) 0 → (Ok tt ≡ cleared_by t) × (out ≡ cleared t)
  unfolding check_of first_failing first_of verdict cleared_if
  clear_passes out h e = rw (le-leb table_room (length t) h) (refl, e)

  pub clear_refused : length t < table_room → (Err (by small_table) ≡ cleared_by t) × (t ≡ cleared t)
  unfolding check_of first_failing first_of verdict cleared_if
  clear_refused h = rw (lt-leb table_room (length t) h) (refl, refl)
