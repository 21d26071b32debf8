-- The promises of a saved record: it fits, its refusals, the reader takes it back, and what the reader took comes out as it went in. Assumes nothing.
use Rattle.std.specs.Prelude.{Result, Ok, Err}
use mathlib.Core.Path.{◌≡◌, refl, sym, ap, ◌∙◌, subst}
use mathlib.Core.Logic.{◌⊎◌, inl, inr}
use Prim.Native.Nat.{ℕ, ◌+◌, ◌-◌, ◌<◌, ◌≤◌}
use native.Mathlib.Omega.{arith}
use mathlib.Core.Bool.{Bool, true, false, ◌&&◌}
use mathlib.Core.List.{List, ◌++◌, append_assoc}
use borrow.Author.Tests.{leb-true, leb-false}
use lib.ListN.{length, take, drop, length-append, length-drop}
use lib.Seq.{take_at, drop_at, take-append_seam}
use lib.Dec.{T, leb, leb-zero}
use mir.Facts.{and_yes}
use Rattle.amounts.specs.Refusals.{limits}
use Rattle.record.specs.Refusals.{small_record_buffer}
use Rattle.record.specs.Record.{Read, taken, refused, numbers, fields, record_of, record_ok, record_if, record_from, read_record}
use Rattle.buffers.specs.Over.{over}
use Rattle.record.specs.Save.{all_in_groups, numbers_of, record_bytes, none_below, save_ok, record_room, saved, saved_in}
use Rattle.record.specs.Promises.{Bytes, RecordsMove, SavesFit, SavedAsRead, ReadAsSaved}
use Rattle.record.specs.Refusing.{SaveRefusals}
use Rattle.record.specs.declared.record.Record.{Record}
use Rattle.record.specs.declared.record.RecordAnswer.TheVariants as RecordAnswer
use Rattle.record.proofs.Left.{next_moves, next_left}
use Rattle.record.proofs.Refusing.{record_skips}
use Rattle.record.proofs.Saving.{bytes_drop, numbers_written, numbers_again, record_again, bytes_fit, record_read, saved_short, saved_none, saved_whole}
use Rattle.elementary.specs.declared.Refusal.{Refusal}
use Rattle.elementary.specs.Checks.{by}
use Rattle.elementary.proofs.Checks.{same_err}

-- ---- the three ways that a call ends
data Way (r : Record) (b : List ℕ) : Type 0 where
  short : length b < record_room → Way r b
  none : record_room ≤ length b → save_ok r ≡ false → Way r b
  whole : record_room ≤ length b → save_ok r ≡ true → Way r b

way : (r : Record) (b : List ℕ) → Way r b
way r b = go (leb record_room (length b)) (leb-true record_room (length b)) (leb-false record_room (length b)) (save_ok r) refl
  where
    go : (t : Bool) → (t ≡ true → record_room ≤ length b) → (t ≡ false → length b < record_room) → (k : Bool) → save_ok r ≡ k → Way r b
    go false f g k e = short (g refl)
    go true f g false e = none (f refl) e
    go true f g true e = whole (f refl) e

not_both : (x : Result ℕ Refusal) (j n : ℕ) → x ≡ Err (by j) → x ≡ Ok n → ⊥
not_both x j n p q = let z : ◌≡◌ {A = ℕ} 0 1 = cc in omega arith

same_number : (x : Result ℕ Refusal) (j k : ℕ) → x ≡ Err (by j) → x ≡ Err (by k) → j ≡ k
same_number x j k p q = same_err (sym p ∙ q)

-- ---- a saved record fits its buffer
pub saves_fit : SavesFit
saves_fit r b n e = go (way r b)
  where
    go : Way r b → n ≤ length b
    go (short h) = absurd (not_both (saved r b) small_record_buffer n (saved_short r b h).0 e)
    go (none h k) = absurd (not_both (saved r b) limits n (saved_none r b h k).0 e)
    go (whole h k) =
        let x : length (record_bytes r) ≡ n = cc (saved_whole r b h k).0 in
        omega (arith, bytes_fit r (subst T (sym k) tt))

-- ---- its refusals
and-false : (x y : Bool) → (x && y) ≡ false → (x ≡ false) ⊎ (y ≡ false)
and-false true y e = inr e
and-false false y e = inl refl

false_and : (x y : Bool) → (x ≡ false) ⊎ (y ≡ false) → (x && y) ≡ false
false_and true y (inl e) = let z : ◌≡◌ {A = ℕ} 0 1 = cc in absurd (omega arith)
false_and true y (inr e) = e
false_and false y h = refl

module _ (r : Record) (b : List ℕ) where
  by_20 : saved r b ≡ Err (by small_record_buffer) → Way r b → length b < record_room
  by_20 e (short h) = h
  by_20 e (none h k) = let z = same_number (saved r b) limits small_record_buffer (saved_none r b h k).0 e in absurd (omega arith)
  by_20 e (whole h k) = absurd (not_both (saved r b) small_record_buffer _ e (saved_whole r b h k).0)

  by_2 : saved r b ≡ Err (by limits) → Way r b → (record_room ≤ length b) × ((record_ok r ≡ false) ⊎ (none_below r ≡ false))
  unfolding save_ok
  by_2 e (short h) = let z = same_number (saved r b) small_record_buffer limits (saved_short r b h).0 e in absurd (omega arith)
  by_2 e (none h k) = (h, and-false (record_ok r) (none_below r) k)
  by_2 e (whole h k) = absurd (not_both (saved r b) limits _ e (saved_whole r b h k).0)

  cannot : (record_ok r ≡ false) ⊎ (none_below r ≡ false) → save_ok r ≡ false
  unfolding save_ok
  cannot h = false_and (record_ok r) (none_below r) h

  by_none : (k : ℕ) → saved r b ≡ Err (by k) → Way r b → ((k ≡ small_record_buffer) ⊎ (k ≡ limits)) × (saved_in r b ≡ b)
  by_none k e (short h) = (inl (same_number (saved r b) k small_record_buffer e (saved_short r b h).0), (saved_short r b h).1)
  by_none k e (none h c) = (inr (same_number (saved r b) k limits e (saved_none r b h c).0), (saved_none r b h c).1)
  by_none k e (whole h c) = absurd (not_both (saved r b) k _ e (saved_whole r b h c).0)

pub save_refusals : SaveRefusals
save_refusals r b = (
  (λ e. by_20 r b e (way r b), λ h. (saved_short r b h).0),
  (λ e. by_2 r b e (way r b), λ h. (saved_none r b h.0 (cannot r b h.1)).0),
  λ k e. by_none r b k e (way r b),
)

-- ---- what is saved reads back
yes : (t : Bool) → T t → t ≡ true
yes true h = refl
yes false h = absurd h

back : (r : Record) → T (save_ok r) → (u t : List ℕ) → read_record (u ++ record_bytes r ++ t) (length u) ≡ RecordAnswer.Record r (length u + length (record_bytes r))
unfolding read_record record_from record_if save_ok
back r h u t =
    let e : drop (length u) (u ++ record_bytes r ++ t) ≡ record_bytes r ++ t = ap (drop (length u)) (append_assoc u (record_bytes r) t) ∙ drop_at u (record_bytes r ++ t) (length u) refl in
    let o : record_ok r ≡ true = yes (record_ok r) (and_yes (record_ok r) (none_below r) h).0 in
    rw (e, record_read r t h, record_again r h, o) (ap (RecordAnswer.Record r) (simp length-append (omega arith)))

pub read_as_saved : ReadAsSaved
unfolding over
read_as_saved r b h k =
    let n = length (record_bytes r) in
    let w = saved_whole r b k h in
    (n, w.0, λ u t. rw (w.1, take_at (record_bytes r) (drop n b) n refl) (back r (subst T (sym h) tt) u t))

-- ---- what was read comes out as it went in
-- a record that the reader takes, and the numbers that it comes from
if_record : (t : Bool) (q r : Record) (m next : ℕ) → record_if t q m ≡ RecordAnswer.Record r next → (t ≡ true) × (q ≡ r) × (m ≡ next)
unfolding record_if
if_record true q r m next e = (refl, cc, cc)
if_record false q r m next e = let z : ◌≡◌ {A = ℕ} 0 1 = cc in absurd (omega arith)

from_record : (n : ℕ) (x : Read (List ℕ)) (r : Record) (next : ℕ) → record_from n x ≡ RecordAnswer.Record r next
    → (v : List ℕ) × (l : List ℕ) × (x ≡ taken v l) × (record_ok (record_of v) ≡ true) × (record_of v ≡ r) × (n - length l ≡ next)
unfolding record_from
from_record n (taken v l) r next e =
    let h = if_record (record_ok (record_of v)) (record_of v) r (n - length l) next e in
    (v, l, refl, h.0, h.1, h.2)
from_record n (refused k) r next e = let z : ◌≡◌ {A = ℕ} 0 1 = cc in absurd (omega arith)

none_below_lem : (v : List ℕ) → none_below (record_of v) ≡ true
unfolding none_below record_of
none_below_lem v = simp leb-zero

-- a record that the reader takes can be saved, and what is left after its bytes stands at the next place
module _ (s : List ℕ) (at : ℕ) (r : Record) (next : ℕ) (e : read_record s at ≡ RecordAnswer.Record r next) where
  pub taken_saves : save_ok r ≡ true
  unfolding read_record save_ok
  taken_saves =
      let x = from_record (length s) (numbers fields (drop at s)) r next e in
      rw (← x.4, x.3, none_below_lem x.0)

  pub taken_moves : (at < next) × (next ≤ length s)
  unfolding read_record
  taken_moves =
      let x = from_record (length s) (numbers fields (drop at s)) r next e in
      rw x.5 at (next_moves s at x.0 x.1 x.2)

  pub taken_bytes : Bytes s → (drop at s ≡ record_bytes r ++ drop next s) × (next ≡ at + length (record_bytes r))
  unfolding read_record record_bytes
  taken_bytes h =
      let x = from_record (length s) (numbers fields (drop at s)) r next e in
      let p = numbers_written fields (drop at s) x.0 x.1 (bytes_drop s at h) x.2 in
      let l : x.1 ≡ drop next s = sym (rw x.5 at (next_left s at x.0 x.1 x.2)) in
      let w : drop at s ≡ record_bytes r ++ drop next s =
      p.0 ∙ ap (λ (m : List ℕ). all_in_groups x.0 ++ m) l ∙ ap (λ (m : List ℕ). all_in_groups m ++ drop next s) (sym (numbers_again x.0 p.1) ∙ ap numbers_of x.4) in
      (w, omega (arith, taken_moves, simp (length-drop, length-append) at (ap length w)))

pub saved_as_read : SavedAsRead
saved_as_read s at r next h e b k =
    let x = taken_bytes s at r next e h in
    let n : next - at ≡ length (record_bytes r) = omega (arith, x.1) in
    let t : take (next - at) (drop at s) ≡ record_bytes r = rw (n, x.0) (take-append_seam (record_bytes r) (drop next s)) in
    rw (t, n) (saved_whole r b k (taken_saves s at r next e))

-- ---- reading goes on
skipped_moves : (s : List ℕ) (at next k : ℕ) → read_record s at ≡ RecordAnswer.Skipped (by k) next → (at < next) × (next ≤ length s)
skipped_moves s at next k e =
    let x = ((record_skips s at k next).0 e).1 in
    rw (← x.4) at (next_moves s at x.0 x.1 x.2)

pub records_move : RecordsMove
records_move s at next = (λ r e. taken_moves s at r next e, λ k e. skipped_moves s at next k e)
