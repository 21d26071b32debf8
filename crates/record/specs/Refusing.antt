-- Document 01 and change request 1: each of 6, 7, 2 and 20 is the reply of this layer in just the situation named. Named statements, each proved once, in proofs/. Definitions only.
use Rattle.std.specs.Prelude.{◌≡◌, ◌⊎◌, ◌↔◌, ℕ, suc, ◌-◌, ◌<◌, ◌≤◌, Bool, true, false, ◌&&◌, List, [], ◌∷◌, ◌++◌, length, drop, leb, Err}
use Rattle.amounts.specs.Refusals.{limits}
use Rattle.record.specs.Refusals.{cut_short, malformed, small_record_buffer}
use Rattle.record.specs.Record.{taken, most_groups, numbers, fields, record_of, record_ok, read_record, numbers_answer, numbers_left}
use Rattle.record.specs.Save.{none_below, record_room, saved, saved_in}
use Rattle.record.specs.declared.record.Record.{Record}
use Rattle.record.specs.declared.record.RecordAnswer.TheVariants as RecordAnswer
use Rattle.elementary.specs.Checks.{by}

-- ==== 6 and 7, over the bytes
-- every byte has its top bit set: another group follows each
unfoldable pub all_top : List ℕ → Bool
all_top [] = true
all_top (b ∷ l) = leb 128 b && all_top l

-- a whole number: fewer than the most groups that another follows, and the last, which is zero only where it is alone
abbrev pub WholeNumber : List ℕ → Type 0
WholeNumber u = (w : List ℕ) × (b : ℕ) × (u ≡ w ++ (b ∷ [])) × (all_top w ≡ true) × (length w < most_groups) × (b < 128) × (b ≡ 0 → w ≡ [])

-- the bytes end inside a number, or before it
abbrev pub EndsInside : List ℕ → Type 0
EndsInside l = (all_top l ≡ true) × (length l < most_groups)

-- the eighth byte has its top bit set, as those before it
abbrev pub NinthGroup : List ℕ → Type 0
NinthGroup l = (w : List ℕ) × (r : List ℕ) × (l ≡ w ++ r) × (all_top w ≡ true) × (length w ≡ most_groups)

-- of several groups, no more than the most, the last is zero
abbrev pub ZeroLast : List ℕ → Type 0
ZeroLast l = (w : List ℕ) × (r : List ℕ) × (l ≡ w ++ (0 ∷ r)) × (all_top w ≡ true) × (0 < length w) × (length w < most_groups)

-- n whole numbers stand at the head of some bytes, and r after them
pub data After (l : List ℕ) : ℕ → List ℕ → Type 0 where
  at_once : After l 0 l
  further : {n : ℕ} {u r : List ℕ} → After l n (u ++ r) → WholeNumber u → After l (suc n) r

-- of m numbers, after fewer than these, the next one does not do: the first met decides
pub data StoppedBefore (m : ℕ) (l : List ℕ) : ℕ → Type 0 where
  by_6 : {n : ℕ} {r : List ℕ} → n < m → After l n r → EndsInside r → StoppedBefore m l cut_short
  by_7_ninth : {n : ℕ} {r : List ℕ} → n < m → After l n r → NinthGroup r → StoppedBefore m l malformed
  by_7_zero : {n : ℕ} {r : List ℕ} → n < m → After l n r → ZeroLast r → StoppedBefore m l malformed

-- as many numbers as a slice has places: a refusal leaves the slice as it was
abbrev pub NumbersRefusals : Type 0
NumbersRefusals = (s : List ℕ) (at : ℕ) (out : List ℕ) (k : ℕ)
    → let x = numbers (length out) (drop at s) in
    ((numbers_answer (length s) x ≡ Err (by k)) ↔ StoppedBefore (length out) (drop at s) k) × (numbers_answer (length s) x ≡ Err (by k) → numbers_left x out ≡ out)

-- a record's eleven
abbrev pub Stopped : List ℕ → ℕ → Type 0
Stopped l k = StoppedBefore fields l k

abbrev pub RecordRefusals : Type 0
RecordRefusals = (s : List ℕ) (at k : ℕ) → (read_record s at ≡ RecordAnswer.Refused (by k)) ↔ Stopped (drop at s) k

-- ==== 2: all numbers are taken, and one is beyond its limit; reading goes on after them
abbrev pub Beyond : List ℕ → ℕ → ℕ → Type 0
Beyond s at next = (v : List ℕ) × (r : List ℕ) × (numbers fields (drop at s) ≡ taken v r) × (record_ok (record_of v) ≡ false) × (next ≡ length s - length r)

abbrev pub RecordSkips : Type 0
RecordSkips = (s : List ℕ) (at k next : ℕ) → (read_record s at ≡ RecordAnswer.Skipped (by k) next) ↔ ((k ≡ limits) × Beyond s at next)

-- ==== a record that is saved: 20 where the buffer has fewer than 88 bytes, whatever the record; then 2 where a number is past its limit, or below zero and not the holding; no other, and a refusal leaves the buffer as it was
abbrev pub SaveRefusals : Type 0
SaveRefusals = (r : Record) (b : List ℕ)
    → ((saved r b ≡ Err (by small_record_buffer)) ↔ (length b < record_room))
    × ((saved r b ≡ Err (by limits)) ↔ ((record_room ≤ length b) × ((record_ok r ≡ false) ⊎ (none_below r ≡ false))))
    × ((k : ℕ) → saved r b ≡ Err (by k) → ((k ≡ small_record_buffer) ⊎ (k ≡ limits)) × (saved_in r b ≡ b))
