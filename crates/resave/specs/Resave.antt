-- What is kept of a sheet: each record that the reader takes, anew from its numbers, one after the other. Definitions only.
use Rattle.std.specs.Prelude.{◌≡◌, ℕ, zero, suc, ◌≤◌, Bool, true, false, List, [], ◌++◌, length, take, leb}
use Rattle.record.specs.Record.{read_record}
use Rattle.sheet.specs.Sheet.{most_bytes}
use Rattle.record.specs.Save.{record_bytes}
use Rattle.record.specs.Promises.{Bytes}
use Rattle.record.specs.declared.record.Record.{Record}
use Rattle.record.specs.declared.record.RecordAnswer.{RecordAnswer}
use Rattle.elementary.specs.Checks.{by}

-- ---- what is kept of what the reader answers, and the place where it goes on, in a sheet of n bytes
-- a record that is refused by 2 is left out
unfoldable pub piece : RecordAnswer → List ℕ
piece (RecordAnswer.Record r next) = record_bytes r
piece (RecordAnswer.Skipped k next) = []
piece (RecordAnswer.Refused k) = []

-- after 6 or 7 nothing more is read
unfoldable pub onward : ℕ → RecordAnswer → ℕ
onward n (RecordAnswer.Record r next) = next
onward n (RecordAnswer.Skipped k next) = next
onward n (RecordAnswer.Refused k) = n

-- ---- from a place on; a record takes a byte at least, so as many turns as bytes are enough
unfoldable pub kept_from : ℕ → List ℕ → ℕ → List ℕ
kept_from zero s at = []
kept_from (suc k) s at = let a = read_record s at in piece a ++ kept_from k s (onward (length s) a)

-- is the sheet no longer than the longest; of one that is longer nothing is kept
unfoldable pub kept_if : Bool → List ℕ → List ℕ
kept_if true s = kept_from (length s) s 0
kept_if false s = []

unfoldable pub kept : List ℕ → List ℕ
kept s = kept_if (leb (length s) most_bytes) s

-- ==== a statement: what is read without 2 up to a place where 6 or 7 is met, or up to the end, is kept as it is, byte for byte
-- records taken one after the other, from a place to another
pub data Taken (s : List ℕ) : ℕ → ℕ → Type 0 where
  here : {at : ℕ} → Taken s at at
  further : {at next p : ℕ} (r : Record) → read_record s at ≡ RecordAnswer.Record r next → Taken s next p → Taken s at p

abbrev pub KeptUpTo : Type 0
KeptUpTo = (s : List ℕ) (p k : ℕ) → Bytes s → length s ≤ most_bytes → Taken s 0 p → read_record s p ≡ RecordAnswer.Refused (by k) → kept s ≡ take p s
