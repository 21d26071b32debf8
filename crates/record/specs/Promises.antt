-- What holds of every record, as named statements. Each is proved once, in proofs/. Definitions only.
use Rattle.std.specs.Prelude.{◌≡◌, ◌↔◌, true, ℕ, suc, ◌+◌, ◌-◌, ◌^◌, ◌<◌, ◌≤◌, List, [], ◌∷◌, ◌++◌, ℤ, pos, length, get_or, take, drop, Ok}
use Rattle.amounts.specs.Amounts.{billion}
use Rattle.record.specs.Record.{taken, number, stored, holding, read_record, config_of}
use Rattle.buffers.specs.Over.{over}
use Rattle.record.specs.Save.{in_groups, save_ok, record_room, saved, saved_in}
use Rattle.record.specs.declared.record.Record.{Record}
use Rattle.record.specs.declared.record.RecordAnswer.TheVariants as RecordAnswer
use Rattle.elementary.specs.Checks.{by}

-- ---- the paper's example: 1,000,000,000 is hex 80 94 EB DC 03
abbrev pub BillionRead : Type 0
BillionRead = number (0x80 ∷ 0x94 ∷ 0xEB ∷ 0xDC ∷ 0x03 ∷ []) ≡ taken billion []

-- ---- every holding is stored as one number, and every number stores one holding
abbrev pub HoldingsStored : Type 0
HoldingsStored = ((h : ℤ) → holding (stored h) ≡ h) × ((n : ℕ) → stored (holding n) ≡ n)

-- ---- change request 7: stored records mean drift 0
abbrev pub RecordsDriftless : Type 0
RecordsDriftless = (r : Record) → (config_of r).drift ≡ pos 0

-- ---- reading goes on, and stays within the sheet: after a record, and after one that 2 refuses
abbrev pub RecordsMove : Type 0
RecordsMove = (s : List ℕ) (at next : ℕ)
    → ((r : Record) → read_record s at ≡ RecordAnswer.Record r next → (at < next) × (next ≤ length s))
    × ((k : ℕ) → read_record s at ≡ RecordAnswer.Skipped (by k) next → (at < next) × (next ≤ length s))

-- ==== change request 1: records saved
-- a list as a slice of bytes holds it
abbrev pub Bytes : List ℕ → Type 0
Bytes l = (i : ℕ) → get_or l i 0 < 256

-- ---- so many groups hold just the numbers below that power of 128: none is written in more than it takes
abbrev pub FewestGroups : Type 0
FewestGroups = (k n : ℕ) → (length (in_groups n) ≤ suc k) ↔ (n < 128 ^ suc k)

-- ---- a saved record fits its buffer
abbrev pub SavesFit : Type 0
SavesFit = (r : Record) (b : List ℕ) (n : ℕ) → saved r b ≡ Ok n → n ≤ length b

-- ---- what the reader takes without 6, 7 or 2 comes out as the very bytes that went in
abbrev pub SavedAsRead : Type 0
SavedAsRead = (s : List ℕ) (at : ℕ) (r : Record) (next : ℕ) → Bytes s → read_record s at ≡ RecordAnswer.Record r next
    → (b : List ℕ) → record_room ≤ length b
    → (saved r b ≡ Ok (next - at)) × (saved_in r b ≡ over (take (next - at) (drop at s)) b)

-- ---- a record within the limits is saved, and reads back to its own numbers, whatever stands before and after it; the next place is where it ended
abbrev pub ReadAsSaved : Type 0
ReadAsSaved = (r : Record) (b : List ℕ) → save_ok r ≡ true → record_room ≤ length b
    → (n : ℕ) × (saved r b ≡ Ok n)
    × ((u t : List ℕ) → read_record (u ++ take n (saved_in r b) ++ t) (length u) ≡ RecordAnswer.Record r (length u + n))
