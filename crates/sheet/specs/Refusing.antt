-- Document 01 and change request 4: each of 8, 9 and 21, and the line of each of 6, 7 and 2, is the reply of this layer in just the situation named. Named statements, each proved once, in proofs/. Definitions only.
use Rattle.std.specs.Prelude.{◌≡◌, ◌⊎◌, ◌↔◌, ℕ, ◌<◌, ◌≤◌, true, List, length, drop, Err}
use Rattle.amounts.specs.Refusals.{limits}
use Rattle.record.specs.Refusals.{cut_short, malformed}
use Rattle.record.specs.Record.{config_of, read_as}
use Rattle.record.specs.Refusing.{Stopped, Beyond}
use Rattle.record.specs.declared.record.Record.{Record}
use Rattle.record.specs.declared.record.RecordAnswer.TheVariants as RecordAnswer
use Rattle.lines.specs.Refusals.{small_buffer}
use Rattle.ladders.specs.Refusals.{small_ladder_buffer}
use Rattle.ladders.specs.Ladder.{ladder_room, Unrefused}
use Rattle.sheet.specs.Refusals.{long_sheet}
use Rattle.lines.specs.Lines.{refusal_line, least_room, has_room}
use Rattle.sheet.specs.Sheet.{most_bytes, line, line_at, answered, left}
use Rattle.sheet.specs.Ladders.{ladder_at}
use Rattle.sheet.specs.Kinds.{room_of}
use Rattle.sheet.specs.Fill.{filled_as, left_as, filled}
use Rattle.sheet.specs.declared.text.Kind.{Kind}
use Rattle.elementary.specs.Checks.{by}

-- before the end of a sheet that is no longer than the longest
abbrev pub Readable : List ℕ → ℕ → Type 0
Readable s at = (at < length s) × (length s ≤ most_bytes)

-- ==== 8: the buffer has fewer than 64 bytes, whatever the sheet and the place
abbrev pub BufferRefusals : Type 0
BufferRefusals = (s : List ℕ) (at : ℕ) (b : List ℕ) (k : ℕ)
    → ((answered (has_room b) (line_at s at) ≡ Err (by k)) ↔ ((k ≡ small_buffer) × (length b < least_room)))
    × ((filled s at b ≡ Err (by k)) ↔ ((k ≡ small_buffer) × (length b < least_room)))

-- of whole texts: 8 likewise; then 21, where the buffer has less than the room for any text of the kind; and a refusal leaves the buffer as it was
abbrev pub FillRefusals : Type 0
FillRefusals = (k : Kind) (s : List ℕ) (at : ℕ) (b : List ℕ) (n : ℕ)
    → ((filled_as k s at b ≡ Err (by n)) ↔ (((n ≡ small_buffer) × (length b < least_room)) ⊎ ((n ≡ small_ladder_buffer) × (least_room ≤ length b) × (length b < room_of k))))
    × (filled_as k s at b ≡ Err (by n) → left_as k s at b ≡ b)

-- ==== of ladders: 8 likewise; then 21, where a record is read whose ladder, which 2, 1 and 3 do not refuse, wants more room; and a refusal leaves the buffer as it was
abbrev pub ShortLadder : List ℕ → ℕ → ℕ → Type 0
ShortLadder s at room = Readable s at × ((r : Record) × (next : ℕ) × (read_as true s at ≡ RecordAnswer.Record r next)
    × Unrefused r.mid_price (config_of r) r.volatility r.current_time × (room < ladder_room (config_of r)))

abbrev pub LadderBufferRefusals : Type 0
LadderBufferRefusals = (s : List ℕ) (at : ℕ) (b : List ℕ) (k : ℕ)
    → ((answered (has_room b) (ladder_at (length b) s at) ≡ Err (by k))
    ↔ (((k ≡ small_buffer) × (length b < least_room)) ⊎ ((k ≡ small_ladder_buffer) × (least_room ≤ length b) × ShortLadder s at (length b))))
    × (answered (has_room b) (ladder_at (length b) s at) ≡ Err (by k) → left (has_room b) (ladder_at (length b) s at) b ≡ b)

-- ==== the lines: `R 9` for a sheet over 65,536 bytes, before its end; else `R 6` and `R 7`, after which nothing is read, and `R 2`, after which reading goes on
abbrev pub LongLine : Type 0
LongLine = (s : List ℕ) (at next : ℕ) → (line_at s at ≡ line (refusal_line long_sheet) next) ↔ ((at < length s) × (most_bytes < length s) × (next ≡ length s))

abbrev pub StoppedLine : ℕ → Type 0
StoppedLine k = (s : List ℕ) (at next : ℕ) → (line_at s at ≡ line (refusal_line k) next) ↔ (Readable s at × Stopped (drop at s) k × (next ≡ length s))

abbrev pub SkippedLine : Type 0
SkippedLine = (s : List ℕ) (at next : ℕ) → (line_at s at ≡ line (refusal_line limits) next) ↔ (Readable s at × Beyond s at next)

abbrev pub LineRefusals : Type 0
LineRefusals = LongLine × StoppedLine cut_short × StoppedLine malformed × SkippedLine
