-- The texts that stand for a record of a sheet, by their kind: its line, its ladder or its plan. Definitions only.
use Rattle.std.specs.Prelude.{ℕ, Bool, true, false, List}
use Rattle.record.specs.Record.{read_as}
use Rattle.record.specs.declared.record.Record.{Record}
use Rattle.lines.specs.Lines.{least_room, Text, text}
use Rattle.ladders.specs.Ladder.{most_ladder}
use Rattle.sheet.specs.Sheet.{record_line, Step, step_at, printed_by}
use Rattle.sheet.specs.Ladders.{whole_ladder}
use Rattle.sheet.specs.Horizon.{record_plan}
use Rattle.sheet.specs.declared.text.Kind.{Kind}

-- is a record read without its holding: for its ladder alone
abbrev pub is_flat : Kind → Bool
is_flat Kind.Line = false
is_flat Kind.Ladder = true
is_flat Kind.Plan = false

-- the room for any text of a kind
abbrev pub room_of : Kind → ℕ
room_of Kind.Line = least_room
room_of Kind.Ladder = most_ladder
room_of Kind.Plan = least_room

-- a record's text, where there is that room
unfoldable pub text_of : Kind → Record → List ℕ
text_of Kind.Line r = record_line r
text_of Kind.Ladder r = whole_ladder r
text_of Kind.Plan r = record_plan r

-- at a place
abbrev pub whole_text : Kind → Record → Text
whole_text k r = text (text_of k r)

unfoldable pub text_at : Kind → List ℕ → ℕ → Step
text_at k s at = step_at (whole_text k) s at (read_as (is_flat k) s at)

-- what is printed for a whole sheet
unfoldable pub printed_as : Kind → List ℕ → List ℕ
printed_as k s = printed_by (text_of k) (is_flat k) s
