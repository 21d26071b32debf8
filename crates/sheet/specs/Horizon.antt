-- Change request 6 for a sheet: is a record's horizon too long? Each statement is proved once, in proofs/. Definitions only.
use Rattle.std.specs.Prelude.{◌≡◌, ◌⊎◌, ◌↔◌, ℕ, ◌<◌, ◌≤◌, List, length, Float, Err}
use Rattle.plan.specs.declared.FirstPlan.{FirstPlan}
use Rattle.quote.specs.Horizon.{desk_plan}
use Rattle.lines.specs.Refusals.{small_buffer}
use Rattle.record.specs.Record.{config_of, read_record}
use Rattle.lines.specs.Lines.{least_room, has_room, plan_line, Text, text}
use Rattle.sheet.specs.Sheet.{record_line, Step, line, step_at, line_at, answered}
use Rattle.record.specs.declared.record.Record.{Record}
use Rattle.record.specs.declared.record.RecordAnswer.TheVariants as RecordAnswer
use Rattle.elementary.specs.Checks.{by}

-- a record's plan, and its line
abbrev pub plan_of : Record → FirstPlan
plan_of r = desk_plan r.mid_price r.inventory (config_of r) r.volatility r.current_time

unfoldable pub record_plan : Record → List ℕ
record_plan r = plan_line (plan_of r)

-- at a place
abbrev pub plan_text : Record → Text
plan_text r = text (record_plan r)

unfoldable pub plan_at : List ℕ → ℕ → Step
plan_at s at = step_at plan_text s at (read_record s at)

-- ---- the lines of a sheet's plans
pub record HorizonLines : Type 0 where
  -- a plan over the cap, and one that is refused: the very line that `next_line` writes for the record
  pub over : (r : Record) (need : Float) (b : ℕ) → plan_of r ≡ FirstPlan.OverCap need b → record_plan r ≡ record_line r
  pub refused : (r : Record) (n : ℕ) → plan_of r ≡ FirstPlan.Refused (by n) → record_plan r ≡ record_line r
  -- at any place: the line that `next_line` writes there, with the same next place, or that of a record whose plan has steps
  pub alike : (s : List ℕ) (at : ℕ) (t : List ℕ) (next : ℕ) → plan_at s at ≡ line t next
      → (line_at s at ≡ line t next) ⊎ ((r : Record) × (n : ℕ) × (read_record s at ≡ RecordAnswer.Record r next) × (plan_of r ≡ FirstPlan.Steps n))
  -- a line fits the least line buffer; reading goes on, and stays within the sheet
  pub fits : (s : List ℕ) (at : ℕ) (t : List ℕ) (next : ℕ) → plan_at s at ≡ line t next → length t ≤ least_room
  pub moves : (s : List ℕ) (at : ℕ) (t : List ℕ) (next : ℕ) → plan_at s at ≡ line t next → (at < next) × (next ≤ length s)
  -- 8: the buffer has fewer than 64 bytes, whatever the sheet and the place
  pub small : (s : List ℕ) (at : ℕ) (b : List ℕ) (k : ℕ) → (answered (has_room b) (plan_at s at) ≡ Err (by k)) ↔ ((k ≡ small_buffer) × (length b < least_room))
