-- What the crate's own functions hand each other. No public contract cites this file. Definitions only.
use Rattle.std.specs.Prelude.{ℕ, List, Result, Ok, Err, Option, Some}
use Rattle.record.specs.Record.{read_as}
use Rattle.lines.specs.Lines.{Text}
use Rattle.sheet.specs.Sheet.{line_text, Step, step_at}
use Rattle.sheet.specs.Ladders.{record_ladder}
use Rattle.sheet.specs.Horizon.{plan_text}
use Rattle.sheet.specs.Kinds.{is_flat}
use Rattle.record.specs.declared.record.Record.{Record}
use Rattle.sheet.specs.declared.text.Kind.{Kind}
use Rattle.elementary.specs.declared.Refusal.{Refusal}

-- a record's line, its ladder or its plan, for a buffer of so many bytes
unfoldable pub record_text : Kind → ℕ → Record → Text
record_text Kind.Line room r = line_text r
record_text Kind.Ladder room r = record_ladder room r
record_text Kind.Plan room r = plan_text r

abbrev pub text_in : Kind → ℕ → List ℕ → ℕ → Step
text_in k room s at = step_at (record_text k room) s at (read_as (is_flat k) s at)

-- a step's answer, by that of a writer
unfoldable pub stepped_by : Result ℕ Refusal → ℕ → Result (Option (ℕ × ℕ)) Refusal
stepped_by (Ok n) next = Ok (Some (n, next))
stepped_by (Err k) next = Err k
