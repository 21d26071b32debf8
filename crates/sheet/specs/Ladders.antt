-- Change requests 4 and 7: the ladders of a sheet's records. Definitions only.
use Rattle.std.specs.Prelude.{◌≡◌, ℕ, ◌+◌, ◌*◌, Bool, true, false, List, eqb, Result, Ok, Err}
use Rattle.model.specs.Model.{check_call}
use Rattle.record.specs.Record.{config_of, read_as}
use Rattle.ladders.specs.Refusals.{small_ladder_buffer}
use Rattle.ladders.specs.Ladder.{ladder, ladder_for, LinesFace}
use Rattle.lines.specs.Lines.{refusal_line, Text, text, refusal}
use Rattle.sheet.specs.Sheet.{Step, step_at}
use Rattle.record.specs.declared.record.Record.{Record}
use Rattle.elementary.specs.declared.Refusal.{Refusal}

-- ---- a record's ladder, its holding left aside: what refuses it as a whole has a line, but for the buffer's own 21
unfoldable pub refused_by : Bool → ℕ → Text
refused_by true n = refusal n
refused_by false n = text (refusal_line n)

unfoldable pub ladder_text : Text → Text
ladder_text (text t) = text t
ladder_text (refusal n) = refused_by (eqb n small_ladder_buffer) n

unfoldable pub record_ladder : ℕ → Record → Text
record_ladder room r = ladder_text (ladder_for r.mid_price (config_of r) r.volatility r.current_time room)

-- that of a buffer with room for any: no refusal by 21
unfoldable pub whole_by : Result Unit Refusal → List ℕ → List ℕ
whole_by (Err r) t = refusal_line r.0
whole_by (Ok tt) t = t

unfoldable pub whole_ladder : Record → List ℕ
whole_ladder r =
    let c = config_of r in
    whole_by (check_call r.mid_price c r.volatility r.current_time) (ladder r.mid_price c r.volatility r.current_time)

-- at a place, with a buffer of so many bytes
unfoldable pub ladder_at : ℕ → List ℕ → ℕ → Step
ladder_at room s at = step_at (record_ladder room) s at (read_as true s at)

-- that of a stored record with itself
abbrev pub RecordLadderMirror : Type 0
RecordLadderMirror = (r : Record) → let c = config_of r in check_call r.mid_price c r.volatility r.current_time ≡ (Ok tt) → (i j : ℕ) → i + j ≡ 2 * r.max_inventory_lots
    → LinesFace r.mid_price c c r.volatility r.current_time i j
