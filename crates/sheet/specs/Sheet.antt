-- Document 01, module 6: a sheet's lines and other texts, one by one and as a whole. Definitions only.
use Rattle.std.specs.Prelude.{ℕ, zero, suc, Bool, true, false, List, [], ◌∷◌, ◌++◌, length, ltb, leb, Result, Option, Ok, Err, Some, None}
use Rattle.amounts.specs.Refusals.{limits}
use Rattle.quote.specs.Quotes.{exact_quotes}
use Rattle.lines.specs.Refusals.{small_buffer}
use Rattle.sheet.specs.Refusals.{long_sheet}
use Rattle.record.specs.Record.{Read, taken, refused, numbers, fields, record_of, config_of, record_ok, read_record, held_as}
use Rattle.lines.specs.Lines.{answer_line, refusal_line, Text, text, refusal}
use Rattle.buffers.specs.Over.{over}
use Rattle.record.specs.declared.record.Record.{Record}
use Rattle.record.specs.declared.record.RecordAnswer.{RecordAnswer}
use Rattle.elementary.specs.Checks.{by}
use Rattle.elementary.specs.declared.Refusal.{Refusal}

-- the longest sheet
abbrev pub most_bytes : ℕ
most_bytes = 65_536

-- a record's line
unfoldable pub record_line : Record → List ℕ
record_line r = answer_line (exact_quotes r.mid_price r.inventory (config_of r) r.volatility r.current_time)

-- ---- a step: the text at a place, and the next place; the end; or the number that refuses it
pub data Step : Type 0 where
  line : List ℕ → ℕ → Step
  end : Step
  refuse : ℕ → Step

-- a record's text, and the place after the record
unfoldable pub step_by : Text → ℕ → Step
step_by (text t) next = line t next
step_by (refusal n) next = refuse n

-- of a sheet of n bytes, with f for the text of a record; after 6 or 7 nothing more is read
unfoldable pub step_of : (Record → Text) → ℕ → RecordAnswer → Step
step_of f n (RecordAnswer.Record r next) = step_by (f r) next
step_of f n (RecordAnswer.Skipped r next) = line (refusal_line r.0) next
step_of f n (RecordAnswer.Refused r) = line (refusal_line r.0) n

-- is the place before the end, is the sheet no longer than the longest
unfoldable pub step_if : Bool → Bool → (Record → Text) → ℕ → RecordAnswer → Step
step_if false m f n a = end
step_if true false f n a = line (refusal_line long_sheet) n
step_if true true f n a = step_of f n a

unfoldable pub step_at : (Record → Text) → List ℕ → ℕ → RecordAnswer → Step
step_at f s at a = step_if (ltb at (length s)) (leb (length s) most_bytes) f (length s) a

-- the line at a place
abbrev pub line_text : Record → Text
line_text r = text (record_line r)

unfoldable pub line_at : List ℕ → ℕ → Step
line_at s at = step_at line_text s at (read_record s at)

-- ---- what `next_line` answers, and what it leaves in the buffer: has that the room
unfoldable pub answered : Bool → Step → Result (Option (ℕ × ℕ)) Refusal
answered false x = Err (by small_buffer)
answered true (line t next) = Ok (Some (length t, next))
answered true end = Ok None
answered true (refuse n) = Err (by n)

unfoldable pub left : Bool → Step → List ℕ → List ℕ
left false x b = b
left true (line t next) b = over t b
left true end b = b
left true (refuse n) b = b

-- ---- what is printed for a whole sheet, with f for the text of a record, which is read with its holding or, flat, without
-- what the head of some bytes prints: nothing, a text with the bytes left, or the last line
pub data Head : Type 0 where
  none : Head
  first : List ℕ → List ℕ → Head
  last : List ℕ → Head

unfoldable pub head_if : (Record → List ℕ) → Bool → Record → List ℕ → Head
head_if f true r l = first (f r) l
head_if f false r l = first (refusal_line limits) l

unfoldable pub head_by : (Record → List ℕ) → Read (List ℕ) → Head
head_by f (taken v rest) = let r = record_of v in head_if f (record_ok r) r rest
head_by f (refused n) = last (refusal_line n)

unfoldable pub head_of : (Record → List ℕ) → Bool → List ℕ → Head
head_of f flat [] = none
head_of f flat (b ∷ l) = head_by f (held_as flat (numbers fields (b ∷ l)))

-- the texts in order; a record takes a byte at least, so as many turns as bytes are enough
unfoldable pub texts : (Record → List ℕ) → Bool → ℕ → Head → List ℕ
texts f flat zero h = []
texts f flat (suc k) none = []
texts f flat (suc k) (last t) = t
texts f flat (suc k) (first t l) = t ++ texts f flat k (head_of f flat l)

-- is the sheet no longer than the longest
unfoldable pub printed_if : Bool → (Record → List ℕ) → Bool → List ℕ → List ℕ
printed_if true f flat s = texts f flat (length s) (head_of f flat s)
printed_if false f flat s = refusal_line long_sheet

unfoldable pub printed_by : (Record → List ℕ) → Bool → List ℕ → List ℕ
printed_by f flat s = printed_if (leb (length s) most_bytes) f flat s

-- the lines
abbrev pub printed : List ℕ → List ℕ
printed s = printed_by record_line false s
