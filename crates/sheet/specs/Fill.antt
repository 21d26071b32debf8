-- Whole texts of a kind, one after the other, in a lent buffer. Definitions only.
use Rattle.std.specs.Prelude.{ℕ, zero, suc, ◌-◌, Bool, true, false, List, [], ◌++◌, length, leb, Result, Ok, Err}
use Rattle.lines.specs.Refusals.{small_buffer}
use Rattle.ladders.specs.Refusals.{small_ladder_buffer}
use Rattle.buffers.specs.Over.{over}
use Rattle.lines.specs.Lines.{has_room}
use Rattle.sheet.specs.Sheet.{Step, line, end, refuse}
use Rattle.sheet.specs.Kinds.{room_of, text_at}
use Rattle.sheet.specs.declared.text.Kind.{Kind}
use Rattle.elementary.specs.declared.Refusal.{Refusal}
use Rattle.elementary.specs.Checks.{by}

-- some texts, and the place after them
pub data Fill : Type 0 where
  up_to : List ℕ → ℕ → Fill

-- a text before them
unfoldable pub after : List ℕ → Fill → Fill
after t (up_to u next) = up_to (t ++ u) next

-- the texts of a sheet from a place on that fit so many bytes: have these the room for any, the step at the place
unfoldable pub fill_by : ℕ → Bool → Step → Kind → List ℕ → ℕ → ℕ → Fill
fill_by zero m x k s at room = up_to [] at
fill_by (suc j) false x k s at room = up_to [] at
fill_by (suc j) true end k s at room = up_to [] at
fill_by (suc j) true (refuse n) k s at room = up_to [] at
fill_by (suc j) true (line t next) k s at room = let rest = room - length t in after t (fill_by j (leb (room_of k) rest) (text_at k s next) k s next rest)

-- each text takes the place a byte on at least, so as many turns as bytes are enough
unfoldable pub fill : Kind → List ℕ → ℕ → ℕ → Fill
fill k s at room = fill_by (length s) (leb (room_of k) room) (text_at k s at) k s at room

-- ---- what `fill_texts` answers, and what it leaves in the buffer: has that the room for a line, and for any text of the kind
unfoldable pub filled_if : Bool → Bool → Fill → Result (ℕ × ℕ) Refusal
filled_if false m f = Err (by small_buffer)
filled_if true false f = Err (by small_ladder_buffer)
filled_if true true (up_to t next) = Ok (length t, next)

unfoldable pub left_if : Bool → Bool → Fill → List ℕ → List ℕ
left_if false m f b = b
left_if true false f b = b
left_if true true (up_to t next) b = over t b

abbrev pub filled_as : Kind → List ℕ → ℕ → List ℕ → Result (ℕ × ℕ) Refusal
filled_as k s at b = filled_if (has_room b) (leb (room_of k) (length b)) (fill k s at (length b))

abbrev pub left_as : Kind → List ℕ → ℕ → List ℕ → List ℕ
left_as k s at b = left_if (has_room b) (leb (room_of k) (length b)) (fill k s at (length b)) b

-- the lines: `fill_lines`
abbrev pub filled : List ℕ → ℕ → List ℕ → Result (ℕ × ℕ) Refusal
filled s at b = filled_as Kind.Line s at b

abbrev pub left_in : List ℕ → ℕ → List ℕ → List ℕ
left_in s at b = left_as Kind.Line s at b
