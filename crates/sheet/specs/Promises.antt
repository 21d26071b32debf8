-- What holds of every sheet, as named statements. Each is proved once, in proofs/. Definitions only.
use Rattle.std.specs.Prelude.{◌≡◌, ℕ, ◌*◌, ◌<◌, ◌≤◌, List, [], ◌++◌, length, take, Ok}
use Rattle.lines.specs.Lines.{least_room}
use Rattle.ladders.specs.Ladder.{most_ladder}
use Rattle.sheet.specs.Sheet.{most_bytes, line, end, refuse, line_at, printed}
use Rattle.sheet.specs.Ladders.{ladder_at}
use Rattle.sheet.specs.Horizon.{plan_at}
use Rattle.sheet.specs.Kinds.{room_of, text_at, printed_as}
use Rattle.sheet.specs.Fill.{filled_as, left_as}
use Rattle.sheet.specs.declared.text.Kind.{Kind}

-- ---- a line fits the least line buffer, whatever the sheet and the place
abbrev pub LinesFit : Type 0
LinesFit = (s : List ℕ) (at : ℕ) (t : List ℕ) (next : ℕ) → line_at s at ≡ line t next → length t ≤ least_room

-- ---- reading goes on, and stays within the sheet
abbrev pub LinesMove : Type 0
LinesMove = (s : List ℕ) (at : ℕ) (t : List ℕ) (next : ℕ) → line_at s at ≡ line t next → (at < next) × (next ≤ length s)

-- ---- likewise the ladders, each with a buffer of so many bytes
abbrev pub LaddersFit : Type 0
LaddersFit = (room : ℕ) (s : List ℕ) (at : ℕ) (t : List ℕ) (next : ℕ) → ladder_at room s at ≡ line t next → least_room ≤ room → length t ≤ room

abbrev pub LaddersMove : Type 0
LaddersMove = (room : ℕ) (s : List ℕ) (at : ℕ) (t : List ℕ) (next : ℕ) → ladder_at room s at ≡ line t next → (at < next) × (next ≤ length s)

-- with a buffer of the most bytes none is refused: 21 is no reply
abbrev pub LaddersWritten : Type 0
LaddersWritten = (room : ℕ) (s : List ℕ) (at k : ℕ) → most_ladder ≤ room → ladder_at room s at ≡ refuse k → ⊥

-- ---- texts of a kind: the line, the ladder and the plan at a place, with the room for any; and the lines of a whole sheet
pub record TextsStand : Type 0 where
  pub lines : (s : List ℕ) (at : ℕ) → text_at Kind.Line s at ≡ line_at s at
  pub ladders : (room : ℕ) (s : List ℕ) (at : ℕ) → most_ladder ≤ room → text_at Kind.Ladder s at ≡ ladder_at room s at
  pub plans : (s : List ℕ) (at : ℕ) → text_at Kind.Plan s at ≡ plan_at s at
  pub whole : (s : List ℕ) → printed_as Kind.Line s ≡ printed s

-- each fits the room of its kind, reading goes on, and stays within the sheet; before the end there is one
abbrev pub TextsFit : Type 0
TextsFit = (k : Kind) (s : List ℕ) (at : ℕ) (t : List ℕ) (next : ℕ) → text_at k s at ≡ line t next → length t ≤ room_of k

abbrev pub TextsMove : Type 0
TextsMove = (k : Kind) (s : List ℕ) (at : ℕ) (t : List ℕ) (next : ℕ) → text_at k s at ≡ line t next → (at < next) × (next ≤ length s)

abbrev pub TextsDue : Type 0
TextsDue = (k : Kind) (s : List ℕ) (at : ℕ) → at < length s → (t : List ℕ) × (next : ℕ) × (text_at k s at ≡ line t next)

-- ---- the steps make the whole: texts taken one after the other from a place until the end, and their bytes
pub data Followed (k : Kind) (s : List ℕ) : ℕ → List ℕ → Type 0 where
  ended : {at : ℕ} → text_at k s at ≡ end → Followed k s at []
  stepped : {at next : ℕ} {t u : List ℕ} → text_at k s at ≡ line t next → Followed k s next u → Followed k s at (t ++ u)

abbrev pub StepsMakeTheWhole : Type 0
StepsMakeTheWhole = (k : Kind) (s : List ℕ) → Followed k s 0 (printed_as k s)

-- what is printed for any sheet is no longer than the room for a text, for each byte of the longest sheet
abbrev pub PrintedBounded : Type 0
PrintedBounded = (k : Kind) (s : List ℕ) → length (printed_as k s) ≤ most_bytes * room_of k

-- ---- whole texts: a fill stays within its buffer; before the end it goes on, and stays within the sheet; from the end on it fills nothing and stays
abbrev pub FillsFit : Type 0
FillsFit = (k : Kind) (s : List ℕ) (at : ℕ) (b : List ℕ) (n next : ℕ) → filled_as k s at b ≡ Ok (n, next) → n ≤ length b

abbrev pub FillsMove : Type 0
FillsMove = (k : Kind) (s : List ℕ) (at : ℕ) (b : List ℕ) (n next : ℕ) → filled_as k s at b ≡ Ok (n, next) → at < length s → (at < next) × (next ≤ length s)

abbrev pub FillsEnd : Type 0
FillsEnd = (k : Kind) (s : List ℕ) (at : ℕ) (b : List ℕ) (n next : ℕ) → filled_as k s at b ≡ Ok (n, next) → length s ≤ at → (n ≡ 0) × (next ≡ at)

-- ---- the fills make the whole: fills one after the other from a place until the end, each into a buffer of its own size, and the bytes that they hand on
pub data Fills (k : Kind) (s : List ℕ) : ℕ → List ℕ → Type 0 where
  finished : {at : ℕ} → length s ≤ at → Fills k s at []
  onward : {at next : ℕ} {u : List ℕ} (b : List ℕ) (n : ℕ) → at < length s → filled_as k s at b ≡ Ok (n, next) → Fills k s next u
      → Fills k s at (take n (left_as k s at b) ++ u)

abbrev pub FillsMakeTheWhole : Type 0
FillsMakeTheWhole = (k : Kind) (s t : List ℕ) → Fills k s 0 t → t ≡ printed_as k s

-- and there are such fills, to the end, wherever a buffer has the room
abbrev pub FillsFinish : Type 0
FillsFinish = (k : Kind) (s b : List ℕ) → room_of k ≤ length b → Fills k s 0 (printed_as k s)
