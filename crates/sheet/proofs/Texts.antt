-- The texts of records by their kind: what stands at a place of a sheet, which fits and goes on, and the lines, the ladders and the plans among them. Assumes nothing.
use mathlib.Core.Path.{◌≡◌, refl, sym, ap, ◌∙◌, subst}
use Prim.Native.Nat.{ℕ, ◌<◌, ◌≤◌}
use native.Mathlib.Nat.{le_refl, le_trans}
use native.Mathlib.Omega.{arith}
use mathlib.Core.Bool.{Bool, true, false}
use mathlib.Core.List.{List}
use lib.ListN.{length}
use Rattle.quote.proofs.Replies.{replies_kept}
use Rattle.record.specs.Record.{config_of, read_as}
use Rattle.record.proofs.Flat.{as_it_is}
use Rattle.record.specs.declared.record.Record.{Record}
use Rattle.record.specs.declared.record.RecordAnswer.{RecordAnswer}
use Rattle.lines.specs.Lines.{refusal_line, least_room, Text, text}
use Rattle.lines.proofs.Widths.{reply_most, refusal_most}
use Rattle.ladders.specs.Ladder.{most_ladder}
use Rattle.sheet.specs.Refusals.{long_sheet}
use Rattle.sheet.specs.Sheet.{most_bytes, record_line, line, end, refuse, step_by, step_of, step_if, step_at, line_at, printed}
use Rattle.sheet.specs.Ladders.{ladder_at}
use Rattle.sheet.specs.Horizon.{plan_at}
use Rattle.sheet.specs.Kinds.{is_flat, room_of, text_of, whole_text, text_at, printed_as}
use Rattle.sheet.specs.Inner.{record_text, text_in}
use Rattle.sheet.specs.Promises.{LinesFit, LinesMove, TextsStand, TextsFit, TextsMove, TextsDue}
use Rattle.sheet.specs.declared.text.Kind.{Kind}
use Rattle.sheet.proofs.Steps.{step_end, step_long, step_read, step_written}
use Rattle.sheet.proofs.Due.{step_due, step_before, step_kept}
use Rattle.sheet.proofs.Ladders.{record_whole, whole_most}
use Rattle.sheet.proofs.PlanLines.{plan_most}

step_same : (f g : Record → Text) → ((r : Record) → f r ≡ g r) → (n : ℕ) (a : RecordAnswer) → step_of f n a ≡ step_of g n a
unfolding step_of
step_same f g h n (RecordAnswer.Record r next) = ap (λ (t : Text). step_by t next) (h r)
step_same f g h n (RecordAnswer.Skipped k next) = refl
step_same f g h n (RecordAnswer.Refused k) = refl

at_same : (b m : Bool) (f g : Record → Text) → ((r : Record) → f r ≡ g r) → (n : ℕ) (a : RecordAnswer) → step_if b m f n a ≡ step_if b m g n a
unfolding step_if
at_same false m f g h n a = refl
at_same true false f g h n a = refl
at_same true true f g h n a = step_same f g h n a

-- ---- what `next_text` writes is the line, the ladder or the plan
pub as_line : (room : ℕ) (s : List ℕ) (at : ℕ) → text_in Kind.Line room s at ≡ line_at s at
unfolding line_at step_at record_text
as_line room s at = rw (as_it_is s at) (at_same _ _ _ _ (λ r. refl) _ _)

pub as_ladder : (room : ℕ) (s : List ℕ) (at : ℕ) → text_in Kind.Ladder room s at ≡ ladder_at room s at
unfolding ladder_at step_at record_text
as_ladder room s at = at_same _ _ _ _ (λ r. refl) _ _

pub as_plan : (room : ℕ) (s : List ℕ) (at : ℕ) → text_in Kind.Plan room s at ≡ plan_at s at
unfolding plan_at step_at record_text
as_plan room s at = rw (as_it_is s at) (at_same _ _ _ _ (λ r. refl) _ _)

-- ---- with the room for any, a text does not depend on the room
whole : (k : Kind) (room : ℕ) → room_of k ≤ room → (r : Record) → record_text k room r ≡ whole_text k r
unfolding record_text text_of
whole Kind.Line room h r = refl
whole Kind.Ladder room h r = record_whole room h r
whole Kind.Plan room h r = refl

pub with_room : (k : Kind) (room : ℕ) (s : List ℕ) (at : ℕ) → room_of k ≤ room → text_in k room s at ≡ text_at k s at
unfolding text_at step_at
with_room k room s at h = at_same _ _ _ _ (whole k room h) _ _

the_lines : (s : List ℕ) → printed_as Kind.Line s ≡ printed s
unfolding printed_as text_of
the_lines s = refl

pub texts_stand : TextsStand
texts_stand = record {
  lines = λ s at. sym (with_room Kind.Line least_room s at (le_refl least_room)) ∙ as_line least_room s at;
  ladders = λ room s at h. sym (with_room Kind.Ladder room s at h) ∙ as_ladder room s at;
  plans = λ s at. sym (with_room Kind.Plan least_room s at (le_refl least_room)) ∙ as_plan least_room s at;
  whole = the_lines;
}

-- ---- the room
pub room_least : (k : Kind) → least_room ≤ room_of k
room_least Kind.Line = omega arith
room_least Kind.Ladder = omega arith
room_least Kind.Plan = omega arith

pub room_most : (k : Kind) → room_of k ≤ most_ladder
room_most Kind.Line = omega arith
room_most Kind.Ladder = omega arith
room_most Kind.Plan = omega arith

line_most : (r : Record) → length (record_line r) ≤ least_room
unfolding record_line
line_most r = reply_most _ (replies_kept r.mid_price r.inventory (config_of r) r.volatility r.current_time)

pub text_most : (k : Kind) (r : Record) → length (text_of k r) ≤ room_of k
unfolding text_of
text_most Kind.Line r = line_most r
text_most Kind.Ladder r = whole_most r
text_most Kind.Plan r = plan_most r

pub number_most : (k : Kind) (n : ℕ) → n < 256 → length (refusal_line n) ≤ room_of k
number_most k n h = le_trans (refusal_most n h) (room_least k)

-- ---- at a place of a sheet
module _ (k : Kind) (s : List ℕ) (at : ℕ) where
  abbrev Fits : List ℕ → Type 0
  Fits t = length t ≤ room_of k

  fits : (r : Record) (t : List ℕ) → whole_text k r ≡ text t → Fits t
  fits r t e = let z : text_of k r ≡ t = cc in subst Fits z (text_most k r)

  pub text_end : length s ≤ at → text_at k s at ≡ end
  unfolding text_at
  text_end h = step_end (whole_text k) s at (read_as (is_flat k) s at) h

  pub text_long : at < length s → most_bytes < length s → text_at k s at ≡ line (refusal_line long_sheet) (length s)
  unfolding text_at
  text_long h m = step_long (whole_text k) s at (read_as (is_flat k) s at) h m

  pub text_read : at < length s → length s ≤ most_bytes → text_at k s at ≡ step_of (whole_text k) (length s) (read_as (is_flat k) s at)
  unfolding text_at
  text_read h m = step_read (whole_text k) s at (read_as (is_flat k) s at) h m

  pub text_written : (n : ℕ) → text_at k s at ≡ refuse n → ⊥
  unfolding text_at
  text_written n e = step_written (whole_text k) (λ r. (text_of k r, refl)) s at (read_as (is_flat k) s at) n e

  pub text_due : at < length s → (t : List ℕ) × (next : ℕ) × (text_at k s at ≡ line t next)
  unfolding text_at
  text_due h = step_due (whole_text k) s at (read_as (is_flat k) s at) text_written h

  pub text_before : (t : List ℕ) (next : ℕ) → text_at k s at ≡ line t next → at < length s
  unfolding text_at
  text_before t next e = step_before (whole_text k) (is_flat k) Fits fits (number_most k) s at t next e

  text_kept : (t : List ℕ) (next : ℕ) → text_at k s at ≡ line t next → Fits t × (at < next) × (next ≤ length s)
  unfolding text_at
  text_kept t next e = step_kept (whole_text k) (is_flat k) Fits fits (number_most k) s at t next e

pub texts_fit : TextsFit
texts_fit k s at t next e = (text_kept k s at t next e).0

pub texts_move : TextsMove
texts_move k s at t next e = let m = text_kept k s at t next e in (m.1, m.2)

pub texts_due : TextsDue
texts_due k s at h = text_due k s at h

-- the lines
pub lines_fit : LinesFit
lines_fit s at t next e = texts_fit Kind.Line s at t next (texts_stand.lines s at ∙ e)

pub lines_move : LinesMove
lines_move s at t next e = texts_move Kind.Line s at t next (texts_stand.lines s at ∙ e)

pub line_before : (s : List ℕ) (at : ℕ) (t : List ℕ) (next : ℕ) → line_at s at ≡ line t next → at < length s
line_before s at t next e = text_before Kind.Line s at t next (texts_stand.lines s at ∙ e)

pub line_written : (s : List ℕ) (at n : ℕ) → line_at s at ≡ refuse n → ⊥
line_written s at n e = text_written Kind.Line s at n (texts_stand.lines s at ∙ e)
