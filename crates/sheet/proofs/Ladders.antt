-- The ladders of a sheet: each fits its buffer, and reading goes on. Assumes nothing.
use Rattle.std.specs.Prelude.{Result, Ok, Err}
use mathlib.Core.Path.{◌≡◌, refl, ap, subst}
use Prim.Native.Nat.{ℕ, ◌<◌, ◌≤◌}
use native.Mathlib.Nat.{le_refl, le_trans}
use native.Mathlib.Omega.{arith}
use mathlib.Core.Bool.{Bool, true, false}
use mathlib.Core.Logic.{inl, inr}
use mathlib.Core.List.{List}
use borrow.Author.Tests.{leb-true, leb-false, ne_eqb}
use lib.IntN.{ℤ}
use lib.ListN.{length}
use lib.Dec.{leb, eqb, lit<}
use Rattle.model.specs.Model.{check_call}
use Rattle.model.specs.declared.GLFTConfig.{GLFTConfig}
use Rattle.lots.proofs.OneRun.{check_refusals}
use Rattle.record.specs.Record.{config_of, read_as}
use Rattle.record.specs.declared.record.Record.{Record}
use Rattle.lines.specs.Lines.{refusal_line, least_room, Text, text, refusal, wrote, text_left}
use Rattle.lines.proofs.Widths.{refusal_most}
use Rattle.ladders.specs.Refusals.{small_ladder_buffer}
use Rattle.ladders.specs.Ladder.{ladder, ladder_room, most_ladder, ladder_if, ladder_for, ladder_answer}
use Rattle.ladders.proofs.Rungs.{ladder_most}
use Rattle.ladders.proofs.LadderLaws.{ladder_own_mirror, ladders_bounded}
use Rattle.sheet.specs.Sheet.{line, refuse}
use Rattle.sheet.specs.Ladders.{refused_by, ladder_text, record_ladder, whole_by, whole_ladder, ladder_at, RecordLadderMirror}
use Rattle.sheet.specs.Promises.{LaddersFit, LaddersMove, LaddersWritten}
use Rattle.sheet.proofs.Steps.{step_written}
use Rattle.sheet.proofs.Due.{step_kept}
use Rattle.elementary.specs.declared.Refusal.{Refusal}
use Rattle.elementary.specs.Checks.{by}

-- ---- a record's text fits the buffer
number_small : (mid : ℤ) (c : GLFTConfig) (vol : ℤ) (t n : ℕ) → check_call mid c vol t ≡ Err (by n) → n < 21
number_small mid c vol t n e = elim ((check_refusals mid c vol t n).0 e).0 [ inl k ↦ omega arith | inr k ↦ elim k [ inl i ↦ omega arith | inr i ↦ omega arith ] ]

number_most : (mid : ℤ) (c : GLFTConfig) (vol : ℤ) (t n : ℕ) → check_call mid c vol t ≡ Err (by n) → n < 256
number_most mid c vol t n e = omega (arith, number_small mid c vol t n e)

-- the line of a refusal by any of these, but 21 has none
by_number : (n : ℕ) (b : Bool) (t : List ℕ) → n < 256 → refused_by b n ≡ text t → length t ≤ least_room
unfolding refused_by
by_number n true t h e = let z : ◌≡◌ {A = ℕ} 0 1 = cc in absurd (omega arith)
by_number n false t h e = let z : refusal_line n ≡ t = cc in subst (λ (u : List ℕ). length u ≤ least_room) z (refusal_most n h)

text_most : (x : Result Unit Refusal) (need room : ℕ) (u : List ℕ) → ((n : ℕ) → x ≡ Err (by n) → n < 256) → (x ≡ (Ok tt) → length u ≤ need) → least_room ≤ room
    → (m : Bool) → (m ≡ true → need ≤ room) → (t : List ℕ) → ladder_text (ladder_if x m u) ≡ text t → length t ≤ room
unfolding ladder_if ladder_text
text_most (Err r) need room u few most h m f t e = le_trans (by_number r.0 _ t (few r.0 refl) e) h
text_most (Ok tt) need room u few most h false f t e = le_trans (by_number small_ladder_buffer _ t (lit< tt) e) h
text_most (Ok tt) need room u few most h true f t e = let z : u ≡ t = cc in subst (λ (v : List ℕ). length v ≤ room) z (le_trans (most refl) (f refl))

record_most : (room : ℕ) (r : Record) (t : List ℕ) → record_ladder room r ≡ text t → least_room ≤ room → length t ≤ room
unfolding record_ladder ladder_for
record_most room r t e h =
    let mid = r.mid_price in
    let c = config_of r in
    let vol = r.volatility in
    let now = r.current_time in
    text_most (check_call mid c vol now) (ladder_room c) room (ladder mid c vol now) (number_most mid c vol now) (ladder_most mid c vol now) h (leb (ladder_room c) room) (leb-true (ladder_room c) room) t e

-- with the most bytes there is always a text, the same for all of them
text_whole : (x : Result Unit Refusal) (need room : ℕ) (u : List ℕ) → ((n : ℕ) → x ≡ Err (by n) → n < 21) → (x ≡ (Ok tt) → need ≤ room)
    → (m : Bool) → (m ≡ false → room < need) → ladder_text (ladder_if x m u) ≡ text (whole_by x u)
unfolding ladder_if ladder_text refused_by whole_by
text_whole (Err r) need room u few most m f = rw (ne_eqb r.0 small_ladder_buffer (λ e. omega (arith, few r.0 refl)))
text_whole (Ok tt) need room u few most false f = absurd (omega (arith, most refl, f refl))
text_whole (Ok tt) need room u few most true f = refl

pub record_whole : (room : ℕ) → most_ladder ≤ room → (r : Record) → record_ladder room r ≡ text (whole_ladder r)
unfolding record_ladder ladder_for whole_ladder
record_whole room h r =
    let mid = r.mid_price in
    let c = config_of r in
    let vol = r.volatility in
    let now = r.current_time in
    text_whole (check_call mid c vol now) (ladder_room c) room (ladder mid c vol now) (number_small mid c vol now) (λ e. le_trans (ladders_bounded mid c vol now e) h) (leb (ladder_room c) room) (leb-false (ladder_room c) room)

pub whole_most : (r : Record) → length (whole_ladder r) ≤ most_ladder
whole_most r = record_most most_ladder r (whole_ladder r) (record_whole most_ladder (le_refl most_ladder) r) (omega arith)

-- ---- at a place of a sheet
module _ (room : ℕ) (s : List ℕ) (at : ℕ) where
  -- a buffer with the room for a line has it for the text
  abbrev Fits : List ℕ → Type 0
  Fits t = least_room ≤ room → length t ≤ room

  lines_fit : (k : ℕ) → k < 256 → Fits (refusal_line k)
  lines_fit k h l = le_trans (refusal_most k h) l

  ladder_kept : (t : List ℕ) (next : ℕ) → ladder_at room s at ≡ line t next → Fits t × (at < next) × (next ≤ length s)
  unfolding ladder_at
  ladder_kept t next e = step_kept (record_ladder room) true Fits (record_most room) lines_fit s at t next e

  ladder_written : most_ladder ≤ room → (k : ℕ) → ladder_at room s at ≡ refuse k → ⊥
  unfolding ladder_at
  ladder_written h k e = step_written (record_ladder room) (λ r. (whole_ladder r, record_whole room h r)) s at (read_as true s at) k e

pub ladders_fit : LaddersFit
ladders_fit room s at t next e = (ladder_kept room s at t next e).0

pub ladders_move : LaddersMove
ladders_move room s at t next e = let k = ladder_kept room s at t next e in (k.1, k.2)

pub ladders_written : LaddersWritten
ladders_written room s at k h e = ladder_written room s at h k e

-- ---- a record's text, from what `write_ladder` answers
pub text_written : (x : Text) (b out : List ℕ) (n : ℕ) → Ok n ≡ ladder_answer x → out ≡ text_left x b → (Ok n ≡ wrote (ladder_text x)) × (out ≡ text_left (ladder_text x) b)
unfolding ladder_answer ladder_text wrote text_left
text_written (text t) b out n e o = (cc, o)
text_written (refusal k) b out n e o = let z : ◌≡◌ {A = ℕ} 0 1 = cc in absurd (omega arith)

pub left_refused : (x : Text) (b out : List ℕ) (r : Refusal) → Err r ≡ ladder_answer x → out ≡ text_left x b → (out ≡ b) × (ladder_text x ≡ refused_by (eqb r.0 small_ladder_buffer) r.0)
unfolding ladder_answer ladder_text text_left
left_refused (text t) b out r e o = let z : ◌≡◌ {A = ℕ} 0 1 = cc in absurd (omega arith)
left_refused (refusal k) b out r e o = let z : by k ≡ r = cc in (o, ap (λ (x : Refusal). refused_by (eqb x.0 small_ladder_buffer) x.0) z)

pub record_ladder_mirror : RecordLadderMirror
unfolding config_of
record_ladder_mirror r e i j k = ladder_own_mirror r.mid_price (config_of r) r.volatility r.current_time refl e i j k
