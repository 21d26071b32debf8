-- The line at a place of a sheet, by where the place is and what is read there. Assumes nothing.
use Rattle.std.specs.Prelude.{Result, Err, Ok, None}
use mathlib.Core.Path.{◌≡◌, refl, ap, ◌∙◌}
use native.Mathlib.Omega.{arith}
use mathlib.Core.Bool.{Bool, true, false}
use Prim.Native.Nat.{ℕ, ◌<◌, ◌≤◌}
use mathlib.Core.List.{List}
use lib.ListN.{length}
use borrow.Author.Tests.{lt-ltb, le-ltb, le-leb, lt-leb}
use Rattle.sheet.specs.Refusals.{long_sheet}
use Rattle.record.specs.Record.{read_record}
use Rattle.lines.specs.Refusals.{small_buffer}
use Rattle.lines.specs.Lines.{refusal_line, least_room, has_room, Text, text, refusal, line_for, wrote, text_left}
use Rattle.lines.proofs.Written.{line_is}
use Rattle.sheet.specs.Inner.{stepped_by}
use Rattle.sheet.specs.Sheet.{most_bytes, line_text, Step, line, end, refuse, step_by, step_of, step_if, step_at, line_at, answered, left}
use Rattle.record.specs.declared.record.Record.{Record}
use Rattle.record.specs.declared.record.RecordAnswer.{RecordAnswer}
use Rattle.elementary.specs.declared.Refusal.{Refusal}
use Rattle.elementary.specs.Checks.{by}

module _ (f : Record → Text) (s : List ℕ) (at : ℕ) (a : RecordAnswer) where
  pub step_end : length s ≤ at → step_at f s at a ≡ end
  unfolding step_at step_if
  step_end h = rw (le-ltb at (length s) h)

  pub step_long : at < length s → most_bytes < length s → step_at f s at a ≡ line (refusal_line long_sheet) (length s)
  unfolding step_at step_if
  step_long h k = rw (lt-ltb at (length s) h, lt-leb (length s) most_bytes k)

  pub step_read : at < length s → length s ≤ most_bytes → step_at f s at a ≡ step_of f (length s) a
  unfolding step_at step_if
  step_read h k = rw (lt-ltb at (length s) h, le-leb (length s) most_bytes k)

module _ (s : List ℕ) (at : ℕ) where
  pub line_long : at < length s → most_bytes < length s → line_at s at ≡ line (refusal_line long_sheet) (length s)
  unfolding line_at
  line_long h k = step_long line_text s at (read_record s at) h k

  pub line_read : at < length s → length s ≤ most_bytes → line_at s at ≡ step_of line_text (length s) (read_record s at)
  unfolding line_at
  line_read h k = step_read line_text s at (read_record s at) h k

-- ---- what `next_line` answers, and what it leaves in a buffer l
pub no_room : (t : Step) (l : List ℕ) → length l < least_room → (Err (by small_buffer) ≡ answered (has_room l) t) × (l ≡ left (has_room l) t l)
unfolding answered left
no_room t l h = rw (lt-leb least_room (length l) h) (refl, refl)

pub no_line : (t : Step) (l : List ℕ) → least_room ≤ length l → t ≡ end → (Ok None ≡ answered (has_room l) t) × (l ≡ left (has_room l) t l)
unfolding answered left
no_line t l h e = rw (le-leb least_room (length l) h, e) (refl, refl)

-- by what a writer answers, and leaves
by_text : (x : Text) (next : ℕ) (l : List ℕ) → (stepped_by (wrote x) next ≡ answered true (step_by x next)) × (text_left x l ≡ left true (step_by x next) l)
unfolding stepped_by wrote text_left step_by answered left
by_text (text t) next l = (refl, refl)
by_text (refusal n) next l = (refl, refl)

pub one_text : (t : Step) (x : Text) (next : ℕ) (l out : List ℕ) (w : Result ℕ Refusal) → least_room ≤ length l → t ≡ step_by x next → w ≡ wrote x → out ≡ text_left x l
    → (stepped_by w next ≡ answered (has_room l) t) × (out ≡ left (has_room l) t l)
one_text t x next l out w h e k o =
    let b = by_text x next l in
    rw (le-leb least_room (length l) h, e) (ap (λ (v : Result ℕ Refusal). stepped_by v next) k ∙ b.0, o ∙ b.1)

pub one_line : (t : Step) (u : List ℕ) (next : ℕ) (l out : List ℕ) (w : Result ℕ Refusal) → least_room ≤ length l → t ≡ line u next → w ≡ wrote (line_for u l) → out ≡ text_left (line_for u l) l
    → (stepped_by w next ≡ answered (has_room l) t) × (out ≡ left (has_room l) t l)
unfolding step_by
one_line t u next l out w h e k o =
    let x = line_is u l h in
    one_text t (text u) next l out w h e (k ∙ ap wrote x) (o ∙ ap (λ (y : Text). text_left y l) x)

-- ---- where every record's text is written, no step is refused
module _ (f : Record → Text) (whole : (r : Record) → (t : List ℕ) × (f r ≡ text t)) where
  of_written : (n : ℕ) (a : RecordAnswer) (k : ℕ) → step_of f n a ≡ refuse k → ⊥
  unfolding step_of step_by
  of_written n (RecordAnswer.Record r next) k e =
      let d : line (whole r).0 next ≡ refuse k = rw (whole r).1 at e in
      let z : ◌≡◌ {A = ℕ} 0 1 = cc (d) in
      omega arith
  of_written n (RecordAnswer.Skipped j next) k e = let z : ◌≡◌ {A = ℕ} 0 1 = cc in omega arith
  of_written n (RecordAnswer.Refused j) k e = let z : ◌≡◌ {A = ℕ} 0 1 = cc in omega arith

  if_written : (b m : Bool) (n : ℕ) (a : RecordAnswer) (k : ℕ) → step_if b m f n a ≡ refuse k → ⊥
  unfolding step_if
  if_written false m n a k e = let z : ◌≡◌ {A = ℕ} 0 1 = cc in omega arith
  if_written true false n a k e = let z : ◌≡◌ {A = ℕ} 0 1 = cc in omega arith
  if_written true true n a k e = of_written n a k e

  pub step_written : (s : List ℕ) (at : ℕ) (a : RecordAnswer) (k : ℕ) → step_at f s at a ≡ refuse k → ⊥
  unfolding step_at
  step_written s at a k e = if_written _ _ _ a k e
