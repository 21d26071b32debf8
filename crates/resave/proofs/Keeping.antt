-- What is kept of a sheet, record by record: a loop that writes it, and the statement. Assumes nothing.
use mathlib.Core.Path.{◌≡◌, refl, sym, ap, ◌∙◌}
use Prim.Native.Nat.{ℕ, zero, suc, ◌+◌, ◌-◌, ◌<◌, ◌≤◌, zero-le}
use native.Mathlib.Nat.{le_refl}
use native.Mathlib.Omega.{arith}
use mathlib.Core.List.{List, [], ◌++◌, append_assoc, append-nil}
use borrow.Author.Tests.{le-leb, lt-leb}
use borrow.Rule.Slice.PartMut.{mid_of, put_mid}
use lib.ListN.{length, take, drop, drop_of_length-le}
use lib.Seq.{take_at, take-append-add}
use lib.Dec.{lit<}
use Rattle.record.specs.Refusals.{cut_short}
use Rattle.record.specs.Record.{read_record}
use Rattle.buffers.specs.Over.{over}
use Rattle.sheet.specs.Sheet.{most_bytes}
use Rattle.record.specs.Save.{record_bytes, record_room}
use Rattle.record.specs.Promises.{Bytes}
use Rattle.record.specs.Refusing.{all_top, Stopped, by_6, at_once}
use Rattle.record.specs.declared.record.RecordAnswer.{RecordAnswer}
use Rattle.buffers.proofs.Texts.{Wrote, wrote_none, wrote_length, wrote_part}
use Rattle.record.proofs.Refusing.{record_refusals}
use Rattle.record.proofs.Saved.{records_move, taken_moves, taken_bytes}
use Rattle.resave.specs.Resave.{piece, onward, kept_from, kept_if, kept, Taken, here, further, KeptUpTo}
use Rattle.elementary.specs.Checks.{by}

-- ---- from the end on nothing is kept
stopped_end : Stopped [] cut_short
unfolding all_top
stopped_end = by_6 {n = 0} (lit< tt) at_once (refl, lit< tt)

past_end : (s : List ℕ) (at : ℕ) → length s ≤ at → read_record s at ≡ RecordAnswer.Refused (by cut_short)
past_end s at h = (record_refusals s at cut_short).1 (rw (drop_of_length-le s h) stopped_end)

kept_none : (k : ℕ) (s : List ℕ) (at : ℕ) → length s ≤ at → kept_from k s at ≡ []
unfolding kept_from piece onward
kept_none zero s at h = refl
kept_none (suc k) s at h = rw (past_end s at h) (kept_none k s (length s) (le_refl (length s)))

-- ---- what is kept of one answer takes no more bytes than were read, and reading goes on
record Moved (s : List ℕ) (at : ℕ) (a : RecordAnswer) : Type 0 where
  on : at < onward (length s) a
  within : onward (length s) a ≤ length s
  fits : at + length (piece a) ≤ onward (length s) a

moved : (s : List ℕ) (at : ℕ) (a : RecordAnswer) → Bytes s → at < length s → read_record s at ≡ a → Moved s at a
unfolding piece onward
moved s at (RecordAnswer.Record r next) h l e =
    let m = taken_moves s at r next e in
    record { on = m.0; within = m.1; fits = omega (arith, (taken_bytes s at r next e h).1) }
moved s at (RecordAnswer.Skipped k next) h l e =
    let m = (records_move s at next).1 k.0 e in
    record { on = m.0; within = m.1; fits = omega (arith, m) }
moved s at (RecordAnswer.Refused k) h l e = record { on = l; within = le_refl (length s); fits = omega arith }

-- ---- a loop that keeps what it can: n bytes are written, and the place is reached; as many turns as bytes are left are enough
pub record Keeping (s l out : List ℕ) (n at : ℕ) : Type 0 where
  pub within : at ≤ length s
  pub short : n ≤ at
  pub turns : ℕ
  pub enough : length s ≤ at + turns
  pub so_far : List ℕ
  pub wrote : Wrote l so_far out n
  pub whole : so_far ++ kept_from turns s at ≡ kept_from (length s) s 0

pub keeping_none : (s l : List ℕ) → Keeping s l l 0 0
keeping_none s l =
    record {
      within = zero-le;
      short = zero-le;
      turns = length s;
      enough = omega arith;
      so_far = [];
      wrote = wrote_none l;
      whole = refl;
    }

module _ (s l out : List ℕ) (n at : ℕ) (most : length s ≤ most_bytes) (room : most_bytes + record_room ≤ length l) (g : Keeping s l out n at) where
  pub keeping_room : (n + record_room ≤ length l) × (length out ≡ length l)
  keeping_room =
      let h : n + record_room ≤ length l = omega (arith, g.within, g.short) in
      (h, wrote_length l g.so_far out n g.wrote (omega arith))

  -- a turn: what is kept of the record at the place goes into the part of the buffer after the n bytes
  module _ (bytes : Bytes s) (more : at < length s) where
    kept_more : (k : ℕ) → g.turns ≡ suc k → g.so_far ++ piece (read_record s at) ++ kept_from k s (onward (length s) (read_record s at)) ≡ kept_from (length s) s 0
    unfolding kept_from
    kept_more k e = append_assoc g.so_far (piece (read_record s at)) _ ∙ rw e at g.whole

    pub keeping_less : (next : ℕ) → next ≡ onward (length s) (read_record s at) → (at < next) × (next ≤ length s)
    keeping_less next e = let m = moved s at (read_record s at) bytes more refl in rw e (m.on, m.within)

    pub keeping_more : (part : List ℕ) (count next : ℕ) → count ≡ length (piece (read_record s at)) → next ≡ onward (length s) (read_record s at)
        → part ≡ over (piece (read_record s at)) (mid_of n (length out - n) out) → Keeping s l (put_mid n (length out - n) out part) (n + count) next
    keeping_more part count next c e p = go g.turns refl
      where
        go : (k : ℕ) → g.turns ≡ k → Keeping s l (put_mid n (length out - n) out part) (n + count) next
        go zero d = absurd (omega (arith, g.enough))
        go (suc k) d =
            let m = moved s at (read_record s at) bytes more refl in
            record {
              within = rw e m.within;
              short = omega (arith, m.fits, g.short);
              turns = k;
              enough = omega (arith, m.on, g.enough);
              so_far = g.so_far ++ piece (read_record s at);
              wrote = wrote_part l g.so_far (piece (read_record s at)) out part n count g.wrote p c;
              whole = rw e (kept_more k d);
            }

  pub keeping_all : length s ≤ at → (take n out ≡ kept s) × (n ≤ most_bytes)
  unfolding kept kept_if over
  keeping_all h = (
    rw (le-leb (length s) most_bytes most, g.wrote.is, take_at g.so_far (drop (length g.so_far) l) n (sym g.wrote.up_to))
        (sym (append-nil g.so_far) ∙ ap (λ (m : List ℕ). g.so_far ++ m) (sym (kept_none g.turns s at h)) ∙ g.whole),
    omega (arith, g.within, g.short),
  )

pub kept_long : (s : List ℕ) → most_bytes < length s → kept s ≡ []
unfolding kept kept_if
kept_long s h = rw (lt-leb (length s) most_bytes h)

-- ---- the statement
ordered : {s : List ℕ} {at p : ℕ} → Taken s at p → at ≤ p
ordered here = le_refl _
ordered {s} {at} (further {next = next} r e t) = omega (arith, taken_moves s at r next e, ordered t)

kept_stop : (k j : ℕ) (s : List ℕ) (at : ℕ) → read_record s at ≡ RecordAnswer.Refused (by j) → kept_from k s at ≡ []
unfolding kept_from piece onward
kept_stop zero j s at e = refl
kept_stop (suc k) j s at e = rw e (kept_none k s (length s) (le_refl (length s)))

-- d bytes from a place on
kept_from_lem : {s : List ℕ} {at p : ℕ} (k j d : ℕ) → Bytes s → length s ≤ at + k → p ≡ at + d → Taken s at p → read_record s p ≡ RecordAnswer.Refused (by j) → kept_from k s at ≡ take d (drop at s)
unfolding kept_from piece onward
kept_from_lem {s} {at} k j d h n q here e = let z : d ≡ 0 = omega arith in rw z (kept_stop k j s at e)
kept_from_lem {s} {at} zero j d h n q (further {next = next} r i t) e = absurd (omega (arith, taken_moves s at r next i))
kept_from_lem {s} {at} (suc k) j d h n q (further {next = next} r i t) e =
    let b = taken_bytes s at r next i h in
    let m = d - length (record_bytes r) in
    let w : d ≡ length (record_bytes r) + m = omega (arith, b.1, ordered t) in
    rw (i, b.0, w, take-append-add (record_bytes r) (drop next s) m)
    (ap (λ (u : List ℕ). record_bytes r ++ u) (kept_from_lem k j m h (omega (arith, taken_moves s at r next i)) (omega (arith, b.1)) t e))

pub kept_up_to : KeptUpTo
unfolding kept kept_if
kept_up_to s p k h l t e = rw (le-leb (length s) most_bytes l) (kept_from_lem (length s) k p h (omega arith) (omega arith) t e)
