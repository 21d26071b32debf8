-- The steps make the whole: the texts of a kind, one after the other, are what is printed for the sheet, and that is bounded. Assumes nothing.
use mathlib.Core.Path.{◌≡◌, refl, ap, ◌∙◌, subst}
use Prim.Native.Nat.{ℕ, zero, suc, ◌+◌, ◌-◌, ◌*◌, ◌<◌, ◌≤◌}
use native.Mathlib.Nat.{le_refl, le_trans, mul-le-mul_right, suc-mul}
use native.Mathlib.Omega.{arith}
use mathlib.Core.Bool.{Bool, true, false}
use mathlib.Core.List.{List, [], ◌∷◌, append-nil}
use borrow.Author.Tests.{ltb-true, ltb-false, leb-true, leb-false}
use lib.ListN.{length, drop, length-drop, length-append, drop_of_length-le}
use lib.Dec.{ltb, leb, lit<}
use Rattle.amounts.specs.Refusals.{limits}
use Rattle.record.specs.Record.{Read, taken, refused, numbers, fields, record_of, record_ok, record_if, record_from, as_held, held_as, read_as}
use Rattle.record.specs.declared.record.Record.{Record}
use Rattle.record.proofs.Left.{next_moves, next_left}
use Rattle.lines.specs.Lines.{refusal_line}
use Rattle.sheet.specs.Refusals.{long_sheet}
use Rattle.sheet.specs.Sheet.{most_bytes, line, step_of, step_by, first, head_if, head_by, head_of, texts, printed_if, printed_by}
use Rattle.sheet.specs.Kinds.{is_flat, room_of, text_of, whole_text, text_at, printed_as}
use Rattle.sheet.specs.Promises.{Followed, StepsMakeTheWhole, PrintedBounded}
use Rattle.sheet.specs.Promises as Promises
use Rattle.sheet.specs.declared.text.Kind.{Kind}
use Rattle.sheet.proofs.Texts.{number_most, text_end, text_long, text_read, texts_fit, texts_move}

-- ---- a record's text, or the line of refusal 2
text_if : Kind → Bool → Record → List ℕ
text_if k true r = text_of k r
text_if k false r = refusal_line limits

step_text : (k : Kind) (t : Bool) (r : Record) (n next : ℕ) → step_of (whole_text k) n (record_if t r next) ≡ line (text_if k t r) next
unfolding text_if step_of step_by record_if
step_text k true r n next = refl
step_text k false r n next = refl

head_text : (k : Kind) (t : Bool) (r : Record) (l : List ℕ) → head_if (text_of k) t r l ≡ first (text_if k t r) l
unfolding text_if head_if
head_text k true r l = refl
head_text k false r l = refl

-- a text that is the last
last_text : (k : Kind) (s : List ℕ) (at : ℕ) (t : List ℕ) → text_at k s at ≡ line t (length s) → Followed k s at t
last_text k s at t e = subst (Followed k s at) (append-nil t) (Promises.stepped e (Promises.ended (text_end k s (length s) (le_refl (length s)))))

head_is : (k : Kind) (l : List ℕ) → 0 < length l → head_of (text_of k) (is_flat k) l ≡ head_by (text_of k) (held_as (is_flat k) (numbers fields l))
unfolding head_of
head_is k [] h = absurd (omega arith)
head_is k (b ∷ l) h = refl

module _ (k : Kind) (s : List ℕ) (short : length s ≤ most_bytes) where
  -- what is printed from some bytes on, in so many turns
  abbrev rest : ℕ → List ℕ → List ℕ
  rest j l = texts (text_of k) (is_flat k) j (head_of (text_of k) (is_flat k) l)

  text_by : (at : ℕ) (x : Read (List ℕ)) → at < length s → numbers fields (drop at s) ≡ x → text_at k s at ≡ step_of (whole_text k) (length s) (record_from (length s) (held_as (is_flat k) x))
  unfolding read_as
  text_by at x h e = text_read k s at h short ∙ ap (λ (y : Read (List ℕ)). step_of (whole_text k) (length s) (record_from (length s) (held_as (is_flat k) y))) e

  -- one record, and those after it
  follow_one : (j at : ℕ) (x : Read (List ℕ)) → at < length s → numbers fields (drop at s) ≡ x → ((next : ℕ) → at < next → Followed k s next (rest j (drop next s)))
      → Followed k s at (texts (text_of k) (is_flat k) (suc j) (head_by (text_of k) (held_as (is_flat k) x)))
  unfolding texts head_by record_from step_of held_as
  follow_one j at (taken v r) h e f =
      let n = length s - length r in
      let q = record_of (as_held (is_flat k) v) in
      let o = record_ok q in
      let g : Followed k s n (rest j r) = rw (next_left s at v r e) at (f n (next_moves s at v r e).0) in
      rw (head_text k o q r) (Promises.stepped (text_by at (taken v r) h e ∙ step_text k o q (length s) n) g)
  follow_one j at (refused n) h e f = last_text k s at (refusal_line n) (text_by at (refused n) h e)

  -- from a place on, with turns enough for the bytes left
  follow : (j at : ℕ) → length s ≤ j + at → Followed k s at (rest j (drop at s))
  unfolding texts head_of
  follow zero at h = Promises.ended (text_end k s at (omega arith))
  follow (suc j) at h = go (ltb at (length s)) (ltb-true at (length s)) (ltb-false at (length s)) (λ next m. follow j next (omega arith))
    where
      go : (m : Bool) → (m ≡ true → at < length s) → (m ≡ false → length s ≤ at) → ((next : ℕ) → at < next → Followed k s next (rest j (drop next s)))
          → Followed k s at (rest (suc j) (drop at s))
      go true f g r =
          rw (head_is k (drop at s) (rw (length-drop at s) (omega (arith, f refl)))) (follow_one j at (numbers fields (drop at s)) (f refl) refl r)
      go false f g r = rw (drop_of_length-le s (g refl)) (Promises.ended (text_end k s at (g refl)))

pub steps_make_the_whole : StepsMakeTheWhole
unfolding printed_as printed_by printed_if
steps_make_the_whole k s = go (leb (length s) most_bytes) (leb-true (length s) most_bytes) (leb-false (length s) most_bytes)
  where
    go : (m : Bool) → (m ≡ true → length s ≤ most_bytes) → (m ≡ false → most_bytes < length s) → Followed k s 0 (printed_if m (text_of k) (is_flat k) s)
    go true f g = follow k s (f refl) (length s) 0 (omega arith)
    go false f g = last_text k s 0 (refusal_line long_sheet) (text_long k s 0 (omega (arith, g refl)) (g refl))

-- ---- the bound: a text for each byte
followed_most : {k : Kind} {s : List ℕ} {at : ℕ} {v : List ℕ} → Followed k s at v → length v ≤ (length s - at) * room_of k
followed_most (Promises.ended e) = omega arith
followed_most {k} {s} {at} (Promises.stepped {next = next} {t = t} {u = u} e f) =
    let m = texts_move k s at t next e in
    let more : suc (length s - next) * room_of k ≤ (length s - at) * room_of k = mul-le-mul_right (room_of k) (omega arith) in
    rw (length-append t u) (omega (arith, texts_fit k s at t next e, followed_most f, suc-mul (length s - next) (room_of k)))

pub printed_bounded : PrintedBounded
unfolding printed_as printed_by printed_if
printed_bounded k s = go (leb (length s) most_bytes) (leb-true (length s) most_bytes) refl
  where
    go : (m : Bool) → (m ≡ true → length s ≤ most_bytes) → leb (length s) most_bytes ≡ m → length (printed_if (leb (length s) most_bytes) (text_of k) (is_flat k) s) ≤ most_bytes * room_of k
    go true f e = le_trans (followed_most (steps_make_the_whole k s)) (mul-le-mul_right (room_of k) (omega (arith, f refl)))
    go false f e = rw e (omega (arith, number_most k long_sheet (lit< tt)))
