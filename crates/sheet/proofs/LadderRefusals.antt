-- What refuses the ladder at a place of a sheet: 8, then 21 in just the situation named. Assumes nothing.
use Rattle.std.specs.Prelude.{Err}
use mathlib.Core.Path.{◌≡◌, refl, sym, ap, ◌∙◌}
use mathlib.Core.Logic.{◌⊎◌, inl, inr, ⊎_elim}
use Prim.Native.Nat.{ℕ, ◌<◌, ◌≤◌}
use native.Mathlib.Omega.{arith}
use mathlib.Core.Bool.{Bool, true, false}
use mathlib.Core.List.{List}
use borrow.Author.Tests.{ltb-true, leb-true, leb-false, le-leb, lt-leb, eqb-true}
use lib.ListN.{length}
use lib.Dec.{ltb, leb, eqb}
use Rattle.lots.specs.Reckoning.{Early}
use Rattle.record.specs.Record.{config_of, read_as}
use Rattle.record.specs.declared.record.Record.{Record}
use Rattle.record.specs.declared.record.RecordAnswer.{RecordAnswer}
use Rattle.lines.specs.Refusals.{small_buffer}
use Rattle.lines.specs.Lines.{least_room, has_room, Text, text, refusal}
use Rattle.ladders.specs.Refusals.{small_ladder_buffer}
use Rattle.ladders.specs.Ladder.{ladder_room, ladder_answer, Unrefused}
use Rattle.ladders.proofs.LadderLaws.{ladder_refusals}
use Rattle.sheet.specs.Sheet.{most_bytes, Step, line, end, refuse, step_by, step_of, step_if, step_at, answered, left}
use Rattle.sheet.specs.Ladders.{refused_by, ladder_text, record_ladder, ladder_at}
use Rattle.sheet.specs.Refusing.{Readable, ShortLadder, LadderBufferRefusals}
use Rattle.sheet.proofs.Steps.{step_read}
use Rattle.elementary.specs.Checks.{by}
use Rattle.elementary.proofs.Checks.{same_number, same_err}

-- ---- a refusal, by the buffer's size and by the step
refused_of : (m : Bool) (x : Step) (k : ℕ) → answered m x ≡ Err (by k) → ((k ≡ small_buffer) × (m ≡ false)) ⊎ ((m ≡ true) × (x ≡ refuse k))
unfolding answered
refused_of false x k e = inl (same_number (let z : by k ≡ by small_buffer = cc in z), refl)
refused_of true (line t next) k e = let z : ◌≡◌ {A = ℕ} 0 1 = cc in absurd (omega arith)
refused_of true end k e = let z : ◌≡◌ {A = ℕ} 0 1 = cc in absurd (omega arith)
refused_of true (refuse n) k e = let z : n ≡ k = same_number (let y : by n ≡ by k = cc in y) in inr (refl, ap refuse z)

left_same : (m : Bool) (x : Step) (k : ℕ) (b : List ℕ) → answered m x ≡ Err (by k) → left m x b ≡ b
unfolding answered left
left_same false x k b e = refl
left_same true (line t next) k b e = let z : ◌≡◌ {A = ℕ} 0 1 = cc in absurd (omega arith)
left_same true end k b e = refl
left_same true (refuse n) k b e = refl

-- ---- the record that a step is refused for
by_refused : (x : Text) (next k : ℕ) → step_by x next ≡ refuse k → x ≡ refusal k
unfolding step_by
by_refused (text t) next k e = let z : ◌≡◌ {A = ℕ} 0 1 = cc in absurd (omega arith)
by_refused (refusal n) next k e = let z : n ≡ k = cc in ap refusal z

abbrev RefusedFor : (Record → Text) → RecordAnswer → ℕ → Type 0
RefusedFor f a k = (r : Record) × (next : ℕ) × (a ≡ RecordAnswer.Record r next) × (f r ≡ refusal k)

of_refused : (f : Record → Text) (n : ℕ) (a : RecordAnswer) (k : ℕ) → step_of f n a ≡ refuse k → RefusedFor f a k
unfolding step_of
of_refused f n (RecordAnswer.Record r next) k e = (r, next, refl, by_refused (f r) next k e)
of_refused f n (RecordAnswer.Skipped j next) k e = let z : ◌≡◌ {A = ℕ} 0 1 = cc in absurd (omega arith)
of_refused f n (RecordAnswer.Refused j) k e = let z : ◌≡◌ {A = ℕ} 0 1 = cc in absurd (omega arith)

step_refused : (f : Record → Text) (s : List ℕ) (at : ℕ) (a : RecordAnswer) (k : ℕ) → step_at f s at a ≡ refuse k → Readable s at × RefusedFor f a k
unfolding step_at step_if
step_refused f s at a k e = go (ltb at (length s)) (leb (length s) most_bytes) (ltb-true at (length s)) (leb-true (length s) most_bytes) e
  where
    go : (x y : Bool) → (x ≡ true → at < length s) → (y ≡ true → length s ≤ most_bytes) → step_if x y f (length s) a ≡ refuse k → Readable s at × RefusedFor f a k
    go false y p q d = let z : ◌≡◌ {A = ℕ} 0 1 = cc in absurd (omega arith)
    go true false p q d = let z : ◌≡◌ {A = ℕ} 0 1 = cc in absurd (omega arith)
    go true true p q d = ((p refl, q refl), of_refused f (length s) a k d)

-- ---- of a ladder it is 21
text_refused : (x : Text) (k : ℕ) → ladder_text x ≡ refusal k → (k ≡ small_ladder_buffer) × (x ≡ refusal small_ladder_buffer)
unfolding ladder_text refused_by
text_refused (text t) k e = let z : ◌≡◌ {A = ℕ} 0 1 = cc in absurd (omega arith)
text_refused (refusal n) k e = go (eqb n small_ladder_buffer) (eqb-true n small_ladder_buffer) e
  where
    go : (b : Bool) → (b ≡ true → n ≡ small_ladder_buffer) → refused_by b n ≡ refusal k → (k ≡ small_ladder_buffer) × (refusal n ≡ refusal small_ladder_buffer)
    go true f d = let z : n ≡ k = cc in (sym z ∙ f refl, ap refusal (f refl))
    go false f d = let z : ◌≡◌ {A = ℕ} 0 1 = cc in absurd (omega arith)

answer_refused : (x : Text) (n : ℕ) → ladder_answer x ≡ Err (by n) → x ≡ refusal n
unfolding ladder_answer
answer_refused (text t) n e = let z : ◌≡◌ {A = ℕ} 0 1 = cc in absurd (omega arith)
answer_refused (refusal m) n e = ap refusal (same_err e)

not_early : Early small_ladder_buffer → ⊥
not_early e = ⊎_elim (λ z. omega arith) (λ y. ⊎_elim (λ z. omega arith) (λ z. omega arith) y) e

module _ (b : List ℕ) (r : Record) where
  abbrev Short : Type 0
  Short = Unrefused r.mid_price (config_of r) r.volatility r.current_time × (length b < ladder_room (config_of r))

  short_so : (k : ℕ) → record_ladder (length b) r ≡ refusal k → (k ≡ small_ladder_buffer) × Short
  unfolding record_ladder ladder_answer
  short_so k e =
      let x = text_refused _ k e in
      let y = (ladder_refusals r.mid_price (config_of r) r.volatility r.current_time b small_ladder_buffer).0.0 (ap ladder_answer x.1) in
      (x.0, ⊎_elim (λ z. absurd (not_early z.0)) (λ z. (z.1, z.2)) y)

  so_short : Short → record_ladder (length b) r ≡ refusal small_ladder_buffer
  unfolding record_ladder ladder_text refused_by
  so_short h =
      let e = (ladder_refusals r.mid_price (config_of r) r.volatility r.current_time b small_ladder_buffer).0.1 (inr (refl, h.0, h.1)) in
      ap ladder_text (answer_refused _ small_ladder_buffer e)

-- ---- at a place of a sheet
module _ (s : List ℕ) (at : ℕ) (b : List ℕ) (k : ℕ) where
  told_so : answered (has_room b) (ladder_at (length b) s at) ≡ Err (by k) → ((k ≡ small_buffer) × (length b < least_room)) ⊎ ((k ≡ small_ladder_buffer) × (least_room ≤ length b) × ShortLadder s at (length b))
  unfolding ladder_at
  told_so e = go (refused_of (has_room b) _ k e)
    where
      go : ((k ≡ small_buffer) × (has_room b ≡ false)) ⊎ ((has_room b ≡ true) × (step_at (record_ladder (length b)) s at (read_as true s at) ≡ refuse k))
          → ((k ≡ small_buffer) × (length b < least_room)) ⊎ ((k ≡ small_ladder_buffer) × (least_room ≤ length b) × ShortLadder s at (length b))
      go (inl x) = inl (x.0, leb-false least_room (length b) x.1)
      go (inr x) =
          let p = step_refused (record_ladder (length b)) s at (read_as true s at) k x.1 in
          let r = p.1 in
          let y = short_so b r.0 k r.3 in
          inr (y.0, leb-true least_room (length b) x.0, (p.0, (r.0, r.1, r.2, y.1.0, y.1.1)))

  so_told : ((k ≡ small_buffer) × (length b < least_room)) ⊎ ((k ≡ small_ladder_buffer) × (least_room ≤ length b) × ShortLadder s at (length b)) → answered (has_room b) (ladder_at (length b) s at) ≡ Err (by k)
  unfolding answered ladder_at step_of step_by
  so_told (inl x) = rw (lt-leb least_room (length b) x.1, x.0)
  so_told (inr x) =
      let p = x.2.0 in
      let r = x.2.1 in
      rw (le-leb least_room (length b) x.1, step_read (record_ladder (length b)) s at (read_as true s at) p.0 p.1, r.2, so_short b r.0 (r.3, r.4), x.0)

pub ladder_buffer_refusals : LadderBufferRefusals
ladder_buffer_refusals s at b k = ((told_so s at b k, so_told s at b k), left_same (has_room b) (ladder_at (length b) s at) k b)
