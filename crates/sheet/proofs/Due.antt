-- The text at a place of a sheet, a record's by f, read with its holding or without: before the end one is due, and the next place is further on. Assumes nothing.
use mathlib.Core.Path.{◌≡◌, refl, sym, ◌∙◌, subst}
use mathlib.Core.Logic.{⊎_elim}
use Prim.Native.Nat.{ℕ, ◌-◌, ◌<◌, ◌≤◌}
use native.Mathlib.Nat.{le_refl}
use native.Mathlib.Omega.{arith}
use mathlib.Core.Bool.{Bool, true, false}
use mathlib.Core.List.{List}
use borrow.Author.Tests.{ltb-true, ltb-false, leb-true, leb-false}
use lib.ListN.{length, drop}
use lib.Dec.{ltb, leb, lit<}
use Rattle.amounts.specs.Refusals.{limits}
use Rattle.sheet.specs.Refusals.{long_sheet}
use Rattle.record.specs.Record.{Read, taken, refused, numbers, fields, record_of, record_ok, record_if, record_from, as_held, held_as, read_as}
use Rattle.lines.specs.Lines.{refusal_line, Text, text, refusal}
use Rattle.record.specs.declared.record.RecordAnswer.{RecordAnswer}
use Rattle.sheet.specs.Sheet.{most_bytes, Step, line, end, refuse, step_by, step_of, step_at}
use Rattle.record.specs.declared.record.Record.{Record}
use Rattle.sheet.proofs.Steps.{step_end, step_long, step_read}
use Rattle.record.proofs.Left.{next_moves}
use Rattle.record.proofs.Numbers.{numbers_stopped, stopped_number}

-- P is what holds of every record's text that is written, and of every refusal's line
module _ (f : Record → Text) (flat : Bool) (P : List ℕ → Type 0) (texts : (r : Record) (t : List ℕ) → f r ≡ text t → P t) (lines : (k : ℕ) → k < 256 → P (refusal_line k)) (s : List ℕ) (at : ℕ) where
  -- what holds of a text that stands there
  abbrev Stands : Step → Type 0
  Stands x = (t : List ℕ) (next : ℕ) → x ≡ line t next → P t × (at < next) × (next ≤ length s)

  stands_line : (u : List ℕ) (m : ℕ) → P u → (at < m) → (m ≤ length s) → Stands (line u m)
  stands_line u m p h k t next e =
      let y : u ≡ t = cc in
      let z : m ≡ next = cc in
      (subst P y p, subst (λ (n : ℕ). at < n) z h, subst (λ (n : ℕ). n ≤ length s) z k)

  stands_by : (x : Text) (m : ℕ) → ((t : List ℕ) → x ≡ text t → P t) → (at < m) × (m ≤ length s) → Stands (step_by x m)
  unfolding step_by
  stands_by (text u) m p h = stands_line u m (p u refl) h.0 h.1
  stands_by (refusal n) m p h = λ t next e. let z : ◌≡◌ {A = ℕ} 0 1 = cc in absurd (omega arith)

  stands_read : (x : Read (List ℕ)) → numbers fields (drop at s) ≡ x → at < length s → Stands (step_of f (length s) (record_from (length s) (held_as flat x)))
  unfolding step_of record_from held_as record_if
  stands_read (taken v r) e b = go (record_ok (record_of (as_held flat v))) (next_moves s at v r e)
    where
      go : (t : Bool) → (at < length s - length r) × (length s - length r ≤ length s) → Stands (step_of f (length s) (record_if t (record_of (as_held flat v)) (length s - length r)))
      go true m = stands_by (f (record_of (as_held flat v))) _ (texts (record_of (as_held flat v))) m
      go false m = stands_line _ _ (lines limits (lit< tt)) m.0 m.1
  stands_read (refused k) e b =
      stands_line _ _ (lines k (⊎_elim (λ z. omega arith) (λ z. omega arith) (stopped_number ((numbers_stopped fields (drop at s) k).0 e)))) b (le_refl (length s))

  -- there is none from the end on
  pub step_before : (t : List ℕ) (next : ℕ) → step_at f s at (read_as flat s at) ≡ line t next → at < length s
  step_before t next e = go (ltb at (length s)) (ltb-true at (length s)) (ltb-false at (length s))
    where
      go : (m : Bool) → (m ≡ true → at < length s) → (m ≡ false → length s ≤ at) → at < length s
      go true y n = y refl
      go false y n = let h = step_end f s at (read_as flat s at) (n refl) in let z : ◌≡◌ {A = ℕ} 0 1 = cc in absurd (omega arith)

  pub step_kept : Stands (step_at f s at (read_as flat s at))
  unfolding read_as
  step_kept t next e = go (leb (length s) most_bytes) (leb-true (length s) most_bytes) (leb-false (length s) most_bytes) (step_before t next e)
    where
      go : (m : Bool) → (m ≡ true → length s ≤ most_bytes) → (m ≡ false → most_bytes < length s) → at < length s → P t × (at < next) × (next ≤ length s)
      go true y n b = stands_read (numbers fields (drop at s)) refl b t next (sym (step_read f s at (read_as flat s at) b (y refl)) ∙ e)
      go false y n b = stands_line _ _ (lines long_sheet (lit< tt)) b (le_refl (length s)) t next (sym (step_long f s at (read_as flat s at) b (n refl)) ∙ e)

-- ---- before the end a text is due, where no step is refused
due_of : (x : Step) → (x ≡ end → ⊥) → ((k : ℕ) → x ≡ refuse k → ⊥) → (t : List ℕ) × (next : ℕ) × (x ≡ line t next)
due_of (line t next) h g = (t, next, refl)
due_of end h g = absurd (h refl)
due_of (refuse k) h g = absurd (g k refl)

no_end : (f : Record → Text) (n : ℕ) (a : RecordAnswer) → step_of f n a ≡ end → ⊥
unfolding step_of step_by
no_end f n (RecordAnswer.Record r next) e = go (f r) e
  where
    go : (x : Text) → step_by x next ≡ end → ⊥
    go (text t) d = let z : ◌≡◌ {A = ℕ} 0 1 = cc in omega arith
    go (refusal k) d = let z : ◌≡◌ {A = ℕ} 0 1 = cc in omega arith
no_end f n (RecordAnswer.Skipped k next) e = let z : ◌≡◌ {A = ℕ} 0 1 = cc in omega arith
no_end f n (RecordAnswer.Refused k) e = let z : ◌≡◌ {A = ℕ} 0 1 = cc in omega arith

pub step_due : (f : Record → Text) (s : List ℕ) (at : ℕ) (a : RecordAnswer) → ((k : ℕ) → step_at f s at a ≡ refuse k → ⊥) → at < length s
    → (t : List ℕ) × (next : ℕ) × (step_at f s at a ≡ line t next)
step_due f s at a g h = due_of (step_at f s at a) (go (leb (length s) most_bytes) (leb-true (length s) most_bytes) (leb-false (length s) most_bytes)) g
  where
    go : (m : Bool) → (m ≡ true → length s ≤ most_bytes) → (m ≡ false → most_bytes < length s) → step_at f s at a ≡ end → ⊥
    go true y n e = no_end f (length s) a (sym (step_read f s at a h (y refl)) ∙ e)
    go false y n e = let d = step_long f s at a h (n refl) in let z : ◌≡◌ {A = ℕ} 0 1 = cc in omega arith
