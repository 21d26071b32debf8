-- The plans of a sheet's records: at each place the line is the record's own, or has steps; it fits its buffer, and reading goes on. Assumes nothing.
use mathlib.Core.Path.{◌≡◌, refl, sym, ◌∙◌, subst}
use mathlib.Core.Logic.{◌⊎◌, inl, inr}
use Prim.Native.Nat.{ℕ, ◌<◌, ◌≤◌}
use mathlib.Core.Bool.{Bool, true, false}
use mathlib.Core.List.{List}
use borrow.Author.Tests.{leb-true, leb-false}
use lib.ListN.{length}
use lib.Dec.{leb}
use Rattle.plan.specs.declared.FirstPlan.{FirstPlan}
use Rattle.record.specs.Record.{read_record}
use Rattle.record.specs.declared.record.Record.{Record}
use Rattle.record.specs.declared.record.RecordAnswer.{RecordAnswer}
use Rattle.sheet.specs.Sheet.{most_bytes, record_line, line, step_of, line_at, line_text, step_by}
use Rattle.sheet.specs.Horizon.{plan_of, record_plan, plan_at, HorizonLines, plan_text}
use Rattle.sheet.specs.declared.text.Kind.TheVariants as Kind
use Rattle.sheet.proofs.Steps.{step_long, step_read, line_long, line_read}
use Rattle.sheet.proofs.PlanLines.{over_line, refused_line}
use Rattle.sheet.proofs.Texts.{texts_stand, texts_fit, texts_move, text_before, text_written}
use Rattle.sheet.proofs.Refusing.{step_refusals}

module _ (s : List ℕ) (at : ℕ) where
  -- the line that `next_line` writes there, or that of a plan with steps
  abbrev Alike : List ℕ → ℕ → Type 0
  Alike t next = (line_at s at ≡ line t next) ⊎ ((r : Record) × (n : ℕ) × (read_record s at ≡ RecordAnswer.Record r next) × (plan_of r ≡ FirstPlan.Steps n))

  alike_record : (r : Record) (next : ℕ) (p : FirstPlan) → plan_of r ≡ p → read_record s at ≡ RecordAnswer.Record r next → line_at s at ≡ line (record_line r) next → Alike (record_plan r) next
  alike_record r next (FirstPlan.Steps n) e d l = inr (r, n, d, e)
  alike_record r next (FirstPlan.OverCap need b) e d l = inl (rw (over_line r need b e) l)
  alike_record r next (FirstPlan.Refused q) e d l = inl (rw (refused_line r q.0 e) l)

  alike_read : (a : RecordAnswer) → read_record s at ≡ a → line_at s at ≡ step_of line_text (length s) a
      → (t : List ℕ) (next : ℕ) → step_of plan_text (length s) a ≡ line t next → Alike t next
  unfolding step_of step_by
  alike_read (RecordAnswer.Record r m) d l t next e =
      let x : record_plan r ≡ t = cc in
      let y : m ≡ next = cc in
      subst (λ (u : List ℕ). Alike u next) x (subst (Alike (record_plan r)) y (alike_record r m (plan_of r) refl d l))
  alike_read (RecordAnswer.Skipped k m) d l t next e = inl (l ∙ e)
  alike_read (RecordAnswer.Refused k) d l t next e = inl (l ∙ e)

  alike_at : (t : List ℕ) (next : ℕ) → plan_at s at ≡ line t next → Alike t next
  unfolding plan_at
  alike_at t next e = go (leb (length s) most_bytes) (leb-true (length s) most_bytes) (leb-false (length s) most_bytes)
    where
      h : at < length s
      h = text_before Kind.Plan s at t next (texts_stand.plans s at ∙ e)

      go : (m : Bool) → (m ≡ true → length s ≤ most_bytes) → (m ≡ false → most_bytes < length s) → Alike t next
      go true y n = alike_read (read_record s at) refl (line_read s at h (y refl)) t next (sym (step_read plan_text s at (read_record s at) h (y refl)) ∙ e)
      go false y n = inl (line_long s at h (n refl) ∙ sym (step_long plan_text s at (read_record s at) h (n refl)) ∙ e)

pub horizon_lines : HorizonLines
horizon_lines = record {
  over = over_line;
  refused = refused_line;
  alike = alike_at;
  fits = λ s at t next e. texts_fit Kind.Plan s at t next (texts_stand.plans s at ∙ e);
  moves = λ s at t next e. texts_move Kind.Plan s at t next (texts_stand.plans s at ∙ e);
  small = λ s at b k. step_refusals (plan_at s at) b k (λ n e. text_written Kind.Plan s at n (texts_stand.plans s at ∙ e));
}
