-- The lines of this layer's refusals stand in just the situations that the paper names. Assumes nothing.
use mathlib.Core.Path.{◌≡◌, refl, sym, ap, ◌∙◌, subst}
use mathlib.Core.Logic.{◌⊎◌, inl, inr, ⊎_elim}
use Prim.Native.Nat.{ℕ, ◌-◌, ◌<◌, ◌≤◌}
use native.Mathlib.Omega.{arith}
use mathlib.Core.Bool.{Bool, true, false, ◌&&◌, and-eq-true_iff}
use mathlib.Core.List.{List}
use borrow.Author.Tests.{leb-true, leb-false}
use lib.IntN.{ℤ}
use lib.ListN.{length, get_or, drop}
use lib.Dec.{leb}
use Rattle.elementary.specs.Checks.{Refuses, here, later, by}
use Rattle.amounts.specs.Refusals.{limits}
use Rattle.amounts.specs.Amounts.{time_ok}
use Rattle.model.specs.Model.{model_limits, exact_checks}
use Rattle.model.specs.declared.GLFTConfig.{GLFTConfig}
use Rattle.quote.specs.Quotes.{exact_quotes}
use Rattle.prices.specs.Refusing.{Priced, by_13, by_14}
use Rattle.quote.specs.Promises.{ExactRefused}
use Rattle.quote.specs.declared.ExactQuotes.{ExactQuotes}
use Rattle.quote.proofs.Refusing.{exact_refusals}
use Rattle.record.specs.Refusals.{cut_short, malformed}
use Rattle.sheet.specs.Refusals.{long_sheet}
use Rattle.record.specs.Record.{Read, taken, refused, numbers, fields, record_of, config_of, most_bound, record_ok, record_if, record_from, read_record}
use Rattle.lines.specs.Lines.{joined, quotes_line, cap_line, refusal_line, answer_line}
use Rattle.sheet.specs.Sheet.{most_bytes, record_line, line, step_of, line_at, line_text, step_by}
use Rattle.record.specs.Refusing.{Stopped, Beyond}
use Rattle.sheet.specs.Refusing.{LongLine, Readable, StoppedLine, SkippedLine, LineRefusals}
use Rattle.record.specs.declared.record.Record.{Record}
use Rattle.record.specs.declared.record.RecordAnswer.{RecordAnswer}
use Rattle.lines.proofs.Digits.{back, back_count}
use Rattle.sheet.proofs.Steps.{line_long, line_read}
use Rattle.record.proofs.Numbers.{stopped_number}
use Rattle.sheet.proofs.Texts.{line_before}
use Rattle.record.proofs.Refusing.{record_refusals, record_skips}

-- ---- a line names its number, and only a refusal's line is `R`
same_number : (m n : ℕ) → refusal_line m ≡ refusal_line n → m ≡ n
unfolding refusal_line joined
same_number m n e = omega (arith, sym (back_count m) ∙ ap (λ (t : List ℕ). back 0 (drop 2 t)) e ∙ back_count n)

refused_line : (a : ExactQuotes) (k : ℕ) → answer_line a ≡ refusal_line k → a ≡ ExactQuotes.Refused (by k)
unfolding answer_line quotes_line cap_line refusal_line joined
refused_line (ExactQuotes.Quotes q s) k e = let z : ◌≡◌ {A = ℕ} 81 82 = ap (λ (t : List ℕ). get_or t 0 0) e in absurd (omega arith)
refused_line (ExactQuotes.OverStepCap need b s) k e = let z : ◌≡◌ {A = ℕ} 67 82 = ap (λ (t : List ℕ). get_or t 0 0) e in absurd (omega arith)
refused_line (ExactQuotes.Refused r) k e = ap (λ (n : ℕ). ExactQuotes.Refused (by n)) (same_number r.0 k e)

-- ---- a record within the limits is refused by none of this layer's numbers
abbrev Apart : ℕ → Type 0
Apart k = (k ≡ limits → ⊥) × (k ≡ cut_short → ⊥) × (k ≡ malformed → ⊥) × (k ≡ long_sheet → ⊥)

checked_apart : (mid h : ℤ) (c : GLFTConfig) (vol : ℤ) (t : ℕ) {k : ℕ} → (time_ok t && model_limits mid h c vol) ≡ true → Refuses (exact_checks mid h c vol t) k → Apart k
checked_apart mid h c vol t e (here i) = let y : true ≡ false = sym e ∙ i in let z : ◌≡◌ {A = ℕ} 0 1 = cc in absurd (omega arith)
checked_apart mid h c vol t e (later _ (here i)) = omega arith
checked_apart mid h c vol t e (later _ (later _ (here i))) = omega arith
checked_apart mid h c vol t e (later _ (later _ (later _ (here i)))) = omega arith
checked_apart mid h c vol t e (later _ (later _ (later _ (later _ (here i))))) = omega arith
checked_apart mid h c vol t {k = k} e (later _ (later _ (later _ (later _ (later _ x))))) = elim x [ ]

priced_apart : {mid least : ℤ} {b : _} {a : _} {k : ℕ} → Priced mid least b a k → Apart k
priced_apart (by_13 h) = omega arith
priced_apart (by_14 h g) = omega arith

quotes_apart : (r : Record) (k : ℕ) → record_ok r ≡ true → record_line r ≡ refusal_line k → Apart k
unfolding record_line record_ok
quotes_apart r k h e =
    let time = time_ok r.current_time in
    let amounts = model_limits r.mid_price r.inventory (config_of r) r.volatility in
    let p = (and-eq-true_iff amounts time).0 ((and-eq-true_iff (amounts && time) (leb r.max_inventory_lots most_bound)).0 h).0 in
    go ((and-eq-true_iff time amounts).1 (p.1, p.0))
    ((exact_refusals r.mid_price r.inventory (config_of r) r.volatility r.current_time k).0
    (refused_line (exact_quotes r.mid_price r.inventory (config_of r) r.volatility r.current_time) k e))
  where
    go : (time_ok r.current_time && model_limits r.mid_price r.inventory (config_of r) r.volatility) ≡ true
        → ExactRefused r.mid_price r.inventory (config_of r) r.volatility r.current_time k → Apart k
    go l (inl x) = checked_apart r.mid_price r.inventory (config_of r) r.volatility r.current_time l x
    go l (inr (inl x)) = omega (arith, x.0)
    go l (inr (inr x)) = priced_apart x.4

-- ---- what a line `R k` says
data Said (s : List ℕ) (at k next : ℕ) : Type 0 where
  long : k ≡ long_sheet → most_bytes < length s → next ≡ length s → Said s at k next
  stopped : Readable s at → Stopped (drop at s) k → next ≡ length s → Said s at k next
  skipped : k ≡ limits → Readable s at → Beyond s at next → Said s at k next
  quoted : Apart k → Said s at k next

-- a record that is read is within the limits
kept : (n : ℕ) (x : Read (List ℕ)) (r : Record) (next : ℕ) → record_from n x ≡ RecordAnswer.Record r next → record_ok r ≡ true
unfolding record_from record_if
kept n (refused k) r next e = let z : ◌≡◌ {A = ℕ} 0 1 = cc in absurd (omega arith)
kept n (taken v q) r next e = go (record_ok (record_of v)) refl e
  where
    go : (t : Bool) → record_ok (record_of v) ≡ t → record_if t (record_of v) (n - length q) ≡ RecordAnswer.Record r next → record_ok r ≡ true
    go true h d = let z : record_of v ≡ r = cc in ap record_ok (sym z) ∙ h
    go false h d = let z : ◌≡◌ {A = ℕ} 0 1 = cc in absurd (omega arith)

module _ (s : List ℕ) (at k next : ℕ) where
  read_said : Readable s at → (a : RecordAnswer) → read_record s at ≡ a → step_of line_text (length s) a ≡ line (refusal_line k) next → Said s at k next
  unfolding step_of step_by read_record
  read_said h (RecordAnswer.Record r m) d e =
      let t : record_line r ≡ refusal_line k = cc in
      quoted (quotes_apart r k (kept (length s) (numbers fields (drop at s)) r m d) t)
  read_said h (RecordAnswer.Skipped j m) d e =
      let t : refusal_line j.0 ≡ refusal_line k = cc in
      let n : m ≡ next = cc in
      let p = (record_skips s at j.0 m).0 d in
      skipped (sym (same_number j.0 k t) ∙ p.0) h (subst (Beyond s at) n p.1)
  read_said h (RecordAnswer.Refused j) d e =
      let t : refusal_line j.0 ≡ refusal_line k = cc in
      let n : next ≡ length s = cc in
      stopped h (subst (Stopped (drop at s)) (same_number j.0 k t) ((record_refusals s at j.0).0 d)) n

  said : line_at s at ≡ line (refusal_line k) next → Said s at k next
  said e = go (leb (length s) most_bytes) (leb-true (length s) most_bytes) (leb-false (length s) most_bytes) (line_before s at (refusal_line k) next e)
    where
      go : (m : Bool) → (m ≡ true → length s ≤ most_bytes) → (m ≡ false → most_bytes < length s) → at < length s → Said s at k next
      go true f g h = read_said (h, f refl) (read_record s at) refl (sym (line_read s at h (f refl)) ∙ e)
      go false f g h =
          let d = line_long s at h (g refl) in
          let t : refusal_line long_sheet ≡ refusal_line k = cc in
          let n : next ≡ length s = cc in
          long (sym (same_number long_sheet k t)) (g refl) n

long_line : LongLine
long_line s at next = (λ e. go (line_before s at _ next e) (said s at long_sheet next e), λ h. line_long s at h.0 h.1 ∙ ap (line (refusal_line long_sheet)) (sym h.2))
  where
    go : at < length s → Said s at long_sheet next → (at < length s) × (most_bytes < length s) × (next ≡ length s)
    go h (long e m n) = (h, m, n)
    go h (stopped r x n) = absurd (⊎_elim (λ z. omega arith) (λ z. omega arith) (stopped_number x))
    go h (skipped e r x) = absurd (omega arith)
    go h (quoted x) = absurd (x.3 refl)

stopped_line : (k : ℕ) → (k ≡ cut_short) ⊎ (k ≡ malformed) → StoppedLine k
unfolding step_of
stopped_line k w s at next =
    (λ e. go (said s at k next e), λ h. line_read s at h.0.0 h.0.1 ∙ ap (step_of line_text (length s)) ((record_refusals s at k).1 h.1) ∙ ap (line (refusal_line k)) (sym h.2))
  where
    go : Said s at k next → Readable s at × Stopped (drop at s) k × (next ≡ length s)
    go (long e m n) = absurd (⊎_elim (λ z. omega arith) (λ z. omega arith) w)
    go (stopped r x n) = (r, x, n)
    go (skipped e r x) = absurd (⊎_elim (λ z. omega arith) (λ z. omega arith) w)
    go (quoted x) = absurd (⊎_elim x.1 x.2 w)

skipped_line : SkippedLine
unfolding step_of
skipped_line s at next =
    (λ e. go (said s at limits next e), λ h. line_read s at h.0.0 h.0.1 ∙ ap (step_of line_text (length s)) ((record_skips s at limits next).1 (refl, h.1)))
  where
    go : Said s at limits next → Readable s at × Beyond s at next
    go (long e m n) = absurd (omega arith)
    go (stopped r x n) = absurd (⊎_elim (λ z. omega arith) (λ z. omega arith) (stopped_number x))
    go (skipped e r x) = (r, x)
    go (quoted x) = absurd (x.0 refl)

pub line_refusals : LineRefusals
line_refusals = (long_line, stopped_line cut_short (inl refl), stopped_line malformed (inr refl), skipped_line)
