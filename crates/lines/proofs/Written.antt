-- What a writer of a line answers, and what it leaves in a buffer. Assumes nothing.
use Rattle.std.specs.Prelude.{Ok, Err, Result}
use mathlib.Core.Path.{◌≡◌, refl, ap, sym}
use Prim.Native.Nat.{ℕ, ◌<◌, ◌≤◌}
use native.Mathlib.Omega.{arith}
use mathlib.Core.Bool.{Bool, true, false}
use mathlib.Core.List.{List}
use borrow.Author.Tests.{leb-false, le-leb, lt-leb}
use lib.ListN.{length}
use Rattle.buffers.specs.Over.{over}
use Rattle.lines.specs.Refusals.{small_buffer}
use Rattle.lines.specs.Lines.{least_room, has_room, text, line_if, line_for, wrote, text_left}
use Rattle.lines.specs.Promises.{WriterRefusals}
use Rattle.elementary.specs.Checks.{by}
use Rattle.elementary.proofs.Checks.{same_err}
use Rattle.elementary.specs.declared.Refusal.{Refusal}

module _ (t b : List ℕ) where
  pub line_refused : length b < least_room → (Err (by small_buffer) ≡ wrote (line_for t b)) × (b ≡ text_left (line_for t b) b)
  unfolding line_if wrote text_left
  line_refused h = rw (lt-leb least_room (length b) h) (refl, refl)

  pub line_written : (out : List ℕ) (n : ℕ) → least_room ≤ length b → out ≡ over t b → n ≡ length t → (Ok n ≡ wrote (line_for t b)) × (out ≡ text_left (line_for t b) b)
  unfolding line_if wrote text_left
  line_written out n h o k = rw (le-leb least_room (length b) h) (ap Ok k, o)

  -- with the room, the line is there
  pub line_is : least_room ≤ length b → line_for t b ≡ text t
  unfolding line_if
  line_is h = rw (le-leb least_room (length b) h)

  pub line_there : least_room ≤ length b → (wrote (line_for t b) ≡ Ok (length t)) × (text_left (line_for t b) b ≡ over t b)
  unfolding wrote text_left
  line_there h = rw (line_is h) (refl, refl)

-- ---- the length of what was written, and that it was written
pub same_written : {n m : ℕ} → ◌≡◌ {A = Result ℕ Refusal} (Ok n) (Ok m) → n ≡ m
same_written e = cc

pub never_refused : {r : Refusal} {m : ℕ} → ◌≡◌ {A = Result ℕ Refusal} (Err r) (Ok m) → ⊥
never_refused e = let z : ◌≡◌ {A = ℕ} 0 1 = cc in omega arith

-- ---- 8
if_refused : (m : Bool) (t : List ℕ) (k : ℕ) → wrote (line_if m t) ≡ Err (by k) → (k ≡ small_buffer) × (m ≡ false)
unfolding line_if wrote
if_refused false t k e = (sym (same_err e), refl)
if_refused true t k e = let z : ◌≡◌ {A = ℕ} 0 1 = cc in absurd (omega arith)

pub writer_refusals : WriterRefusals
unfolding line_if wrote text_left
writer_refusals t b k = (
  (
    λ e. let h = if_refused (has_room b) t k e in (h.0, leb-false least_room (length b) h.1),
    λ h. rw (lt-leb least_room (length b) h.1, h.0),
  ),
  λ e. rw (if_refused (has_room b) t k e).1,
)
