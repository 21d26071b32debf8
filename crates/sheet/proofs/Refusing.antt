-- Each refusal of this layer is the reply in just the situation that the paper names. Assumes nothing.
use Rattle.std.specs.Prelude.{Err}
use mathlib.Core.Path.{◌≡◌, refl, sym}
use mathlib.Core.Logic.{◌⊎◌, inl, inr, ⊎_elim, ◌↔◌}
use Prim.Native.Nat.{ℕ, ◌<◌}
use native.Mathlib.Omega.{arith}
use mathlib.Core.Bool.{Bool, true, false}
use mathlib.Core.List.{List}
use borrow.Author.Tests.{leb-true, leb-false, le-leb, lt-leb}
use lib.ListN.{length}
use lib.Dec.{leb}
use Rattle.lines.specs.Refusals.{small_buffer}
use Rattle.lines.specs.Lines.{least_room, has_room}
use Rattle.ladders.specs.Refusals.{small_ladder_buffer}
use Rattle.sheet.proofs.Texts.{line_written}
use Rattle.sheet.specs.Sheet.{Step, line, end, line_at, answered, refuse}
use Rattle.sheet.specs.Kinds.{room_of}
use Rattle.sheet.specs.Fill.{Fill, up_to, fill, filled_if, left_if}
use Rattle.sheet.specs.Refusing.{BufferRefusals, FillRefusals}
use Rattle.sheet.specs.declared.text.Kind.TheVariants as Kind
use Rattle.elementary.specs.Checks.{by}
use Rattle.elementary.proofs.Checks.{same_number, same_err}

-- ---- 8
line_refused : (m : Bool) (x : Step) (k : ℕ) → ((n : ℕ) → x ≡ refuse n → ⊥) → answered m x ≡ Err (by k) → (k ≡ small_buffer) × (m ≡ false)
unfolding answered
line_refused false x k g e = (same_number (let z : by k ≡ by small_buffer = cc in z), refl)
line_refused true (line t next) k g e = let z : ◌≡◌ {A = ℕ} 0 1 = cc in absurd (omega arith)
line_refused true end k g e = let z : ◌≡◌ {A = ℕ} 0 1 = cc in absurd (omega arith)
line_refused true (refuse n) k g e = absurd (g n refl)

-- whatever stands at the place, where no step is refused
pub step_refusals : (x : Step) (b : List ℕ) (k : ℕ) → ((n : ℕ) → x ≡ refuse n → ⊥) → (answered (has_room b) x ≡ Err (by k)) ↔ ((k ≡ small_buffer) × (length b < least_room))
unfolding answered
step_refusals x b k g = (
  λ e. let h = line_refused (has_room b) x k g e in (h.0, leb-false least_room (length b) h.1),
  λ h. rw (lt-leb least_room (length b) h.1, h.0),
)

-- ---- of whole texts: 8, then 21
fill_refused : (l m : Bool) (f : Fill) (n : ℕ) → filled_if l m f ≡ Err (by n) → ((n ≡ small_buffer) × (l ≡ false)) ⊎ ((n ≡ small_ladder_buffer) × (l ≡ true) × (m ≡ false))
unfolding filled_if
fill_refused false m f n e = inl (sym (same_err e), refl)
fill_refused true false f n e = inr (sym (same_err e), refl, refl)
fill_refused true true (up_to t next) n e = let z : ◌≡◌ {A = ℕ} 0 1 = cc in absurd (omega arith)

fill_left : (l m : Bool) (f : Fill) (n : ℕ) (b : List ℕ) → filled_if l m f ≡ Err (by n) → left_if l m f b ≡ b
unfolding filled_if left_if
fill_left false m f n b e = refl
fill_left true false f n b e = refl
fill_left true true (up_to t next) n b e = let z : ◌≡◌ {A = ℕ} 0 1 = cc in absurd (omega arith)

pub fill_refusals : FillRefusals
unfolding filled_if
fill_refusals k s at b n = (
  (
    λ e.
        elim (fill_refused (has_room b) (leb (room_of k) (length b)) (fill k s at (length b)) n e) [
          | inl h ↦ inl (h.0, leb-false least_room (length b) h.1)
          | inr h ↦ inr (h.0, leb-true least_room (length b) h.1, leb-false (room_of k) (length b) h.2)
        ],
    λ x.
        elim x [
          | inl h ↦ rw (lt-leb least_room (length b) h.1, h.0)
          | inr h ↦ rw (le-leb least_room (length b) h.1, lt-leb (room_of k) (length b) h.2, h.0)
        ],
  ),
  λ e. fill_left (has_room b) (leb (room_of k) (length b)) (fill k s at (length b)) n b e,
)

pub buffer_refusals : BufferRefusals
buffer_refusals s at b k =
    let f = (fill_refusals Kind.Line s at b k).0 in
    (step_refusals (line_at s at) b k (line_written s at), (λ e. ⊎_elim (λ h. h) (λ h. absurd (omega (arith, h.1, h.2))) (f.0 e), λ h. f.1 (inl h)))
