-- The promises of a ladder: its lines are those of single calls, opposite lines mirror each other, one run, and what refuses it. Assumes nothing.
use Rattle.std.specs.Prelude.{Result, Ok, Err}
use mathlib.Core.Path.{◌≡◌, refl, sym, ap, ◌∙◌, subst}
use mathlib.Core.Logic.{◌⊎◌, inl, inr}
use Prim.Native.Nat.{ℕ, zero, suc, ◌+◌, ◌-◌, ◌*◌, ◌<◌, ◌≤◌}
use native.Mathlib.Nat.{le_trans, sub_self}
use native.Mathlib.Omega.{arith}
use mathlib.Core.Bool.{Bool, true, false}
use mathlib.Core.List.{List}
use borrow.Author.Tests.{leb-true, leb-false, lt-leb, lt-ltb, le-ltb, ltb-true, ltb-false}
use lib.IntN.{ℤ, pos, negsuc, neg_ℤ, sub_ℕ, ◌-ℤ◌}
use lib.ListN.{length}
use lib.Dec.{leb, ltb}
use Rattle.model.specs.Configuration.{turned}
use Rattle.model.specs.Model.{check_call}
use Rattle.lots.specs.Reckoning.{reckoning, holding_of}
use Rattle.model.specs.declared.GLFTConfig.{GLFTConfig}
use Rattle.lots.proofs.Lots.{lots_are_single}
use Rattle.lots.proofs.OneRun.{check_turned, lots_mirror, one_run, check_refusals}
use Rattle.ladders.specs.Refusals.{small_ladder_buffer}
use Rattle.lines.specs.Lines.{answer_line, text_left}
use Rattle.ladders.specs.Ladder.{lot_at, ladder_line, ladder, ladder_room, ladder_if, ladder_for, ladder_answer, LadderIsSingle, LinesFace, LadderMirror, LadderOwnMirror, LadderMirrorRefusals, LadderOneRun, LadderFits, LaddersBounded, Unrefused, LadderRefusals}
use Rattle.ladders.proofs.Rungs.{lot_within, bound_checked, ladder_most}
use Rattle.elementary.specs.declared.Refusal.{Refusal}
use Rattle.elementary.specs.Checks.{by}
use Rattle.elementary.proofs.Checks.{same_err}

-- ---- single calls
pub ladder_is_single : LadderIsSingle
unfolding ladder_line
ladder_is_single mid c vol t e i h = ap answer_line (lots_are_single mid c vol t (lot_at c i) e (lot_within c i h))

-- ---- opposite lines
negated : (m : ℕ) → neg_ℤ (pos (suc m)) ≡ negsuc m
negated m = refl

-- below the middle, in it, and above it
below : (i j b : ℕ) → i + j ≡ 2 * b → i < b → sub_ℕ j b ≡ neg_ℤ (sub_ℕ i b)
below i j b e h = rw (lt-ltb i b h, le-ltb j b (omega arith)) (ap pos (omega arith))

middle : (b : ℕ) → sub_ℕ b b ≡ neg_ℤ (sub_ℕ b b)
middle b = rw (le-ltb b b (omega arith), sub_self b)

above : (i j b : ℕ) → i + j ≡ 2 * b → b < i → sub_ℕ j b ≡ neg_ℤ (sub_ℕ i b)
above i j b e h =
    let k : i - b ≡ suc (b - suc j) = omega arith in
    rw (lt-ltb j b (omega arith), le-ltb i b (omega arith), k) (sym (negated (b - suc j)))

sub_opposite : (i j b : ℕ) → i + j ≡ 2 * b → sub_ℕ j b ≡ neg_ℤ (sub_ℕ i b)
sub_opposite i j b e = go (ltb i b) (ltb b i) (ltb-true i b) (ltb-false i b) (ltb-true b i) (ltb-false b i)
  where
    go : (x y : Bool) → (x ≡ true → i < b) → (x ≡ false → b ≤ i) → (y ≡ true → b < i) → (y ≡ false → i ≤ b) → sub_ℕ j b ≡ neg_ℤ (sub_ℕ i b)
    go true y f g h k = below i j b e (f refl)
    go false true f g h k = above i j b e (h refl)
    go false false f g h k =
        let p : i ≡ b = omega (arith, g refl, k refl) in
        let q : j ≡ b = omega (arith, g refl, k refl) in
        rw (p, q) (middle b)

opposite : (i j b : ℕ) → i + j ≡ 2 * b → pos j -ℤ pos b ≡ neg_ℤ (pos i -ℤ pos b)
opposite i j zero e =
    let p : i ≡ 0 = omega arith in
    let q : j ≡ 0 = omega arith in
    rw (p, q)
opposite i j (suc b) e = sub_opposite i j (suc b) e

lot_opposite : (c : GLFTConfig) (i j : ℕ) → i + j ≡ 2 * c.max_inventory_lots → lot_at (turned c) j ≡ neg_ℤ (lot_at c i)
unfolding lot_at
lot_opposite c i j e = opposite i j c.max_inventory_lots e

pub ladder_mirror : LadderMirror
unfolding holding_of
ladder_mirror mid c vol t e i j k =
    let m = lots_mirror mid c vol t (lot_at c i) e (lot_within c i (omega arith)) in
    (refl, rw (lot_opposite c i j k) m.0, rw (lot_opposite c i j k) m.1)

-- no drift, turned, is no drift
turned_none : (c : GLFTConfig) → c.drift ≡ pos 0 → turned c ≡ c
turned_none c e =
    ap
    (λ (d : ℤ).
    record {
      risk_aversion = c.risk_aversion;
      order_intensity_k = c.order_intensity_k;
      intensity_scale_a = c.intensity_scale_a;
      max_inventory_lots = c.max_inventory_lots;
      lot_size = c.lot_size;
      terminal_time = c.terminal_time;
      min_spread = c.min_spread;
      drift = d;
    })
    (ap neg_ℤ e ∙ sym e)

pub ladder_own_mirror : LadderOwnMirror
ladder_own_mirror mid c vol t z e i j k = subst (λ (d : GLFTConfig). LinesFace mid c d vol t i j) (turned_none c z) (ladder_mirror mid c vol t e i j k)

-- the checks and the room are the same for both
refused_too : (k : Result Unit Refusal) (m : Bool) (t u : List ℕ) (n : ℕ) → ladder_answer (ladder_if k m t) ≡ Err (by n) → ladder_answer (ladder_if k m u) ≡ Err (by n)
unfolding ladder_answer ladder_if
refused_too (Ok tt) true t u n e = let z : ◌≡◌ {A = ℕ} 0 1 = cc in absurd (omega arith)
refused_too (Ok tt) false t u n e = e
refused_too (Err r) m t u n e = e

pub ladder_mirror_refusals : LadderMirrorRefusals
unfolding ladder_for
ladder_mirror_refusals mid c vol t b n = rw (check_turned mid c vol t) (refused_too _ _ _ _ n, refused_too _ _ _ _ n)

-- ---- one run
pub ladder_one_run : LadderOneRun
ladder_one_run mid c vol t i j n m h g = one_run mid c (reckoning c vol t) (lot_at c i) (lot_at c j) n m h g

-- ---- the room
-- what was written passed the checks and had the room
was_written : (k : Result Unit Refusal) (m : Bool) (t : List ℕ) (n : ℕ) → ladder_answer (ladder_if k m t) ≡ Ok n → (k ≡ (Ok tt)) × (m ≡ true) × (n ≡ length t)
unfolding ladder_answer ladder_if
was_written (Ok tt) true t n e = (refl, refl, cc)
was_written (Ok tt) false t n e = let z : ◌≡◌ {A = ℕ} 0 1 = cc in absurd (omega arith)
was_written (Err r) m t n e = let z : ◌≡◌ {A = ℕ} 0 1 = cc in absurd (omega arith)

pub ladder_fits : LadderFits
unfolding ladder_for
ladder_fits mid c vol t b n e =
    let w = was_written (check_call mid c vol t) (leb (ladder_room c) (length b)) (ladder mid c vol t) n e in
    rw w.2 (le_trans (ladder_most mid c vol t w.0) (leb-true (ladder_room c) (length b) w.1))

pub ladders_bounded : LaddersBounded
ladders_bounded mid c vol t e = omega (arith, bound_checked mid c vol t e)

-- ---- refusals
was_refused : (k : Result Unit Refusal) (m : Bool) (t b : List ℕ) (n : ℕ) → ladder_answer (ladder_if k m t) ≡ Err (by n)
    → ((k ≡ Err (by n)) ⊎ ((n ≡ small_ladder_buffer) × (k ≡ (Ok tt)) × (m ≡ false))) × (text_left (ladder_if k m t) b ≡ b)
unfolding ladder_answer ladder_if text_left
was_refused (Ok tt) true t b n e = let z : ◌≡◌ {A = ℕ} 0 1 = cc in absurd (omega arith)
was_refused (Ok tt) false t b n e = (inr (sym (same_err e), refl, refl), refl)
was_refused (Err r) m t b n e = let z : r ≡ by n = cc in (inl (ap Err z), refl)

module _ (mid : ℤ) (c : GLFTConfig) (vol : ℤ) (t : ℕ) where
  no_check : (k : Result Unit Refusal) → check_call mid c vol t ≡ k → Unrefused mid c vol t → k ≡ (Ok tt)
  no_check (Ok tt) e u = refl
  no_check (Err r) e u = let x = (check_refusals mid c vol t r.0).0 e in absurd (u r.0 x.0 x.1)

  passes_all : check_call mid c vol t ≡ (Ok tt) → Unrefused mid c vol t
  passes_all e n y x = let r = (check_refusals mid c vol t n).1 (y, x) in let z : ◌≡◌ {A = ℕ} 0 1 = cc in omega arith

pub ladder_refusals : LadderRefusals
unfolding ladder_for ladder_if ladder_answer
ladder_refusals mid c vol t b n = (
  (
    λ e.
        elim (was_refused (check_call mid c vol t) (leb (ladder_room c) (length b)) (ladder mid c vol t) b n e).0 [
          | inl k ↦ inl ((check_refusals mid c vol t n).0 k)
          | inr k ↦ inr (k.0, passes_all mid c vol t k.1, leb-false (ladder_room c) (length b) k.2)
        ],
    λ x.
        elim x [
          | inl k ↦ ap (λ (x : Result Unit Refusal). ladder_answer (ladder_if x (leb (ladder_room c) (length b)) (ladder mid c vol t))) ((check_refusals mid c vol t n).1 k)
          | inr k ↦ rw (no_check mid c vol t (check_call mid c vol t) refl k.1, lt-leb (ladder_room c) (length b) k.2, k.0)
        ],
  ),
  λ e. (was_refused (check_call mid c vol t) (leb (ladder_room c) (length b)) (ladder mid c vol t) b n e).1,
)
