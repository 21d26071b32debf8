-- The lines of a ladder in a buffer: lots within the bound, replies that can be written, and a ladder of which some lines are in. Assumes nothing.
use Rattle.std.specs.Prelude.{Ok, Err}
use mathlib.Core.Path.{◌≡◌, refl, ap}
use Prim.Native.Nat.{ℕ, zero, suc, ◌+◌, ◌-◌, ◌*◌, ◌<◌, ◌≤◌}
use native.Mathlib.Nat.{le_refl}
use native.Mathlib.Numerals.{add-one}
use native.Mathlib.Omega.{arith}
use mathlib.Core.Bool.{Bool, true, false, cond, and-eq-true_iff}
use mathlib.Core.List.{List}
use borrow.Author.Tests.{leb-true, le-leb, lt-leb}
use borrow.Rule.Slice.PartMut.{mid_of, put_mid}
use lib.IntN.{ℤ, pos, negsuc, nat_abs, ◌-ℤ◌}
use lib.ListN.{length, length-append}
use lib.Dec.{leb, ltb}
use Rattle.model.specs.Model.{check_call}
use Rattle.lots.specs.Reckoning.{reckoning, holding_of, quotes_of_lots}
use Rattle.quote.specs.Replies.{ReplyKept}
use Rattle.model.specs.declared.GLFTConfig.{GLFTConfig}
use Rattle.lots.specs.declared.Reckoning.{Reckoning}
use Rattle.model.proofs.Passed.{bound_passed}
use Rattle.quote.proofs.Replies.{replies_kept}
use Rattle.lots.proofs.Lots.{config_checked, lots_are_single}
use Rattle.buffers.specs.Over.{over}
use Rattle.lines.specs.Lines.{least_room, text_left}
use Rattle.ladders.specs.Ladder.{rungs, lot_at, ladder_line, ladder_lines, ladder, ladder_room, ladder_if, ladder_for, ladder_answer, laddered, laddered_in}
use Rattle.buffers.proofs.Texts.{Wrote, wrote_none, wrote_length, wrote_part}
use Rattle.lines.proofs.Widths.{reply_most}
use Rattle.elementary.specs.Checks.{by}
use Rattle.elementary.specs.declared.Refusal.{Refusal}

-- ---- the lots of a line are within the bound, which is at most 200
distance : (a b : ℕ) → a ≤ 2 * b → nat_abs (pos a -ℤ pos b) ≤ b
distance a zero h = omega arith
distance a (suc b) h = go (ltb a (suc b))
  where
    go : (t : Bool) → nat_abs (cond t (negsuc (suc b - suc a)) (pos (a - suc b))) ≤ suc b
    go true = omega arith
    go false = omega arith

pub lot_within : (c : GLFTConfig) (i : ℕ) → i < rungs c → nat_abs (lot_at c i) ≤ c.max_inventory_lots
unfolding lot_at
lot_within c i h = distance i c.max_inventory_lots (omega arith)

module _ (mid : ℤ) (c : GLFTConfig) (vol : ℤ) (t : ℕ) (e : check_call mid c vol t ≡ (Ok tt)) where
  pub bound_checked : c.max_inventory_lots ≤ 200
  bound_checked = let n = c.max_inventory_lots in leb-true n 200 ((and-eq-true_iff (leb 1 n) (leb n 200)).0 (bound_passed c (config_checked mid c vol t e))).1

  pub rung_kept : (i : ℕ) → i < rungs c → ReplyKept (quotes_of_lots mid c (reckoning c vol t) (lot_at c i))
  rung_kept i h = rw (lots_are_single mid c vol t (lot_at c i) e (lot_within c i h)) (replies_kept mid (holding_of c (lot_at c i)) c vol t)

-- ---- a ladder takes at most 64 bytes a line
module _ (mid : ℤ) (c : GLFTConfig) (vol : ℤ) (t : ℕ) (e : check_call mid c vol t ≡ (Ok tt)) where
  lines_most : (k : ℕ) → k ≤ rungs c → length (ladder_lines mid c (reckoning c vol t) k) ≤ least_room * k
  unfolding ladder_lines ladder_line
  lines_most zero h = omega arith
  lines_most (suc k) h =
      let r = reckoning c vol t in
      rw (length-append (ladder_lines mid c r k) (ladder_line mid c r k)) (omega (arith, lines_most k (omega arith), reply_most _ (rung_kept mid c vol t e k (omega arith))))

  pub ladder_most : length (ladder mid c vol t) ≤ ladder_room c
  unfolding ladder
  ladder_most = lines_most (rungs c) (le_refl (rungs c))

-- ---- a ladder in a buffer that came as l: i lines are in, up to a place
pub record Laying (mid : ℤ) (c : GLFTConfig) (r : Reckoning) (l out : List ℕ) (at i : ℕ) : Type 0 where
  pub wrote : Wrote l (ladder_lines mid c r i) out at
  pub room : at ≤ least_room * i
  pub few : i ≤ rungs c

pub laying_none : (mid : ℤ) (c : GLFTConfig) (r : Reckoning) (l : List ℕ) → Laying mid c r l l 0 0
unfolding ladder_lines
laying_none mid c r l = record { wrote = wrote_none l; room = omega arith; few = omega arith }

module _ (mid : ℤ) (c : GLFTConfig) (r : Reckoning) (l out : List ℕ) (at i : ℕ) (f : Laying mid c r l out at i) (h : ladder_room c ≤ length l) where
  pub laying_length : length out ≡ length l
  laying_length = wrote_length l (ladder_lines mid c r i) out at f.wrote (omega (arith, f.room, f.few))

  pub laying_room : i < rungs c → at + least_room ≤ length l
  laying_room k = omega (arith, f.room)

  -- a line more
  pub laying_more : (n : ℕ) (back : List ℕ) → i < rungs c → ReplyKept (quotes_of_lots mid c r (lot_at c i))
      → back ≡ over (ladder_line mid c r i) (mid_of at (length out - at) out) → n ≡ length (ladder_line mid c r i)
      → (n ≤ least_room) × Laying mid c r l (put_mid at (length out - at) out back) (at + n) (i + 1)
  unfolding ladder_lines ladder_line
  laying_more n back k kept o e =
      let most : n ≤ least_room = rw e (reply_most (quotes_of_lots mid c r (lot_at c i)) kept) in (
        most,
        record {
          wrote = rw (add-one i) (wrote_part l (ladder_lines mid c r i) (ladder_line mid c r i) out back at n f.wrote o e);
          room = omega (arith, f.room);
          few = omega arith;
        },
      )

-- ---- what `write_ladder` answers, and what it leaves in a buffer b
module _ (mid : ℤ) (c : GLFTConfig) (vol : ℤ) (t : ℕ) (b : List ℕ) where
  pub ladder_refused : (r : Refusal) → check_call mid c vol t ≡ Err r → (Err r ≡ laddered mid c vol t b) × (b ≡ laddered_in mid c vol t b)
  unfolding ladder_for ladder_if ladder_answer text_left
  ladder_refused r e = rw e (refl, refl)

  pub ladder_small : check_call mid c vol t ≡ (Ok tt) → length b < ladder_room c → (Err (by 21) ≡ laddered mid c vol t b) × (b ≡ laddered_in mid c vol t b)
  unfolding ladder_for ladder_if ladder_answer text_left
  ladder_small e h = rw (e, lt-leb (ladder_room c) (length b) h) (refl, refl)

  pub ladder_written : (out : List ℕ) (n : ℕ) → check_call mid c vol t ≡ (Ok tt) → ladder_room c ≤ length b → out ≡ over (ladder mid c vol t) b → n ≡ length (ladder mid c vol t)
      → (Ok n ≡ laddered mid c vol t b) × (out ≡ laddered_in mid c vol t b)
  unfolding ladder_for ladder_if ladder_answer text_left
  ladder_written out n e h o k = rw (e, le-leb (ladder_room c) (length b) h) (ap Ok k, o)
