-- Filling a buffer text by text: the definition's turns, and a fill of which some texts are in. Assumes nothing.
use Rattle.std.specs.Prelude.{Ok, Err, Some, Result, Option}
use mathlib.Core.Path.{◌≡◌, refl, sym, ap, ◌∙◌}
use Prim.Native.Nat.{ℕ, zero, suc, ◌+◌, ◌-◌, ◌<◌, ◌≤◌}
use native.Mathlib.Nat.{le_refl, le_trans, sub-zero}
use native.Mathlib.Omega.{arith}
use mathlib.Core.Bool.{Bool, true, false}
use mathlib.Core.List.{List, [], ◌++◌, append_assoc, append-nil}
use lib.ListN.{length}
use lib.Dec.{leb}
use borrow.Author.Tests.{le-leb, lt-leb}
use borrow.Rule.Slice.PartMut.{mid_of, put_mid, mid_len, put_same}
use Rattle.buffers.specs.Over.{over}
use Rattle.buffers.proofs.Texts.{Wrote, wrote_none, wrote_length, wrote_part}
use Rattle.lines.specs.Refusals.{small_buffer}
use Rattle.lines.specs.Lines.{least_room, has_room}
use Rattle.ladders.specs.Refusals.{small_ladder_buffer}
use Rattle.sheet.specs.Sheet.{Step, line, end, answered, left, refuse}
use Rattle.sheet.specs.Kinds.{room_of, text_at}
use Rattle.sheet.specs.Inner.{text_in}
use Rattle.sheet.specs.Fill.{Fill, up_to, after, fill_by, fill, filled_if, left_if, filled_as, left_as}
use Rattle.sheet.specs.declared.text.Kind.{Kind}
use Rattle.sheet.proofs.Texts.{with_room, room_least, text_end, text_before, text_written, texts_fit, texts_move}
use Rattle.elementary.specs.Checks.{by}
use Rattle.elementary.specs.declared.Refusal.{Refusal}

-- ---- the turns: more than enough change nothing
done : (j : ℕ) (m : Bool) (x : Step) (k : Kind) (s : List ℕ) (at room : ℕ) → x ≡ end → fill_by j m x k s at room ≡ up_to [] at
unfolding fill_by
done zero m x k s at room e = refl
done (suc j) false x k s at room e = refl
done (suc j) true x k s at room e = rw e

enough : (i j : ℕ) (k : Kind) (s : List ℕ) (at room : ℕ) → length s ≤ i + at → length s ≤ j + at
    → fill_by i (leb (room_of k) room) (text_at k s at) k s at room ≡ fill_by j (leb (room_of k) room) (text_at k s at) k s at room
unfolding fill_by
enough zero j k s at room h g = sym (done j (leb (room_of k) room) (text_at k s at) k s at room (text_end k s at (omega arith)))
enough (suc i) zero k s at room h g = done (suc i) (leb (room_of k) room) (text_at k s at) k s at room (text_end k s at (omega arith))
enough (suc i) (suc j) k s at room h g = go (leb (room_of k) room) (text_at k s at) refl (λ next rest m. enough i j k s next rest (omega arith) (omega arith))
  where
    go : (b : Bool) (x : Step) → text_at k s at ≡ x
        → ((next rest : ℕ) → at < next → fill_by i (leb (room_of k) rest) (text_at k s next) k s next rest ≡ fill_by j (leb (room_of k) rest) (text_at k s next) k s next rest)
        → fill_by (suc i) b x k s at room ≡ fill_by (suc j) b x k s at room
    go false x e f = refl
    go true end e f = refl
    go true (refuse n) e f = refl
    go true (line t next) e f = ap (after t) (f next (room - length t) (texts_move k s at t next e).0)

-- ---- a fill by its first step
module _ (k : Kind) (s : List ℕ) (at room : ℕ) where
  pub fill_full : room < room_of k → fill k s at room ≡ up_to [] at
  unfolding fill fill_by
  fill_full h = rw (lt-leb (room_of k) room h) (full (length s))
    where
      full : (j : ℕ) → fill_by j false (text_at k s at) k s at room ≡ up_to [] at
      full zero = refl
      full (suc j) = refl

  pub fill_end : text_at k s at ≡ end → fill k s at room ≡ up_to [] at
  unfolding fill
  fill_end e = done (length s) (leb (room_of k) room) (text_at k s at) k s at room e

  pub fill_text : (t : List ℕ) (next : ℕ) → room_of k ≤ room → text_at k s at ≡ line t next → fill k s at room ≡ after t (fill k s next (room - length t))
  unfolding fill fill_by
  fill_text t next h e =
      rw (le-leb (room_of k) room h, e)
      (go (length s) (text_before k s at t next e) (λ j g. enough j (length s) k s next (room - length t) (omega (arith, (texts_move k s at t next e).0)) (omega arith)))
    where
      go : (i : ℕ) → at < i → ((j : ℕ) → i ≡ suc j → fill_by j (leb (room_of k) (room - length t)) (text_at k s next) k s next (room - length t) ≡ fill k s next (room - length t))
          → fill_by i true (line t next) k s at room ≡ after t (fill k s next (room - length t))
      go zero p f = absurd (omega arith)
      go (suc j) p f = ap (after t) (f j refl)

after_none : (f : Fill) → after [] f ≡ f
unfolding after
after_none (up_to u next) = refl

after_after : (t u : List ℕ) (f : Fill) → after t (after u f) ≡ after (t ++ u) f
unfolding after
after_after t u (up_to v next) = ap (λ (w : List ℕ). up_to w next) (sym (append_assoc t u v))

-- ---- a fill from a place on into a buffer that came as l: n bytes of texts are in, and the next text is at a place
pub record Filling (k : Kind) (s : List ℕ) (at : ℕ) (l out : List ℕ) (n next : ℕ) : Type 0 where
  pub text : List ℕ
  pub wrote : Wrote l text out n
  pub room : n ≤ length l
  pub so_far : fill k s at (length l) ≡ after text (fill k s next (length l - n))

pub filling_none : (k : Kind) (s : List ℕ) (at : ℕ) (l : List ℕ) → Filling k s at l l 0 at
filling_none k s at l = record { text = []; wrote = wrote_none l; room = omega arith; so_far = rw (sub-zero (length l), after_none (fill k s at (length l))) }

-- what `next_text` wrote into the part that was lent
text_in_lem : (b : Bool) (x : Step) (j next : ℕ) (part back : List ℕ) → Ok (Some (j, next)) ≡ answered b x → back ≡ left b x part
    → (t : List ℕ) × (x ≡ line t next) × (j ≡ length t) × (back ≡ over t part)
unfolding answered left
text_in_lem false x j next part back e o = let z : ◌≡◌ {A = ℕ} 0 1 = cc in absurd (omega arith)
text_in_lem true (line t m) j next part back e o =
    let p : ◌≡◌ {A = ℕ × ℕ} (j, next) (length t, m) = cc in
    (t, ap (λ (z : ℕ × ℕ). line t z.1) (sym p), ap (λ (z : ℕ × ℕ). z.0) p, o)
text_in_lem true end j next part back e o = let z : ◌≡◌ {A = ℕ} 0 1 = cc in absurd (omega arith)
text_in_lem true (refuse n) j next part back e o = let z : ◌≡◌ {A = ℕ} 0 1 = cc in absurd (omega arith)

-- the answer is no refusal where no step is refused
never_refused : (x : Step) (r : Refusal) → ((n : ℕ) → x ≡ refuse n → ⊥) → Err r ≡ answered true x → ⊥
unfolding answered
never_refused end r g e = let z : ◌≡◌ {A = ℕ} 0 1 = cc in omega arith
never_refused (refuse n) r g e = g n refl
never_refused (line t next) r g e = let z : ◌≡◌ {A = ℕ} 0 1 = cc in omega arith

-- the answer is no text: where no step is refused, the sheet is at its end
none_left : (x : Step) (r : Result (Option (ℕ × ℕ)) Refusal) → ((n : ℕ) → x ≡ refuse n → ⊥) → ((j m : ℕ) → r ≡ Ok (Some (j, m)) → ⊥) → r ≡ answered true x → x ≡ end
unfolding answered
none_left end r g o e = refl
none_left (refuse n) r g o e = absurd (g n refl)
none_left (line t next) r g o e = absurd (o _ _ e)

module _ (k : Kind) (s : List ℕ) (at : ℕ) (l out : List ℕ) (n next : ℕ) (f : Filling k s at l out n next) where
  -- the part that is lent
  abbrev part : List ℕ
  part = mid_of n (length out - n) out

  pub filling_length : length out ≡ length l
  filling_length = wrote_length l f.text out n f.wrote f.room

  -- it has the room, so the text in it is the one at the place
  part_is : room_of k ≤ length out - n → text_in k (length part) s next ≡ text_at k s next
  part_is h = with_room k (length part) s next (rw (mid_len n (length out) out (le_refl (length out))) h)

  -- a text more
  pub text_added : (b : Bool) (j place : ℕ) (back : List ℕ) → room_of k ≤ length out - n → Ok (Some (j, place)) ≡ answered b (text_in k (length part) s next)
      → back ≡ left b (text_in k (length part) s next) part
      → (n + j ≤ length l) × (next < place) × (place ≤ length s) × Filling k s at l (put_mid n (length out - n) out back) (n + j) place
  text_added b j place back h e o =
      let w = text_in_lem b (text_in k (length part) s next) j place part back e o in
      let t = w.0 in
      let x = sym (part_is h) ∙ w.1 in
      let m = texts_move k s next t place x in
      let fits : n + j ≤ length l = omega (arith, filling_length, w.2, texts_fit k s next t place x) in
      let r : length l - n - length t ≡ length l - (n + j) = omega (arith, w.2) in (
        fits,
        m.0,
        m.1,
        record {
          text = f.text ++ t;
          wrote = wrote_part l f.text t out back n j f.wrote w.3 w.2;
          room = fits;
          so_far = f.so_far ∙ rw (fill_text k s next (length l - n) t place (omega (arith, filling_length)) x, r) (after_after f.text t (fill k s place (length l - (n + j))));
        },
      )

  -- nothing more: no room, or no text
  filling_done : least_room ≤ length l → room_of k ≤ length l → fill k s next (length l - n) ≡ up_to [] next → (Ok (n, next) ≡ filled_as k s at l) × (out ≡ left_as k s at l)
  unfolding filled_if left_if after
  filling_done h g e =
      rw (le-leb least_room (length l) h, le-leb (room_of k) (length l) g, f.so_far, e, append-nil f.text) (ap (λ (j : ℕ). Ok (j, next)) f.wrote.up_to, f.wrote.is)

  pub filling_full : least_room ≤ length l → room_of k ≤ length l → length out - n < room_of k → (Ok (n, next) ≡ filled_as k s at l) × (out ≡ left_as k s at l)
  filling_full h g m = filling_done h g (fill_full k s next (length l - n) (omega (arith, filling_length)))

  -- the part has the room, so the answer is no refusal
  pub filling_goes_on : (r : Refusal) → room_of k ≤ length out - n → Err r ≡ answered (has_room part) (text_in k (length part) s next) → ⊥
  filling_goes_on r m e =
      let x = part_is m in
      let b : has_room part ≡ true = le-leb least_room (length part) (rw (mid_len n (length out) out (le_refl (length out))) (le_trans (room_least k) m)) in
      never_refused (text_at k s next) r (text_written k s next) (e ∙ rw (b, x))

  -- the answer is no text, so the sheet is at its end
  pub filling_end : (r : Result (Option (ℕ × ℕ)) Refusal) (back : List ℕ) → least_room ≤ length l → room_of k ≤ length l → room_of k ≤ length out - n → ((j m : ℕ) → r ≡ Ok (Some (j, m)) → ⊥)
      → r ≡ answered (has_room part) (text_in k (length part) s next) → back ≡ left (has_room part) (text_in k (length part) s next) part
      → (Ok (n, next) ≡ filled_as k s at l) × (put_mid n (length out - n) out back ≡ left_as k s at l)
  unfolding left
  filling_end r back h g m c e o =
      let x = part_is m in
      let b : has_room part ≡ true = le-leb least_room (length part) (rw (mid_len n (length out) out (le_refl (length out))) (le_trans (room_least k) m)) in
      let z = none_left (text_at k s next) r (text_written k s next) c (e ∙ rw (b, x)) in
      let p = filling_done h g (fill_end k s next (length l - n) z) in
      let q : back ≡ part = o ∙ rw (b, x, z) in
      (p.0, rw q (put_same n (length out - n) out) ∙ p.1)

-- ---- no room
module _ (k : Kind) (s : List ℕ) (at : ℕ) (l : List ℕ) where
  pub no_fill : length l < least_room → (Err (by small_buffer) ≡ filled_as k s at l) × (l ≡ left_as k s at l)
  unfolding filled_if left_if
  no_fill h = rw (lt-leb least_room (length l) h) (refl, refl)

  pub short_fill : least_room ≤ length l → length l < room_of k → (Err (by small_ladder_buffer) ≡ filled_as k s at l) × (l ≡ left_as k s at l)
  unfolding filled_if left_if
  short_fill h g = rw (le-leb least_room (length l) h, lt-leb (room_of k) (length l) g) (refl, refl)
