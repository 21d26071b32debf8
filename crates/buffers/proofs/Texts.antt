-- A text over the start of a buffer, and a text after it. Assumes nothing.
use mathlib.Core.Path.{◌≡◌, refl, sym, ap, ◌∙◌}
use Prim.Native.Nat.{ℕ, suc, ◌+◌, ◌-◌, ◌<◌, ◌≤◌}
use native.Mathlib.Nat.{le_of_eq}
use native.Mathlib.Numerals.{add-one}
use native.Mathlib.Omega.{arith}
use mathlib.Core.List.{List, [], ◌∷◌, ◌++◌, append_assoc, append-nil}
use lib.ListN.{length, get_or, drop, set, length-append, length-drop, drop_of_length-le}
use lib.Seq.{take_all, drop-cons, drop-drop, take_at, drop_at, set_at, append_snoc}
use borrow.Rule.Slice.PartMut.{mid_of, put_mid}
use Rattle.buffers.specs.Over.{over}

pub length_over : (t l : List ℕ) → length t ≤ length l → length (over t l) ≡ length l
unfolding over
length_over t l h = simp (length-append, length-drop) (omega arith)

-- ---- a buffer that came as l and has the text t at its start, up to a place
pub record Wrote (l t out : List ℕ) (at : ℕ) : Type 0 where
  pub is : out ≡ over t l
  pub up_to : at ≡ length t

pub wrote_length : (l t out : List ℕ) (at : ℕ) → Wrote l t out at → at ≤ length l → length out ≡ length l
wrote_length l t out at w h = ap length w.is ∙ length_over t l (rw w.up_to at h)

pub wrote_none : (l : List ℕ) → Wrote l [] l 0
unfolding over
wrote_none l = record { is = refl; up_to = refl }

-- a byte after the text
pub wrote_byte : (l t out : List ℕ) (at x : ℕ) → Wrote l t out at → at < length l → Wrote l (t ++ (x ∷ [])) (set out at x) (at + 1)
unfolding over
wrote_byte l t out at x w h = record { is = rw (w.is, w.up_to) (byte t (rw w.up_to at h)); up_to = rw w.up_to (sym (more t)) }
  where
    more : (t : List ℕ) → length (t ++ (x ∷ [])) ≡ length t + 1
    more t = length-append t (x ∷ [])

    byte : (t : List ℕ) → length t < length l → set (over t l) (length t) x ≡ over (t ++ (x ∷ [])) l
    byte t k =
        rw (more t, add-one (length t), drop-cons l (length t) 0 k)
        (set_at t (get_or l (length t) 0) (drop (suc (length t)) l) x (length t) refl ∙ sym (append_snoc t x (drop (suc (length t)) l)))

-- a text after the text: over the part of the buffer that starts where the last one ended
part_all : (out : List ℕ) (at : ℕ) → mid_of at (length out - at) out ≡ drop at out
part_all out at = take_all (length out - at) (drop at out) (le_of_eq (length-drop at out))

pub part_room : (l t out : List ℕ) (at n : ℕ) → Wrote l t out at → at + n ≤ length l → n ≤ length (mid_of at (length out - at) out)
part_room l t out at n w h = rw (part_all out at, length-drop at out, wrote_length l t out at w (omega arith)) (omega arith)

pub wrote_part : (l t u out part : List ℕ) (at n : ℕ) → Wrote l t out at → part ≡ over u (mid_of at (length out - at) out) → n ≡ length u
    → Wrote l (t ++ u) (put_mid at (length out - at) out part) (at + n)
unfolding over
wrote_part l t u out part at n w e k =
    record {
      is =
          rw (e, part_all out at, drop_of_length-le (drop at out) (le_of_eq (length-drop at out)), append-nil, w.is, w.up_to)
          (rw (take_at t (drop (length t) l) (length t) refl, drop_at t (drop (length t) l) (length t) refl, length-append t u, drop-drop (length u) (length t) l)
          (sym (append_assoc t u (drop (length t + length u) l))));
      up_to = rw (w.up_to, k) (sym (length-append t u));
    }

pub lent_length : (l t u out part : List ℕ) (at n : ℕ) → Wrote l t out at → part ≡ over u (mid_of at (length out - at) out) → n ≡ length u → at + n ≤ length l
    → length (put_mid at (length out - at) out part) ≡ length l
lent_length l t u out part at n w e k h = wrote_length l (t ++ u) _ (at + n) (wrote_part l t u out part at n w e k) h

pub wrote_as : (l t u out : List ℕ) (at : ℕ) → Wrote l t out at → t ≡ u → (out ≡ over u l) × (at ≡ length u)
wrote_as l t u out at w e = (w.is ∙ ap (λ (v : List ℕ). over v l) e, w.up_to ∙ ap length e)
