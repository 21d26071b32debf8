-- A text in a buffer: what it is to fit, and what a copy of the whole text leaves. Assumes nothing.
use mathlib.Core.Path.{◌≡◌, refl, sym, ap, ◌∙◌}
use Prim.Native.Nat.{ℕ, ◌+◌, ◌-◌, ◌<◌, ◌≤◌}
use native.Mathlib.Numerals.{add-one}
use native.Mathlib.Omega.{arith}
use mathlib.Core.Bool.{Bool, true, false}
use mathlib.Core.List.{List, ◌++◌}
use borrow.Author.Tests.{leb-true, leb-false, le-leb, lt-leb}
use lib.Dec.{leb}
use lib.ListN.{length, get_or, set, length-set, take, drop}
use borrow.Rule.Slice.PartMut.{put_mid}
use Rattle.std.proofs.lemmas.Slice.{put_mid-paste}
use lib.Seq.{paste, paste-zero, paste-suc, take-length}
use Rattle.harness.specs.Texts.{fits, placed_by, placed, after}

-- the test that does not add
pub fits_less : (l : List ℕ) (at n : ℕ) → n ≤ length l → leb at (length l - n) ≡ fits l at n
unfolding fits
fits_less l at n h = go (leb (at + n) (length l)) (leb-true (at + n) (length l)) (leb-false (at + n) (length l))
  where
    go : (t : Bool) → (t ≡ true → at + n ≤ length l) → (t ≡ false → length l < at + n) → leb at (length l - n) ≡ t
    go true f g = le-leb at (length l - n) (omega (arith, f refl))
    go false f g = lt-leb at (length l - n) (omega (arith, g refl))

pub fits_not : (l : List ℕ) (at n : ℕ) → length l < n → false ≡ fits l at n
unfolding fits
fits_not l at n h = sym (lt-leb (at + n) (length l) (omega arith))

-- what is left, and the next place, where the text does not fit
pub placed_none : (l : List ℕ) (at : ℕ) (t : List ℕ) → fits l at (length t) ≡ false → (l ≡ placed l at t) × (at ≡ after l at t)
unfolding placed placed_by after
placed_none l at t h = (rw h, rw h)

-- where it fits, its end is within the buffer
pub fits_within : (l : List ℕ) (at : ℕ) (t : List ℕ) → fits l at (length t) ≡ true → at + length t ≤ length l
unfolding fits
fits_within l at t h = leb-true _ _ h

-- what a write of the whole text over its place leaves, and the next place
pub placed_all : (l : List ℕ) (at : ℕ) (t ys : List ℕ) → fits l at (length t) ≡ true → ys ≡ t → (put_mid at (at + length t - at) l ys ≡ placed l at t) × (at + length t ≡ after l at t)
unfolding placed placed_by after
placed_all l at t ys h e = (rw h (put_mid-paste at _ l ys t (length t) e (omega arith) refl ∙ ap (λ s. take at l ++ s ++ drop (at + length t) l) (take-length t)), rw h)

-- ---- a buffer that came as l, with the first i bytes of a text that fits at a place
pub record Copied (l : List ℕ) (at : ℕ) (t out : List ℕ) (i : ℕ) : Type 0 where
  pub few : i ≤ length t
  pub room : at + length t ≤ length l
  pub size : length out ≡ length l
  pub is : out ≡ paste l at t i

pub copied_none : (l : List ℕ) (at : ℕ) (t : List ℕ) → fits l at (length t) ≡ true → Copied l at t l 0
unfolding fits
copied_none l at t h = record { few = omega arith; room = leb-true _ _ h; size = refl; is = paste-zero l at t }

pub copied_more : (l : List ℕ) (at : ℕ) (t out : List ℕ) (i : ℕ) → Copied l at t out i → i < length t → Copied l at t (set out (at + i) (get_or t i 0)) (i + 1)
copied_more l at t out i d h =
    record {
      few = omega arith;
      room = d.room;
      size = length-set out (at + i) (get_or t i 0) ∙ d.size;
      is = rw (d.is, paste-suc l at t i 0 (omega arith) h, add-one i);
    }

pub copied_all : (l : List ℕ) (at : ℕ) (t out : List ℕ) (i : ℕ) → Copied l at t out i → length t ≤ i → (out ≡ placed l at t) × (at + i ≡ after l at t)
unfolding fits placed placed_by after
copied_all l at t out i d h =
    let e : i ≡ length t = omega arith in
    let f = le-leb (at + length t) (length l) d.room in
    (d.is ∙ rw (e, f, take-length t), rw (f, e))
