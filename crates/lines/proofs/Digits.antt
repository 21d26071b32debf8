-- Digits: how many a count has, and a loop that writes them from the last to the first. Assumes nothing.
use mathlib.Core.Path.{◌≡◌, refl, sym, ap, ◌∙◌}
use Prim.Native.Nat.{ℕ, zero, suc, ◌+◌, ◌-◌, ◌*◌, ◌/◌, ◌%◌, ◌^◌, ◌<◌, ◌≤◌}
use native.Mathlib.Nat.{le_refl, le_of_eq, pow-suc}
use native.Mathlib.Omega.{arith}
use mathlib.Core.Bool.{Bool, true, false}
use mathlib.Core.List.{List, [], ◌∷◌, ◌++◌}
use borrow.Author.Tests.{ltb-true, ltb-false, lt-ltb, le-ltb}
use lib.ListN.{length, get_or, take, drop, set, length-append, length-set, take-append-drop, get_or-append}
use lib.Seq.{take_all, take-take, take-suc, drop-cons, set_at, take_at, drop_at, get_or_at, get_or-take, append_snoc, length-take-le}
use lib.Dec.{ltb}
use Rattle.buffers.proofs.Texts.{length_over}
use Rattle.lines.specs.Lines.{glyph, digits, places_by, places, count}
use Rattle.buffers.specs.Over.{over}

-- ---- how many decimal digits: more turns than enough change nothing
enough : (j k n : ℕ) → n ≤ j → n ≤ k → places_by j (ltb n 10) n ≡ places_by k (ltb n 10) n
unfolding places_by
enough zero zero n h g = refl
enough zero (suc k) n h g = rw (lt-ltb n 10 (omega arith))
enough (suc j) zero n h g = rw (lt-ltb n 10 (omega arith))
enough (suc j) (suc k) n h g = go (ltb n 10) (ltb-false n 10) (λ m. enough j k (n / 10) (omega arith) (omega arith))
  where
    go : (t : Bool) → (t ≡ false → 10 ≤ n) → (10 ≤ n → places_by j (ltb (n / 10) 10) (n / 10) ≡ places_by k (ltb (n / 10) 10) (n / 10)) → places_by (suc j) t n ≡ places_by (suc k) t n
    go true f r = refl
    go false f r = ap suc (r (f refl))

pub places_one : (n : ℕ) → n < 10 → places n ≡ 1
unfolding places places_by
places_one zero h = refl
places_one (suc n) h = rw (lt-ltb (suc n) 10 h)

pub places_more : (n : ℕ) → 10 ≤ n → places n ≡ suc (places (n / 10))
unfolding places places_by
places_more zero h = absurd (omega arith)
places_more (suc n) h = rw (le-ltb (suc n) 10 h) (ap suc (enough n (suc n / 10) (suc n / 10) (omega arith) (le_refl (suc n / 10))))

-- a number below 10 ^ k has at most k digits
pub places_most : (k n : ℕ) → n < 10 ^ suc k → places n ≤ suc k
places_most zero n h = rw (places_one n h) (le_refl 1)
places_most (suc k) n h = go (ltb n 10) (ltb-true n 10) (ltb-false n 10) (places_most k (n / 10) (omega (arith, pow-suc 10 (suc k))))
  where
    go : (t : Bool) → (t ≡ true → n < 10) → (t ≡ false → 10 ≤ n) → places (n / 10) ≤ suc k → places n ≤ suc (suc k)
    go true f g r = rw (places_one n (f refl)) (omega arith)
    go false f g r = rw (places_more n (g refl)) (omega arith)

pub length_digits : (b k n : ℕ) → length (digits b k n) ≡ k
unfolding digits
length_digits b zero n = refl
length_digits b (suc k) n = length-append (digits b k (n / b)) (glyph (n % b) ∷ []) ∙ rw (length_digits b k (n / b)) (omega arith)

pub length_count : (n : ℕ) → length (count n) ≡ places n
unfolding count
length_count n = length_digits 10 (places n) n

-- ---- digits read back: what they make after a number a
pub back : ℕ → List ℕ → ℕ
back a [] = a
back a (c ∷ l) = back (10 * a + (c - 48)) l

back_append : (a : ℕ) (x y : List ℕ) → back a (x ++ y) ≡ back (back a x) y
unfolding back
back_append a [] y = refl
back_append a (c ∷ x) y = back_append (10 * a + (c - 48)) x y

back_digits : (k n : ℕ) → n < 10 ^ k → back 0 (digits 10 k n) ≡ n
unfolding back digits glyph
back_digits zero n h = omega arith
back_digits (suc k) n h =
    back_append 0 (digits 10 k (n / 10)) (glyph (n % 10) ∷ [])
    ∙ rw (back_digits k (n / 10) (omega (arith, pow-suc 10 k)), lt-ltb (n % 10) 10 (omega arith)) (omega arith)

places_fit : (j n : ℕ) → n ≤ j → n < 10 ^ places n
places_fit zero n h = rw (places_one n (omega arith)) (omega arith)
places_fit (suc j) n h = go (ltb n 10) (ltb-true n 10) (ltb-false n 10) (λ k. places_fit j (n / 10) (omega arith))
  where
    go : (t : Bool) → (t ≡ true → n < 10) → (t ≡ false → 10 ≤ n) → (10 ≤ n → n / 10 < 10 ^ places (n / 10)) → n < 10 ^ places n
    go true f g r = rw (places_one n (f refl)) (f refl)
    go false f g r = rw (places_more n (g refl)) (omega (arith, r (g refl), pow-suc 10 (places (n / 10))))

-- a count with the byte 10 after it, which reads as one more digit
pub back_count : (n : ℕ) → back 0 (count n ++ (10 ∷ [])) ≡ 10 * n
unfolding back count
back_count n = back_append 0 (digits 10 (places n) n) (10 ∷ []) ∙ rw (back_digits (places n) n (places_fit n n (le_refl n))) (omega arith)

-- ---- the last k digits of n over the start of l, of which the first i are still to be written
pub record Downward (b n k : ℕ) (l out : List ℕ) (i rest : ℕ) : Type 0 where
  pub few : i ≤ k
  pub size : length out ≡ length l
  pub is : out ≡ take i l ++ drop i (over (digits b k n) l)
  pub to_come : take i (digits b k n) ≡ digits b i rest

pub downward_none : (b n k : ℕ) (l : List ℕ) → Downward b n k l l k n
unfolding over
downward_none b n k l =
    record {
      few = le_refl k;
      size = refl;
      is = rw (drop_at (digits b k n) (drop (length (digits b k n)) l) k (length_digits b k n), length_digits b k n, take-append-drop k l);
      to_come = take_all k (digits b k n) (le_of_eq (length_digits b k n));
    }

-- the digit at j, and those before it
module _ (b n k j rest : ℕ) (t : take (suc j) (digits b k n) ≡ digits b (suc j) rest) where
  digits_before : take j (digits b k n) ≡ digits b j (rest / b)
  unfolding digits
  digits_before =
      sym (take-take j (suc j) (digits b k n) (omega arith)) ∙ ap (take j) t ∙ take_at (digits b j (rest / b)) (glyph (rest % b) ∷ []) j (length_digits b j (rest / b))

  digit_at : (l : List ℕ) → j < k → get_or (over (digits b k n) l) j 0 ≡ glyph (rest % b)
  unfolding digits over
  digit_at l h =
      get_or-append (digits b k n) (drop (length (digits b k n)) l) 0 j (rw (length_digits b k n) h)
      ∙ sym (get_or-take (suc j) (digits b k n) j 0 (omega arith))
      ∙ ap (λ (m : List ℕ). get_or m j 0) t
      ∙ get_or_at (digits b j (rest / b)) (glyph (rest % b)) [] 0 j (length_digits b j (rest / b))

pub downward_more : (b n k : ℕ) (l out : List ℕ) (i rest x : ℕ) → k ≤ length l → Downward b n k l out i rest → 0 < i → x ≡ glyph (rest % b)
    → Downward b n k l (set out (i - 1) x) (i - 1) (rest / b)
downward_more b n k l out zero rest x h d p e = absurd (omega arith)
downward_more b n k l out (suc j) rest x h d p e =
    let o = over (digits b k n) l in
    let i : suc j - 1 ≡ j = omega arith in
    rw i
    (record {
      few = omega (arith, d.few);
      size = length-set out j x ∙ d.size;
      is =
          rw (d.is, take-suc l j 0 (omega (arith, d.few)), append_snoc (take j l) (get_or l j 0) (drop (suc j) o))
          (set_at (take j l) (get_or l j 0) (drop (suc j) o) x j (length-take-le j l (omega (arith, d.few)))
          ∙ rw (drop-cons o j 0 (rw (length_over (digits b k n) l (rw (length_digits b k n) h)) (omega (arith, d.few))), digit_at b n k j rest d.to_come l (omega (arith, d.few)), e));
      to_come = digits_before b n k j rest d.to_come;
    })

pub downward_all : (b n k : ℕ) (l out : List ℕ) (i rest : ℕ) → Downward b n k l out i rest → i ≤ 0 → out ≡ over (digits b k n) l
downward_all b n k l out zero rest d h = d.is
downward_all b n k l out (suc i) rest d h = absurd (omega arith)
