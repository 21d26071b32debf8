-- Reading a number group by group, and a record number by number. Assumes nothing.
use Rattle.std.specs.Prelude.{Ok, Err}
use mathlib.Core.Path.{◌≡◌, refl, sym, ap, ◌∙◌}
use Prim.Native.Nat.{ℕ, zero, suc, ◌+◌, ◌-◌, ◌*◌, ◌%◌, ◌^◌, ◌<◌, ◌≤◌}
use native.Mathlib.Nat.{add-zero, zero-add, add-suc, suc-add, mul-le-mul_right, pow-suc, pow-le-pow_right}
use native.Mathlib.Numerals.{add-one}
use native.Mathlib.Omega.{arith}
use mathlib.Core.Bool.{true, false, ◌&&◌}
use mathlib.Core.List.{List, [], ◌∷◌, ◌++◌}
use borrow.Author.Tests.{lt-ltb, le-ltb}
use lib.ListN.{length, get_or, drop, drop_of_length-le, length-drop}
use lib.Seq.{drop-cons}
use lib.Dec.{ltb, eqb, lit<}
use Rattle.record.specs.Refusals.{cut_short, malformed}
use Rattle.record.specs.Inner.{Stored}
use Rattle.record.specs.Record.{Read, taken, refused, ◌then◌, group, groups, most_groups, number, numbers, numbers_answer}
use Rattle.elementary.specs.Checks.{by}
use Rattle.elementary.specs.declared.Refusal.{Refusal}

-- a number whose groups so far make a, the next being worth u
pub scaled : ℕ → ℕ → Read ℕ → Read ℕ
scaled a u (taken n r) = taken (a + u * n) r
scaled a u (refused k) = refused k

-- ---- a number whose first k groups make a value, the next being worth a unit
pub record Grouped (s : List ℕ) (at value unit k : ℕ) : Type 0 where
  pub few : k ≤ most_groups
  pub small : value < unit
  pub worth : unit ≡ 128 ^ k
  pub so_far : number (drop at s) ≡ scaled value unit (groups (most_groups - k) (ltb 0 k) (drop (at + k) s))

scaled_all : (x : Read ℕ) → x ≡ scaled 0 1 x
unfolding scaled
scaled_all (taken n r) = ap (λ (m : ℕ). taken m r) (omega arith)
scaled_all (refused k) = refl

pub grouped_none : (s : List ℕ) (at : ℕ) → Grouped s at 0 1 0
unfolding number
grouped_none s at = record {
  few = omega arith;
  small = omega arith;
  worth = refl;
  so_far = rw (add-zero at) (scaled_all (groups most_groups false (drop at s)));
}

scaled_under : (a u g : ℕ) (x : Read ℕ) → scaled a u (x then λ n r. taken (g + 128 * n) r) ≡ scaled (a + g * u) (u * 128) x
unfolding scaled ◌then◌
scaled_under a u g (taken n r) = ap (λ (m : ℕ). taken m r) (omega arith)
scaled_under a u g (refused k) = refl

low_bits : (b : ℕ) → b % 128 ≤ 127
low_bits b = omega arith

module _ (s : List ℕ) (at value unit k : ℕ) (g : Grouped s at value unit k) (more : k < most_groups) where
  left : most_groups - k ≡ suc (most_groups - suc k)
  left = omega arith

  -- a group that is added keeps the value within the most groups
  pub unit_fits : unit ≤ 128 ^ (most_groups - 1)
  unit_fits = rw g.worth (pow-le-pow_right {n = 128} (lit< tt) {j = most_groups - 1} (omega arith))

  pub group_fits : (x : ℕ) → x ≤ 127 → value + x * unit < 128 ^ most_groups
  group_fits x h = omega (arith, unit_fits, g.small, mul-le-mul_right unit h)

  -- no byte is left
  pub group_cut : length s ≤ at + k → number (drop at s) ≡ refused cut_short
  unfolding groups scaled
  group_cut h = g.so_far ∙ rw (left, drop_of_length-le s h)

  -- the byte b comes next
  module _ (b : ℕ) (there : at + k < length s) (is : b ≡ get_or s (at + k) 0) where
    next : number (drop at s)
        ≡ scaled value unit (group (ltb b 128) (ltb 0 k && eqb b 0) b (drop (suc (at + k)) s) (groups (most_groups - suc k) true (drop (suc (at + k)) s) then λ n r. taken (b % 128 + 128 * n) r))
    unfolding groups
    next = g.so_far ∙ rw (left, drop-cons s (at + k) 0 there, is)

    pub group_zero : b < 128 → (ltb 0 k && eqb b 0) ≡ true → number (drop at s) ≡ refused malformed
    unfolding group scaled
    group_zero h e = next ∙ rw (lt-ltb b 128 h, e)

    pub group_last : b < 128 → (ltb 0 k && eqb b 0) ≡ false → number (drop at s) ≡ taken (value + b * unit) (drop (at + k + 1) s)
    unfolding group scaled
    group_last h e = next ∙ rw (lt-ltb b 128 h, e, add-one (at + k)) (ap (λ (m : ℕ). taken m (drop (suc (at + k)) s)) (omega arith))

    pub group_more : 128 ≤ b → Grouped s at (value + b % 128 * unit) (unit * 128) (k + 1)
    unfolding group
    group_more h = record {
      few = omega arith;
      small = omega (arith, mul-le-mul_right unit (low_bits b));
      worth = rw (add-one k, pow-suc 128 k) (ap (λ (m : ℕ). m * 128) g.worth);
      so_far = next ∙ rw (le-ltb b 128 h, scaled_under value unit (b % 128) (groups (most_groups - suc k) true (drop (suc (at + k)) s)), add-one k, lt-ltb 0 (suc k) (omega arith), add-suc at k);
    }

-- all that may come had their top bit set
pub group_ninth : (s : List ℕ) (at value unit k : ℕ) → Grouped s at value unit k → most_groups ≤ k → number (drop at s) ≡ refused malformed
unfolding groups scaled
group_ninth s at value unit k g h = g.so_far ∙ let e : most_groups - k ≡ 0 = omega arith in rw e

-- ---- bytes of which i numbers of n are read
pub record Passed (s : List ℕ) (at n : ℕ) (values : List ℕ) (next i : ℕ) : Type 0 where
  pub few : i ≤ n
  pub within : next ≤ length s
  pub so_far : numbers i (drop at s) ≡ taken values (drop next s)

-- none, from a place within the bytes
pub passed_none : (s : List ℕ) (at n start : ℕ) → (start ≤ length s) × (drop start s ≡ drop at s) → Passed s at n [] start 0
unfolding numbers
passed_none s at n start h = record { few = omega arith; within = h.0; so_far = ap (λ (r : List ℕ). taken [] r) (sym h.1) }

pub passed_more : (s : List ℕ) (at n : ℕ) (values : List ℕ) (next i x m : ℕ) → Passed s at n values next i → i < n → number (drop next s) ≡ taken x (drop m s) → m ≤ length s
    → Passed s at n (values ++ (x ∷ [])) m (i + 1)
unfolding numbers ◌then◌
passed_more s at n values next i x m p h e w = record { few = omega arith; within = w; so_far = rw (add-one i, p.so_far, e) }

-- a refusal ends the reading
stays : (d i k : ℕ) (l : List ℕ) → numbers i l ≡ refused k → numbers (d + i) l ≡ refused k
unfolding numbers ◌then◌
stays zero i k l e = rw (zero-add i) e
stays (suc d) i k l e = rw (suc-add d i, stays d i k l e)

pub number_refused : (n i : ℕ) (l v r : List ℕ) (k : ℕ) → i < n → numbers i l ≡ taken v r → number r ≡ refused k → numbers n l ≡ refused k
unfolding numbers ◌then◌
number_refused n i l v r k h d e =
    let s : numbers (suc i) l ≡ refused k = rw (d, e) in
    let m : n - suc i + suc i ≡ n = omega arith in
    rw m at (stays (n - suc i) (suc i) k l s)

-- ---- the answer, at the first refusal and at the end
next_is : (s : List ℕ) (n : ℕ) → n ≤ length s → length s - length (drop n s) ≡ n
next_is s n h = rw (length-drop n s) (omega arith)

module _ (s : List ℕ) (at n : ℕ) (values : List ℕ) (next i : ℕ) (p : Passed s at n values next i) where
  pub passed_refused : (k : ℕ) → i < n → number (drop next s) ≡ refused k → numbers n (drop at s) ≡ refused k
  passed_refused k h e = number_refused n i (drop at s) values (drop next s) k h p.so_far e

  pub passed_all : n ≤ i → numbers n (drop at s) ≡ taken values (drop next s)
  passed_all h = let e : i ≡ n = omega (arith, p.few) in rw e at p.so_far

  pub answer_refused : (r : Refusal) → i < n → number (drop next s) ≡ refused r.0 → Err r ≡ numbers_answer (length s) (numbers n (drop at s))
  unfolding numbers_answer
  answer_refused r h e = rw (passed_refused r.0 h e)

  pub answer_taken : n ≤ i → Ok next ≡ numbers_answer (length s) (numbers n (drop at s))
  unfolding numbers_answer
  answer_taken h = rw (passed_all h, next_is s next p.within)

-- ---- what was read, from the answer
pub taken_parts : (n : ℕ) (x : Read (List ℕ)) (m : ℕ) (out : List ℕ) → Ok m ≡ numbers_answer n x → Stored x out → (r : List ℕ) × (x ≡ taken out r) × (m ≡ n - length r)
unfolding numbers_answer Stored
taken_parts n (taken v r) m out e h = (r, ap (λ (u : List ℕ). taken u r) (sym h), cc)
taken_parts n (refused k) m out e h = let z : ◌≡◌ {A = ℕ} 0 1 = cc in absurd (omega arith)

pub refused_parts : (n : ℕ) (x : Read (List ℕ)) (r : Refusal) → Err r ≡ numbers_answer n x → x ≡ refused r.0
unfolding numbers_answer
refused_parts n (taken v q) r e = let z : ◌≡◌ {A = ℕ} 0 1 = cc in absurd (omega arith)
refused_parts n (refused j) r e = let z : r ≡ by j = cc in rw z
