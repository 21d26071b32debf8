-- A number and a record's numbers over their bytes: which bytes make a whole number, and which are refused by 6 or by 7. Assumes nothing.
use Rattle.std.specs.Prelude.{Err}
use mathlib.Core.Path.{◌≡◌, refl, sym, ap, ◌∙◌, subst}
use mathlib.Core.Logic.{◌⊎◌, inl, inr, ◌↔◌}
use Prim.Native.Nat.{ℕ, zero, suc, ◌+◌, ◌-◌, ◌*◌, ◌%◌, ◌<◌, ◌≤◌}
use native.Mathlib.Nat.{zero-add, suc-add}
use native.Mathlib.Omega.{arith}
use mathlib.Core.Bool.{Bool, true, false, ◌&&◌, and-eq-true_iff}
use mathlib.Core.List.{List, [], ◌∷◌, ◌++◌, append_assoc, append-nil}
use borrow.Author.Tests.{lt-ltb, le-ltb, leb-true, leb-false, ne_eqb, eqb-true, eqb-false}
use lib.ListN.{length, drop}
use lib.Dec.{leb, eqb}
use Rattle.record.specs.Refusals.{cut_short, malformed}
use Rattle.record.specs.Record.{Read, taken, refused, ◌then◌, group, groups, most_groups, number, numbers, numbers_answer, numbers_left}
use Rattle.record.specs.Refusing.{all_top, WholeNumber, EndsInside, NinthGroup, ZeroLast, After, at_once, further, StoppedBefore, NumbersRefusals, by_6, by_7_ninth, by_7_zero}
use Rattle.record.proofs.Left.{after}
use Rattle.record.proofs.Reading.{number_refused}
use Rattle.elementary.specs.Checks.{by}
use Rattle.elementary.proofs.Checks.{same_err}

-- ---- a reading without its value
bare : Read ℕ → Read ℕ
bare (taken n r) = taken 0 r
bare (refused k) = refused k

bare_under : (g : ℕ) (x : Read ℕ) → bare (x then λ n r. taken (g + 128 * n) r) ≡ bare x
unfolding bare ◌then◌
bare_under g (taken n r) = refl
bare_under g (refused k) = refl

bare_refused : (x : Read ℕ) (k : ℕ) → bare x ≡ refused k → x ≡ refused k
unfolding bare
bare_refused (taken n r) k e = let z : ◌≡◌ {A = ℕ} 0 1 = cc in absurd (omega arith)
bare_refused (refused j) k e = e

bare_taken : (x : Read ℕ) (r : List ℕ) → bare x ≡ taken 0 r → (n : ℕ) × (x ≡ taken n r)
unfolding bare
bare_taken (taken n q) r e = let z : q ≡ r = cc in (n, ap (taken n) z)
bare_taken (refused j) r e = let z : ◌≡◌ {A = ℕ} 0 1 = cc in absurd (omega arith)

-- ---- groups with the top bit set, and what stands after them: have there been groups before
passed : Bool → List ℕ → Bool
passed later [] = later
passed later (b ∷ w) = true

open_groups : (w : List ℕ) (k : ℕ) (later : Bool) (l : List ℕ) → all_top w ≡ true → bare (groups (length w + k) later (w ++ l)) ≡ bare (groups k (passed later w) l)
unfolding all_top passed groups group
open_groups [] k later l h = rw (zero-add k)
open_groups (b ∷ w) k later l h =
    let p = (and-eq-true_iff (leb 128 b) (all_top w)).0 h in
    rw (suc-add (length w) k, le-ltb b 128 (leb-true 128 b p.0)) (bare_under (b % 128) (groups (length w + k) true (w ++ l)) ∙ open_groups w k true l p.1 ∙ same w)
  where
    same : (w : List ℕ) → bare (groups k (passed true w) l) ≡ bare (groups k true l)
    same [] = refl
    same (c ∷ v) = refl

after_open : (w l : List ℕ) → all_top w ≡ true → length w ≤ most_groups → bare (number (w ++ l)) ≡ bare (groups (most_groups - length w) (passed false w) l)
unfolding number
after_open w l h k =
    let e : length w + (most_groups - length w) ≡ most_groups = omega arith in
    subst (λ (n : ℕ). bare (groups n false (w ++ l)) ≡ bare (groups (most_groups - length w) (passed false w) l)) e (open_groups w (most_groups - length w) false l h)

-- ---- the four situations, and what is read in each
number_cut : (l : List ℕ) → EndsInside l → number l ≡ refused cut_short
unfolding bare groups
number_cut l h =
    let e : most_groups - length l ≡ suc (most_groups - 1 - length l) = omega (arith, h.1) in
    bare_refused (number l) cut_short (ap (λ (m : List ℕ). bare (number m)) (sym (append-nil l)) ∙ after_open l [] h.0 (omega (arith, h.1)) ∙ rw e)

number_ninth : (l : List ℕ) → NinthGroup l → number l ≡ refused malformed
unfolding bare groups
number_ninth l h =
    let w = h.0 in
    let e : most_groups - length w ≡ 0 = omega (arith, h.4) in
    bare_refused (number l) malformed (ap (λ (m : List ℕ). bare (number m)) h.2 ∙ after_open w h.1 h.3 (omega (arith, h.4)) ∙ rw e)

passed_some : (w : List ℕ) → 0 < length w → passed false w ≡ true
unfolding passed
passed_some [] h = absurd (omega arith)
passed_some (b ∷ w) h = refl

number_zero : (l : List ℕ) → ZeroLast l → number l ≡ refused malformed
unfolding bare groups group
number_zero l h =
    let w = h.0 in
    let e : most_groups - length w ≡ suc (most_groups - 1 - length w) = omega (arith, h.5) in
    bare_refused (number l) malformed (ap (λ (m : List ℕ). bare (number m)) h.2 ∙ after_open w (0 ∷ h.1) h.3 (omega (arith, h.5)) ∙ rw (e, passed_some w h.4))

not_zero : (w : List ℕ) (b : ℕ) → (b ≡ 0 → w ≡ []) → (passed false w && eqb b 0) ≡ false
unfolding passed
not_zero [] b h = refl
not_zero (c ∷ w) b h = ne_eqb b 0 (λ e. let x = h e in let z : ◌≡◌ {A = ℕ} 0 1 = cc in absurd (omega arith))

number_whole : (u r : List ℕ) → WholeNumber u → (n : ℕ) × (number (u ++ r) ≡ taken n r)
unfolding bare groups group
number_whole u r h =
    let w = h.0 in
    let b = h.1 in
    let e : most_groups - length w ≡ suc (most_groups - 1 - length w) = omega (arith, h.4) in
    let q : u ++ r ≡ w ++ (b ∷ r) = ap (λ (m : List ℕ). m ++ r) h.2 ∙ append_assoc w (b ∷ []) r in
    bare_taken (number (u ++ r)) r (ap (λ (m : List ℕ). bare (number m)) q ∙ after_open w (b ∷ r) h.3 (omega (arith, h.4)) ∙ rw (e, lt-ltb b 128 h.5, not_zero w b h.6))

-- ---- some bytes are in one of the four
data View (k : ℕ) (l : List ℕ) : Type 0 where
  short : all_top l ≡ true → length l < k → View k l
  full : (w r : List ℕ) → l ≡ w ++ r → all_top w ≡ true → length w ≡ k → View k l
  last : (w : List ℕ) (b : ℕ) (r : List ℕ) → l ≡ w ++ (b ∷ r) → all_top w ≡ true → length w < k → b < 128 → View k l

view : (k : ℕ) (l : List ℕ) → View k l
unfolding all_top
view zero l = full [] l refl refl refl
view (suc k) [] = short refl (omega arith)
view (suc k) (b ∷ l) = go (leb 128 b) refl (view k l)
  where
    more : (w : List ℕ) → leb 128 b ≡ true → all_top w ≡ true → all_top (b ∷ w) ≡ true
    more w e h = rw (e, h)

    go : (t : Bool) → leb 128 b ≡ t → View k l → View (suc k) (b ∷ l)
    go false e v = last [] b l refl refl (omega arith) (leb-false 128 b e)
    go true e (short h m) = short (more l e h) (omega arith)
    go true e (full w r i h m) = full (b ∷ w) r (ap (λ (x : List ℕ). b ∷ x) i) (more w e h) (ap suc m)
    go true e (last w c r i h m j) = last (b ∷ w) c r (ap (λ (x : List ℕ). b ∷ x) i) (more w e h) (omega arith) j

data Situation (l : List ℕ) : Read ℕ → Type 0 where
  whole : {n : ℕ} {r : List ℕ} (u : List ℕ) → WholeNumber u → l ≡ u ++ r → Situation l (taken n r)
  inside : EndsInside l → Situation l (refused cut_short)
  ninth : NinthGroup l → Situation l (refused malformed)
  zeroed : ZeroLast l → Situation l (refused malformed)

situation : (l : List ℕ) → Situation l (number l)
situation l = go (view most_groups l)
  where
    made : (w : List ℕ) (b : ℕ) (r : List ℕ) → l ≡ w ++ (b ∷ r) → all_top w ≡ true → length w < most_groups → b < 128 → (b ≡ 0 → w ≡ []) → Situation l (number l)
    made w b r i h m j z =
        let u = w ++ (b ∷ []) in
        let n : WholeNumber u = (w, b, refl, h, m, j, z) in
        let q : l ≡ u ++ r = i ∙ sym (append_assoc w (b ∷ []) r) in
        let x = number_whole u r n in
        subst (Situation l) (sym (ap number q ∙ x.1)) (whole u n q)

    ends : (w : List ℕ) (b : ℕ) (r : List ℕ) → l ≡ w ++ (b ∷ r) → all_top w ≡ true → length w < most_groups → b < 128 → (t : Bool) → eqb b 0 ≡ t → Situation l (number l)
    ends [] b r i h m j t e = made [] b r i h m j (λ z. refl)
    ends (c ∷ w) b r i h m j false e = made (c ∷ w) b r i h m j (λ z. absurd (eqb-false b 0 e z))
    ends (c ∷ w) b r i h m j true e =
        let z : ZeroLast l = (c ∷ w, r, i ∙ ap (λ (n : ℕ). c ∷ (w ++ (n ∷ r))) (eqb-true b 0 e), h, omega arith, m) in
        subst (Situation l) (sym (number_zero l z)) (zeroed z)

    go : View most_groups l → Situation l (number l)
    go (short h m) = subst (Situation l) (sym (number_cut l (h, m))) (inside (h, m))
    go (full w r i h m) = subst (Situation l) (sym (number_ninth l (w, r, i, h, m))) (ninth (w, r, i, h, m))
    go (last w b r i h m j) = ends w b r i h m j (eqb b 0) refl

-- ---- a record's numbers, one after the other
then_refused : {A B : Type 0} (x : Read A) (f : A → List ℕ → Read B) (k : ℕ) → ((a : A) (q : List ℕ) → f a q ≡ refused k → ⊥) → x then f ≡ refused k → x ≡ refused k
unfolding ◌then◌
then_refused (taken a q) f k n e = absurd (n a q e)
then_refused (refused j) f k n e = let z : j ≡ k = cc in ap refused z

whole_is : {l r : List ℕ} {n : ℕ} → Situation l (taken n r) → (u : List ℕ) × WholeNumber u × (l ≡ u ++ r)
whole_is (whole u h e) = (u, h, e)

taken_after : (n : ℕ) (l v r : List ℕ) → numbers n l ≡ taken v r → After l n r
unfolding numbers
taken_after zero l v r e = let z : l ≡ r = cc in subst (After l 0) z at_once
taken_after (suc n) l v r e =
    let x = after (numbers n l) _ v r e in
    let y = after (number x.1) _ v r x.3 in
    let z : y.1 ≡ r = cc in
    let s = whole_is (subst (Situation x.1) (y.2 ∙ ap (taken y.0) z) (situation x.1)) in
    further (subst (After l n) s.2 (taken_after n l x.0 x.1 x.2)) s.1

after_taken : {l : List ℕ} {n : ℕ} {r : List ℕ} → After l n r → (v : List ℕ) × (numbers n l ≡ taken v r)
unfolding numbers ◌then◌
after_taken at_once = ([], refl)
after_taken (further {u = u} {r = r} a h) =
    let x = after_taken a in
    let y = number_whole u r h in
    (x.0 ++ (y.0 ∷ []), rw (x.1, y.1))

-- ---- m numbers, of which the one after n is refused
module _ (m : ℕ) where
  stops : (n : ℕ) (l r : List ℕ) (k : ℕ) → n < m → After l n r → number r ≡ refused k → numbers m l ≡ refused k
  stops n l r k h a e = let x = after_taken a in number_refused m n l x.0 r k h x.1 e

  stopped_refused : {l : List ℕ} {k : ℕ} → StoppedBefore m l k → numbers m l ≡ refused k
  stopped_refused {l} (by_6 {n} {r} h a c) = stops n l r cut_short h a (number_cut r c)
  stopped_refused {l} (by_7_ninth {n} {r} h a c) = stops n l r malformed h a (number_ninth r c)
  stopped_refused {l} (by_7_zero {n} {r} h a c) = stops n l r malformed h a (number_zero r c)

  stopped_at : {l r : List ℕ} {n k : ℕ} → n < m → After l n r → Situation r (refused k) → StoppedBefore m l k
  stopped_at h a (inside c) = by_6 h a c
  stopped_at h a (ninth c) = by_7_ninth h a c
  stopped_at h a (zeroed c) = by_7_zero h a c

  refused_stopped : (n : ℕ) (l : List ℕ) (k : ℕ) → n ≤ m → numbers n l ≡ refused k → StoppedBefore m l k
  unfolding numbers ◌then◌
  refused_stopped zero l k h e = let z : ◌≡◌ {A = ℕ} 0 1 = cc in absurd (omega arith)
  refused_stopped (suc n) l k h e = go (numbers n l) refl (refused_stopped n l k (omega arith)) e
    where
      go : (x : Read (List ℕ)) → numbers n l ≡ x → (numbers n l ≡ refused k → StoppedBefore m l k) → x then (λ v r. number r then λ y q. taken (v ++ (y ∷ [])) q) ≡ refused k → StoppedBefore m l k
      go (refused j) d f g = f (d ∙ g)
      go (taken v r) d f g =
          let s = then_refused (number r) _ k (λ y q c. let z : ◌≡◌ {A = ℕ} 0 1 = cc in absurd (omega arith)) g in
          stopped_at (omega arith) (taken_after n l v r d) (subst (Situation r) s (situation r))

  pub numbers_stopped : (l : List ℕ) (k : ℕ) → (numbers m l ≡ refused k) ↔ StoppedBefore m l k
  numbers_stopped l k = (refused_stopped m l k (omega arith), stopped_refused)

-- a refusal of the reader is 6 or 7
pub stopped_number : {m : ℕ} {l : List ℕ} {k : ℕ} → StoppedBefore m l k → (k ≡ cut_short) ⊎ (k ≡ malformed)
stopped_number (by_6 h a c) = inl refl
stopped_number (by_7_ninth h a c) = inr refl
stopped_number (by_7_zero h a c) = inr refl

-- ---- so of `read_numbers`
pub numbers_refusals : NumbersRefusals
unfolding numbers_answer numbers_left
numbers_refusals s at out k = go (numbers (length out) (drop at s)) (numbers_stopped (length out) (drop at s) k)
  where
    go : (x : Read (List ℕ)) → (x ≡ refused k) ↔ StoppedBefore (length out) (drop at s) k
        → ((numbers_answer (length s) x ≡ Err (by k)) ↔ StoppedBefore (length out) (drop at s) k) × (numbers_answer (length s) x ≡ Err (by k) → numbers_left x out ≡ out)
    go (taken v r) f = ((λ e. let z : ◌≡◌ {A = ℕ} 0 1 = cc in absurd (omega arith), λ h. let e = f.1 h in let z : ◌≡◌ {A = ℕ} 0 1 = cc in absurd (omega arith)), λ e. let z : ◌≡◌ {A = ℕ} 0 1 = cc in absurd (omega arith))
    go (refused j) f = ((λ e. f.0 (ap refused (same_err e)), λ h. let e = f.1 h in let z : j ≡ k = cc in ap (λ (i : ℕ). Err (by i)) z), λ e. refl)
