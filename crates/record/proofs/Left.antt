-- What is left of some bytes after a number or several were read, and so the next place. Assumes nothing.
use mathlib.Core.Path.{◌≡◌, refl, sym, ap, ◌∙◌}
use Prim.Native.Nat.{ℕ, zero, suc, ◌+◌, ◌-◌, ◌*◌, ◌%◌, ◌<◌, ◌≤◌}
use native.Mathlib.Omega.{arith}
use mathlib.Core.Bool.{Bool, true, false, ◌&&◌}
use mathlib.Core.List.{List, [], ◌∷◌, ◌++◌, append_assoc}
use lib.ListN.{length, drop, length-append, length-drop}
use lib.Seq.{drop_at, drop-drop}
use lib.Dec.{ltb, eqb}
use Rattle.record.specs.Record.{Read, taken, refused, ◌then◌, group, groups, most_groups, number, numbers, fields}

-- r is what is left of l, of which m bytes at least were taken
pub record Left (m : ℕ) (l r : List ℕ) : Type 0 where
  pub before : List ℕ
  pub whole : l ≡ before ++ r
  pub some : m ≤ length before

-- a reading after another
pub after : {A B : Type 0} (x : Read A) (f : A → List ℕ → Read B) (b : B) (r : List ℕ) → x then f ≡ taken b r → (a : A) × (q : List ℕ) × (x ≡ taken a q) × (f a q ≡ taken b r)
unfolding ◌then◌
after (taken a q) f b r e = (a, q, refl, e)
after (refused k) f b r e = let z : ◌≡◌ {A = ℕ} 0 1 = cc in absurd (omega arith)

first : (b : ℕ) (l r : List ℕ) → l ≡ r → Left 1 (b ∷ l) r
first b l r e = record { before = b ∷ []; whole = ap (λ (m : List ℕ). b ∷ m) e; some = omega arith }

further : (b : ℕ) (l r : List ℕ) → Left 1 l r → Left 1 (b ∷ l) r
further b l r p = record { before = b ∷ p.before; whole = ap (λ (m : List ℕ). b ∷ m) p.whole; some = omega arith }

groups_left : (k : ℕ) (later : Bool) (l : List ℕ) (n : ℕ) (r : List ℕ) → groups k later l ≡ taken n r → Left 1 l r
unfolding groups group
groups_left zero later l n r e = let z : ◌≡◌ {A = ℕ} 0 1 = cc in absurd (omega arith)
groups_left (suc k) later [] n r e = let z : ◌≡◌ {A = ℕ} 0 1 = cc in absurd (omega arith)
groups_left (suc k) later (b ∷ l) n r e = go (ltb b 128) (later && eqb b 0) (groups_left k true l) e
  where
    go : (t z : Bool) → ((m : ℕ) (q : List ℕ) → groups k true l ≡ taken m q → Left 1 l q) → group t z b l (groups k true l then λ m q. taken (b % 128 + 128 * m) q) ≡ taken n r → Left 1 (b ∷ l) r
    go true true f d = let z : ◌≡◌ {A = ℕ} 0 1 = cc in absurd (omega arith)
    go true false f d = first b l r (cc)
    go false z f d =
        let x = after (groups k true l) (λ m q. taken (b % 128 + 128 * m) q) n r d in
        let y : x.1 ≡ r = cc in
        further b l r (f x.0 r (x.2 ∙ ap (taken x.0) y))

numbers_left_lem : (n : ℕ) (l v r : List ℕ) → numbers n l ≡ taken v r → Left n l r
unfolding numbers number
numbers_left_lem zero l v r e = record { before = []; whole = cc; some = omega arith }
numbers_left_lem (suc n) l v r e =
    let x = after (numbers n l) _ v r e in
    let y = after (number x.1) _ v r x.3 in
    let z : y.1 ≡ r = cc in
    let p = numbers_left_lem n l x.0 x.1 x.2 in
    let q = groups_left most_groups false x.1 y.0 y.1 y.2 in
    record {
      before = p.before ++ q.before;
      whole = p.whole ∙ ap (λ (m : List ℕ). p.before ++ m) (q.whole ∙ ap (λ (m : List ℕ). q.before ++ m) z) ∙ sym (append_assoc p.before q.before r);
      some = rw (length-append p.before q.before) (omega (arith, p.some, q.some));
    }

-- ---- a record at a place of a sheet: the place after it
module _ (s : List ℕ) (at : ℕ) (v r : List ℕ) (e : numbers fields (drop at s) ≡ taken v r) where
  lengths : length s - at ≡ length (numbers_left_lem fields (drop at s) v r e).before + length r
  lengths =
      let p = numbers_left_lem fields (drop at s) v r e in
      sym (length-drop at s) ∙ ap length p.whole ∙ length-append p.before r

  pub next_moves : (at < length s - length r) × (length s - length r ≤ length s)
  next_moves = (omega (arith, lengths, (numbers_left_lem fields (drop at s) v r e).some), omega arith)

  pub next_left : drop (length s - length r) s ≡ r
  next_left =
      let p = numbers_left_lem fields (drop at s) v r e in
      let k : length s - length r ≡ at + length p.before = omega (arith, lengths, p.some) in
      rw k (sym (drop-drop (length p.before) at s) ∙ ap (drop (length p.before)) p.whole ∙ drop_at p.before r (length p.before) refl)
