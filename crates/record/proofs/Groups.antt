-- A number in groups of seven bits, written and read: one group or more, how many, and the two ways round. Assumes nothing.
use mathlib.Core.Path.{◌≡◌, refl, sym, ap, ◌∙◌}
use mathlib.Core.Logic.{◌↔◌}
use Prim.Native.Nat.{ℕ, zero, suc, ◌+◌, ◌*◌, ◌/◌, ◌%◌, ◌^◌, ◌<◌, ◌≤◌}
use native.Mathlib.Nat.{le_refl, pow-suc, one-le-pow}
use native.Mathlib.Omega.{arith}
use mathlib.Core.Bool.{Bool, true, false, ◌&&◌}
use mathlib.Core.List.{List, [], ◌∷◌, ◌++◌}
use borrow.Author.Tests.{lt-ltb, le-ltb, ltb-true, ltb-false, ne_eqb, eqb-false}
use lib.ListN.{length, set, length-append}
use lib.Seq.{append_snoc}
use lib.Dec.{ltb, eqb}
use Rattle.record.specs.Record.{taken, ◌then◌, group, groups}
use Rattle.buffers.specs.Over.{over}
use Rattle.record.specs.Save.{in_groups_by, in_groups}
use Rattle.record.specs.Promises.{Bytes, FewestGroups}
use Rattle.record.proofs.Left.{after}
use Rattle.buffers.proofs.Texts.{Wrote, wrote_length, wrote_none, wrote_byte, wrote_as}

-- ---- more turns than enough change nothing
enough : (j k n : ℕ) → n ≤ j → n ≤ k → in_groups_by j (ltb n 128) n ≡ in_groups_by k (ltb n 128) n
unfolding in_groups_by
enough zero zero n h g = refl
enough zero (suc k) n h g = rw (lt-ltb n 128 (omega arith))
enough (suc j) zero n h g = rw (lt-ltb n 128 (omega arith))
enough (suc j) (suc k) n h g = go (ltb n 128) (ltb-false n 128) (λ m. enough j k (n / 128) (omega arith) (omega arith))
  where
    go : (t : Bool) → (t ≡ false → 128 ≤ n) → (128 ≤ n → in_groups_by j (ltb (n / 128) 128) (n / 128) ≡ in_groups_by k (ltb (n / 128) 128) (n / 128))
        → in_groups_by (suc j) t n ≡ in_groups_by (suc k) t n
    go true f r = refl
    go false f r = ap (λ (l : List ℕ). (n % 128 + 128) ∷ l) (r (f refl))

pub one_group : (n : ℕ) → n < 128 → in_groups n ≡ n ∷ []
unfolding in_groups in_groups_by
one_group zero h = refl
one_group (suc n) h = rw (lt-ltb (suc n) 128 h)

pub more_groups : (n : ℕ) → 128 ≤ n → in_groups n ≡ (n % 128 + 128) ∷ in_groups (n / 128)
unfolding in_groups in_groups_by
more_groups zero h = absurd (omega arith)
more_groups (suc n) h =
    rw (le-ltb (suc n) 128 h) (ap (λ (l : List ℕ). (suc n % 128 + 128) ∷ l) (enough n (suc n / 128) (suc n / 128) (omega arith) (le_refl (suc n / 128))))

-- ---- how many groups: is the number below 128
some_group : (n : ℕ) → 0 < length (in_groups n)
some_group n = go (ltb n 128) (ltb-true n 128) (ltb-false n 128)
  where
    go : (t : Bool) → (t ≡ true → n < 128) → (t ≡ false → 128 ≤ n) → 0 < length (in_groups n)
    go true f g = rw (one_group n (f refl)) (omega arith)
    go false f g = rw (more_groups n (g refl)) (omega arith)

pub fewest_groups : FewestGroups
fewest_groups zero n = go (ltb n 128) (ltb-true n 128) (ltb-false n 128)
  where
    go : (t : Bool) → (t ≡ true → n < 128) → (t ≡ false → 128 ≤ n) → (length (in_groups n) ≤ 1) ↔ (n < 128 ^ 1)
    go true f g = (λ h. f refl, λ h. rw (one_group n (f refl)) (le_refl 1))
    go false f g = (λ h. absurd (omega (arith, rw (more_groups n (g refl)) at h, some_group (n / 128))), λ h. absurd (omega (arith, g refl)))
fewest_groups (suc k) n = go (ltb n 128) (ltb-true n 128) (ltb-false n 128) (fewest_groups k (n / 128))
  where
    go : (t : Bool) → (t ≡ true → n < 128) → (t ≡ false → 128 ≤ n) → (length (in_groups (n / 128)) ≤ suc k) ↔ (n / 128 < 128 ^ suc k)
        → (length (in_groups n) ≤ suc (suc k)) ↔ (n < 128 ^ suc (suc k))
    go true f g r = (
      λ h. omega (arith, f refl, pow-suc 128 (suc k), pow-suc 128 k, one-le-pow k 128 (omega arith)),
      λ h. rw (one_group n (f refl)) (omega arith),
    )
    go false f g r = (
      λ h. omega (arith, pow-suc 128 (suc k), r.0 (omega (arith, rw (more_groups n (g refl)) at h))),
      λ h. rw (more_groups n (g refl)) (omega (arith, r.1 (omega (arith, pow-suc 128 (suc k))))),
    )

-- ---- what is written is read: the groups of a number, of which so many may come; after others it is not zero
module _ (n : ℕ) (later : Bool) (r : List ℕ) where
  not_zero : (b : Bool) → (b ≡ true → 0 < n) → (b && eqb n 0) ≡ false
  not_zero false f = refl
  not_zero true f = ne_eqb n 0 (λ e. omega (arith, f refl))

  last_read : (k : ℕ) → n < 128 → (later ≡ true → 0 < n) → groups (suc k) later (in_groups n ++ r) ≡ taken n r
  unfolding groups group
  last_read k h z = rw (one_group n h, lt-ltb n 128 h, not_zero later z)

  more_read : (k : ℕ) → 128 ≤ n → groups k true (in_groups (n / 128) ++ r) ≡ taken (n / 128) r → groups (suc k) later (in_groups n ++ r) ≡ taken n r
  unfolding groups group ◌then◌
  more_read k h e = rw (more_groups n h, le-ltb (n % 128 + 128) 128 (omega arith), e) (ap (λ (m : ℕ). taken m r) (omega arith))

pub groups_read : (k n : ℕ) (later : Bool) (r : List ℕ) → n < 128 ^ suc k → (later ≡ true → 0 < n) → groups (suc k) later (in_groups n ++ r) ≡ taken n r
groups_read zero n later r h z = last_read n later r zero h z
groups_read (suc k) n later r h z = go (ltb n 128) (ltb-true n 128) (ltb-false n 128) (groups_read k (n / 128) true r (omega (arith, pow-suc 128 (suc k))))
  where
    go : (t : Bool) → (t ≡ true → n < 128) → (t ≡ false → 128 ≤ n) → ((true ≡ true → 0 < n / 128) → groups (suc k) true (in_groups (n / 128) ++ r) ≡ taken (n / 128) r)
        → groups (suc (suc k)) later (in_groups n ++ r) ≡ taken n r
    go true f g s = last_read n later r (suc k) (f refl) z
    go false f g s = more_read n later r (suc k) (g refl) (s (λ e. omega (arith, g refl)))

-- ---- what is read was written so
bytes_tail : (b : ℕ) (l : List ℕ) → Bytes (b ∷ l) → Bytes l
bytes_tail b l h i = h (suc i)

pub groups_written : (k : ℕ) (later : Bool) (l : List ℕ) (n : ℕ) (r : List ℕ) → Bytes l → groups k later l ≡ taken n r → (l ≡ in_groups n ++ r) × (later ≡ true → 0 < n)
unfolding groups group
groups_written zero later l n r h e = let z : ◌≡◌ {A = ℕ} 0 1 = cc in absurd (omega arith)
groups_written (suc k) later [] n r h e = let z : ◌≡◌ {A = ℕ} 0 1 = cc in absurd (omega arith)
groups_written (suc k) later (b ∷ l) n r h e = go (ltb b 128) (ltb-true b 128) (ltb-false b 128) (later && eqb b 0) refl (groups_written k true l) e
  where
    alone : (later : Bool) → (later && eqb b 0) ≡ false → later ≡ true → 0 < b
    alone false e d = let z : ◌≡◌ {A = ℕ} 0 1 = cc in absurd (omega arith)
    alone true e d = let x = eqb-false b 0 e in omega arith

    more : (m : ℕ) → 128 ≤ b → 0 < m → b ∷ in_groups m ≡ in_groups (b % 128 + 128 * m)
    more m g p =
        let q : (b % 128 + 128 * m) / 128 ≡ m = omega arith in
        let x : (b % 128 + 128 * m) % 128 + 128 ≡ b = omega (arith, h 0) in
        sym (more_groups (b % 128 + 128 * m) (omega arith) ∙ rw (q, x))

    go : (t : Bool) → (t ≡ true → b < 128) → (t ≡ false → 128 ≤ b) → (z : Bool) → (later && eqb b 0) ≡ z
        → ((m : ℕ) (q : List ℕ) → Bytes l → groups k true l ≡ taken m q → (l ≡ in_groups m ++ q) × (true ≡ true → 0 < m))
        → group t z b l (groups k true l then λ m q. taken (b % 128 + 128 * m) q) ≡ taken n r → (b ∷ l ≡ in_groups n ++ r) × (later ≡ true → 0 < n)
    go true f g true i s d = let z : ◌≡◌ {A = ℕ} 0 1 = cc in absurd (omega arith)
    go true f g false i s d =
        let x : b ≡ n = cc in
        let y : l ≡ r = cc in
        rw (← x, ← y, one_group b (f refl)) (refl, alone later i)
    go false f g z i s d =
        let x = after (groups k true l) (λ m q. taken (b % 128 + 128 * m) q) n r d in
        let m = x.0 in
        let y : b % 128 + 128 * m ≡ n = cc in
        let w : x.1 ≡ r = cc in
        let p = s m x.1 (bytes_tail b l h) x.2 in (
          ap (λ (v : List ℕ). b ∷ v) (p.0 ∙ ap (λ (v : List ℕ). in_groups m ++ v) w) ∙ ap (λ (v : List ℕ). v ++ r) (more m (g refl) (p.1 refl) ∙ ap in_groups y),
          λ e. omega (arith, p.1 refl),
        )

-- ---- a loop that writes a number's groups, of which those of the rest are still to come
pub record Grouping (n : ℕ) (l out : List ℕ) (at rest : ℕ) : Type 0 where
  pub so_far : List ℕ
  pub wrote : Wrote l so_far out at
  pub whole : so_far ++ in_groups rest ≡ in_groups n

pub grouping_none : (n : ℕ) (l : List ℕ) → Grouping n l l 0 n
grouping_none n l = record { so_far = []; wrote = wrote_none l; whole = refl }

module _ (n : ℕ) (l out : List ℕ) (at rest : ℕ) (fits : length (in_groups n) ≤ length l) (g : Grouping n l out at rest) where
  lengths : at + length (in_groups rest) ≡ length (in_groups n)
  lengths = ap (λ (m : ℕ). m + length (in_groups rest)) g.wrote.up_to ∙ sym (length-append g.so_far (in_groups rest)) ∙ ap length g.whole

  pub grouping_room : (at < length l) × (length out ≡ length l)
  grouping_room =
      let h : at < length l = omega (arith, lengths, some_group rest) in
      (h, wrote_length l g.so_far out at g.wrote (omega arith))

  pub grouping_more : 128 ≤ rest → Grouping n l (set out at (rest % 128 + 128)) (at + 1) (rest / 128)
  grouping_more h =
      record {
        so_far = g.so_far ++ ((rest % 128 + 128) ∷ []);
        wrote = wrote_byte l g.so_far out at (rest % 128 + 128) g.wrote grouping_room.0;
        whole = append_snoc g.so_far (rest % 128 + 128) (in_groups (rest / 128)) ∙ ap (λ (m : List ℕ). g.so_far ++ m) (sym (more_groups rest h)) ∙ g.whole;
      }

  pub grouping_last : rest < 128 → (set out at rest ≡ over (in_groups n) l) × (at + 1 ≡ length (in_groups n))
  grouping_last h =
      wrote_as l (g.so_far ++ (rest ∷ [])) (in_groups n) (set out at rest) (at + 1) (wrote_byte l g.so_far out at rest g.wrote grouping_room.0)
      (ap (λ (m : List ℕ). g.so_far ++ m) (sym (one_group rest h)) ∙ g.whole)
