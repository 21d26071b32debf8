-- An integer as the difference of two natural numbers, one of which is 0: sums, products and order of integers for `omega`, which does not read them. Assumes nothing.
use Rattle.std.proofs.Common.{◌≡◌, ℕ, zero, suc, ◌+◌, ◌-◌, ◌*◌, ◌≤◌, Bool, true, false, cond, ltb, ℤ, pos, negsuc, ◌+ℤ◌, ◌*ℤ◌, neg_ℤ, ◌≤ℤ◌, refl, ap, ◌∙◌, arith, le→leb, leb→le, ltb-false, ltb-true}

-- z = over z - under z
abbrev pub over : ℤ → ℕ
over (pos n) = n
over (negsuc n) = 0

abbrev pub under : ℤ → ℕ
under (pos n) = 0
under (negsuc n) = suc n

-- ---- the opposite
pub over_neg : (z : ℤ) → over (neg_ℤ z) ≡ under z
over_neg (pos zero) = refl
over_neg (pos (suc n)) = refl
over_neg (negsuc n) = refl

pub under_neg : (z : ℤ) → under (neg_ℤ z) ≡ over z
under_neg (pos zero) = refl
under_neg (pos (suc n)) = refl
under_neg (negsuc n) = refl

-- ---- a sum
gap : (a b : ℕ) (t : Bool) → ltb a (suc b) ≡ t
    → over (cond t (negsuc (suc b - suc a)) (pos (a - suc b))) + suc b ≡ a + under (cond t (negsuc (suc b - suc a)) (pos (a - suc b)))
gap a b true h = omega (arith, ltb-true a (suc b) h)
gap a b false h = omega (arith, ltb-false a (suc b) h)

pub add_parts : (a b : ℤ) → over (a +ℤ b) + (under a + under b) ≡ over a + over b + under (a +ℤ b)
add_parts (pos a) (pos b) = omega arith
add_parts (pos a) (negsuc b) = omega (arith, gap a b (ltb a (suc b)) refl)
add_parts (negsuc a) (pos b) = omega (arith, gap b a (ltb b (suc a)) refl)
add_parts (negsuc a) (negsuc b) = omega arith

-- ---- a multiple
pub over_times : (z : ℤ) (d : ℕ) → over (z *ℤ pos d) ≡ over z * d
over_times (pos n) d = refl
over_times (negsuc n) d = over_neg (pos (suc n * d)) ∙ omega arith

pub under_times : (z : ℤ) (d : ℕ) → under (z *ℤ pos d) ≡ under z * d
under_times (pos n) d = omega arith
under_times (negsuc n) d = under_neg (pos (suc n * d))

-- ---- the order
pub le_parts : (a b : ℤ) → a ≤ℤ b → over a + under b ≤ over b + under a
le_parts (pos a) (pos b) h = omega (arith, leb→le a b h.le)
le_parts (pos a) (negsuc b) h = absurd h.le
le_parts (negsuc a) (pos b) h = omega arith
le_parts (negsuc a) (negsuc b) h = omega (arith, leb→le b a h.le)

pub parts_le : (a b : ℤ) → over a + under b ≤ over b + under a → a ≤ℤ b
parts_le (pos a) (pos b) h = record { le = le→leb a b (omega arith) }
parts_le (pos a) (negsuc b) h = absurd (omega arith)
parts_le (negsuc a) (pos b) h = record { le = tt }
parts_le (negsuc a) (negsuc b) h = record { le = le→leb b a (omega arith) }

pub le_antisym : (a b : ℤ) → a ≤ℤ b → b ≤ℤ a → a ≡ b
le_antisym (pos a) (pos b) h g = ap pos (omega (arith, le_parts (pos a) (pos b) h, le_parts (pos b) (pos a) g))
le_antisym (pos a) (negsuc b) h g = absurd h.le
le_antisym (negsuc a) (pos b) h g = absurd g.le
le_antisym (negsuc a) (negsuc b) h g = ap negsuc (omega (arith, le_parts (negsuc a) (negsuc b) h, le_parts (negsuc b) (negsuc a) g))
