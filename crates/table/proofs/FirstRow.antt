-- The first row that agrees: what it is that one is found, or none. Each law stands both ways. Assumes nothing.
use Rattle.std.specs.Prelude.{Some, None}
use mathlib.Core.Path.{◌≡◌, refl, ap, ◌∙◌}
use Prim.Native.Nat.{ℕ, zero, suc, ◌+◌, ◌<◌, ◌≤◌}
use native.Mathlib.Omega.{arith}
use mathlib.Core.Bool.{Bool, true, false, cond}
use mathlib.Core.List.{List}
use borrow.Author.Tests.{ltb-true, ltb-false}
use lib.Dec.{ltb}
use Rattle.plan.specs.declared.RunInput.{RunInput}
use Rattle.table.specs.Table.{filled, agrees, first_from, found}

-- ---- of n places from place a on, p holds at r and at none before
pub record First (a n : ℕ) (p : ℕ → Bool) (r : ℕ) : Type 0 where
  pub from_first : a ≤ r
  pub in_range : r < a + n
  pub holds : p r ≡ true
  pub before : (i : ℕ) → a ≤ i → i < r → p i ≡ false

pub first_is : (a n : ℕ) (p : ℕ → Bool) (r : ℕ) → first_from a n p ≡ Some r → First a n p r
unfolding first_from
first_is a zero p r e = let z : ◌≡◌ {A = ℕ} 0 1 = cc in absurd (omega arith)
first_is a (suc n) p r e = go (p a) refl e (first_is (suc a) n p r)
  where
    go : (b : Bool) → p a ≡ b → cond b (Some a) (first_from (suc a) n p) ≡ Some r → (first_from (suc a) n p ≡ Some r → First (suc a) n p r) → First a (suc n) p r
    go true eb f k = let z : a ≡ r = cc in record { from_first = omega arith; in_range = omega arith; holds = rw (← z) eb; before = λ i l m. absurd (omega arith) }
    go false eb f k =
        let w = k f in
        record {
          from_first = omega arith;
          in_range = omega arith;
          holds = w.holds;
          before = λ i l m. split i (ltb a i) refl l (w.before i) m;
        }
      where
        split : (i : ℕ) (t : Bool) → ltb a i ≡ t → a ≤ i → (suc a ≤ i → i < r → p i ≡ false) → i < r → p i ≡ false
        split i true et l g m = g (ltb-true a i et) m
        split i false et l g m = let z : i ≡ a = omega (arith, ltb-false a i et) in ap p z ∙ eb

pub first_back : (a n : ℕ) (p : ℕ → Bool) (r : ℕ) → First a n p r → first_from a n p ≡ Some r
unfolding first_from
first_back a zero p r f = absurd (omega arith)
first_back a (suc n) p r f = go (ltb a r) refl (first_back (suc a) n p r)
  where
    go : (b : Bool) → ltb a r ≡ b → (First (suc a) n p r → first_from (suc a) n p ≡ Some r) → cond (p a) (Some a) (first_from (suc a) n p) ≡ Some r
    go true e k =
        let h : a < r = ltb-true a r e in
        rw (f.before a (omega arith) h) (k (record { from_first = omega arith; in_range = omega arith; holds = f.holds; before = λ i l m. f.before i (omega arith) m }))
    go false e k = let z : a ≡ r = omega (arith, ltb-false a r e) in rw (z, f.holds)

-- ---- and at none of them
pub none_is : (a n : ℕ) (p : ℕ → Bool) → first_from a n p ≡ None → (i : ℕ) → a ≤ i → i < a + n → p i ≡ false
unfolding first_from
none_is a zero p e i l m = absurd (omega arith)
none_is a (suc n) p e i l m = go (p a) refl e (ltb a i) refl (λ f h. none_is (suc a) n p f i h (omega arith))
  where
    go : (b : Bool) → p a ≡ b → cond b (Some a) (first_from (suc a) n p) ≡ None → (c : Bool) → ltb a i ≡ c → (first_from (suc a) n p ≡ None → suc a ≤ i → p i ≡ false) → p i ≡ false
    go true eb f c ec k = let z : ◌≡◌ {A = ℕ} 0 1 = cc in absurd (omega arith)
    go false eb f true ec k = k f (ltb-true a i ec)
    go false eb f false ec k = let z : i ≡ a = omega (arith, ltb-false a i ec) in ap p z ∙ eb

pub none_back : (a n : ℕ) (p : ℕ → Bool) → ((i : ℕ) → a ≤ i → i < a + n → p i ≡ false) → first_from a n p ≡ None
unfolding first_from
none_back a zero p h = refl
none_back a (suc n) p h = rw (h a (omega arith) (omega arith)) (none_back (suc a) n p (λ i l m. h i (omega arith) (omega arith)))

-- ---- a table's rows
module _ (t : List ℕ) (x : RunInput) where
  pub found_row : (r : ℕ) → found t x ≡ Some r → (r < filled t) × (agrees t x r ≡ true) × ((i : ℕ) → i < r → agrees t x i ≡ false)
  found_row r e = let w = first_is 0 (filled t) (agrees t x) r e in (omega (arith, w.in_range), w.holds, λ i h. w.before i (omega arith) h)

  pub row_found : (r : ℕ) → r < filled t → agrees t x r ≡ true → ((i : ℕ) → i < r → agrees t x i ≡ false) → found t x ≡ Some r
  row_found r h a b = first_back 0 (filled t) (agrees t x) r (record { from_first = omega arith; in_range = omega arith; holds = a; before = λ i l m. b i m })

  pub found_nothing : found t x ≡ None → (i : ℕ) → i < filled t → agrees t x i ≡ false
  found_nothing e i h = none_is 0 (filled t) (agrees t x) e i (omega arith) (omega arith)

  pub nothing_found : ((i : ℕ) → i < filled t → agrees t x i ≡ false) → found t x ≡ None
  nothing_found h = none_back 0 (filled t) (agrees t x) (λ i l m. h i (omega arith))
