-- The fewest digits that hold a number are one more than the powers of ten that it has reached. Assumes nothing.
use mathlib.Core.Path.{◌≡◌, refl, sym, ap}
use Prim.Native.Nat.{ℕ, zero, suc, ◌-◌, ◌^◌, ◌<◌, ◌≤◌}
use native.Mathlib.Nat.{pow-le-pow_right}
use native.Mathlib.Omega.{arith}
use mathlib.Core.Bool.{Bool, true, false}
use borrow.Author.Tests.{leb-true, leb-false, le-leb, lt-leb}
use lib.Dec.{leb}
use Rattle.io.specs.Digits.{last_digits, IsDigitCount}
use Rattle.harness.specs.Texts.{reached, count}

reached_is : (k j n : ℕ) → j ≤ k → (0 < j → 10 ^ j ≤ n) → n < 10 ^ suc j → reached k n ≡ j
unfolding reached
reached_is zero j n h f g = omega arith
reached_is (suc k) j n h f g = go (leb j k) (leb-true j k) (leb-false j k) (λ a. reached_is k j n a f g)
  where
    go : (t : Bool) → (t ≡ true → j ≤ k) → (t ≡ false → k < j) → (j ≤ k → reached k n ≡ j) → reached (suc k) n ≡ j
    go true a b r =
        let m : 10 ^ suc j ≤ 10 ^ suc k = pow-le-pow_right (omega arith) (omega (arith, a refl)) in
        rw (lt-leb (10 ^ suc k) n (omega arith)) (r (a refl))
    go false a b r =
        let e : j ≡ suc k = omega (arith, b refl) in
        rw (le-leb (10 ^ suc k) n (rw e at (f (omega arith)))) (sym e)

-- a word has not reached ten's twentieth power
few : (j n : ℕ) → n < 2 ^ 64 → (0 < j → 10 ^ j ≤ n) → j ≤ 19
few j n h f = go (leb j 19) (leb-true j 19) (leb-false j 19)
  where
    go : (t : Bool) → (t ≡ true → j ≤ 19) → (t ≡ false → 19 < j) → j ≤ 19
    go true a b = a refl
    go false a b =
        let l : 19 < j = b refl in
        let m : 10 ^ 20 ≤ 10 ^ j = pow-le-pow_right (omega arith) l in
        absurd (omega (arith, f (omega arith)))

pub count_is : (n r : ℕ) → n < 2 ^ 64 → IsDigitCount 10 1 n r → last_digits 10 r n ≡ count n
unfolding count
count_is n zero h f = absurd (omega (arith, f.0))
count_is n (suc j) h f =
    let e : suc j - 1 ≡ j = omega arith in
    let g : 0 < j → 10 ^ j ≤ n = λ p. rw e at (f.2 (omega arith)) in
    ap (λ k. last_digits 10 (suc k) n) (sym (reached_is 19 j n (few j n h g) g f.1))
