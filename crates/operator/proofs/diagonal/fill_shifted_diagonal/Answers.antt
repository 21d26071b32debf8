-- The entries so far are the diagonal, and q is the next row as a float, which is exact. Assumes nothing.
use mathlib.Core.Path.{◌≡◌, refl, ap, ◌∙◌}
use Prim.Native.Nat.{ℕ, suc, ◌+◌, ◌-◌, ◌<◌, ◌≤◌}
use native.Mathlib.Omega.{arith}
use native.Mathlib.Nat.{le_trans}
use native.Mathlib.Numerals.{add-one}
use mathlib.Core.Bool.{Bool, true, false, not, cond}
use mathlib.Core.List.{List}
use borrow.Author.Tests.{le-leb, lt-leb}
use lib.IntN.{pos, negsuc, nat_abs}
use lib.Dec.{T, lit≤, leb, nleb→lt}
use lib.ListN.{length}
use lib.Ieee.{Float, binary64, minus, of_bits, of_int, round}
use Rattle.elementary.specs.Float.{◌⊕◌, ◌⊖◌, whole, 0ᶠ, 1ᶠ, finite}
use Rattle.elementary.proofs.Exact.{one_whole, sub_whole, add_ints, minus_suc}
use Rattle.operator.specs.Vectors.{tab, at, every}
use Rattle.operator.specs.Operator.{rows, diagonal_at}
use Rattle.operator.specs.Slices.{diagonal_over}
use Rattle.operator.proofs.Loops.{filled_zero, stored, filled_all, at_stored, every_zero, every_suc, every_at}
use Rattle.operator.proofs.Lists.{every_ext}
use Rattle.operator.proofs.diagonal.fill_shifted_diagonal.Goals as goal

zero-whole : 0ᶠ ≡ whole (pos 0)
unfolding of_bits of_int round
zero-whole = refl

size-minus : (a b : ℕ) → nat_abs (minus a b) ≤ a + b
size-minus a b = go (leb b a) (nleb→lt b a)
  where
    go : (t : Bool) → (T (not t) → a < b) → nat_abs (cond t (pos (a - b)) (negsuc (b - suc a))) ≤ a + b
    go true h = omega arith
    go false h = omega (arith, h tt)

-- the row of -b lots
first : (b : ℕ) → b ≤ 4294967295 → 0ᶠ ⊖ whole (pos b) ≡ whole (minus 0 b)
first b h = ap (λ (z : Float). z ⊖ whole (pos b)) zero-whole ∙ sub_whole binary64 0 b (lit≤ tt) (le_trans h (lit≤ tt))

-- one row more
next : (i b : ℕ) → i ≤ rows b → b ≤ 4294967295 → whole (minus i b) ⊕ 1ᶠ ≡ whole (minus (i + 1) b)
next i b h l =
    let k : nat_abs (minus i b) ≤ 12884901886 = omega (arith, size-minus i b) in
    ap (λ (z : Float). whole (minus i b) ⊕ z) one_whole ∙ add_ints binary64 (minus i b) (pos 1) (le_trans k (lit≤ tt)) (lit≤ tt) ∙ ap whole (rw (add-one i) (minus_suc i b))

pub returns-then-bound-diag : goal.returns-then-bound-diag
unfolding diagonal_over
returns-then-bound-diag c = rw (lt-leb _ _ c.if-bound-diag.true) (record { diag_after = refl; value = refl })

pub loop-i-init : goal.loop-i-init
loop-i-init c = (omega arith, rw c.from-q.ensures (first _ (omega arith)), filled_zero _ _, every_zero _)

pub loop-i-preserved : goal.loop-i-preserved
unfolding diagonal_at
loop-i-preserved c =
    let b = c.args.bound in
    let i = c.loop-i.invariant in (
      i.0,
      rw i.1 (next c.loop-i.i b (omega arith) (omega arith)),
      stored _ _ _ _ _ (omega arith) i.2 (rw i.1),
      rw (i.3, c.is_finite-all.ensures, i.1) (every_suc c.loop-i.i _),
    )

-- the same test of what is stored
tested : (n : ℕ) (f : ℕ → Float) (l : List Float) → l ≡ tab n f → every n (λ i. finite (f i)) ≡ every n (λ i. finite (at l i))
tested n f l e = every_ext n _ _ (λ k h. rw (at_stored l n f k e h))

pub returns : goal.returns
unfolding diagonal_over
returns c =
    let k = c.loop-i.i in
    let i = c.loop-i.invariant in
    let a = c.args in
    let n = length a.diag.now in
    let d : c.loop-i.diag ≡ tab n (diagonal_at a.bound a.alpha a.beta a.eta) = filled_all _ _ _ k _ (omega arith) (omega arith) i.2 in
    rw (le-leb n (rows a.bound) i.0) (record { diag_after = d; value = i.3 ∙ every_at _ _ _ (omega arith) ∙ tested _ _ _ d })
