-- The digits of a word, one at a time. Assumes nothing.
use mathlib.Core.Path.{◌≡◌, sym, ap, ◌∙◌}
use Prim.Native.Nat.{ℕ, zero, suc, ◌+◌, ◌-◌, ◌*◌, ◌/◌, ◌^◌, ◌<◌}
use native.Mathlib.Omega.{arith}
use mathlib.Core.List.{List}
use lib.ListN.{get_or, set}
use Rattle.harness.specs.Texts.{glyph, hex, placed, after}
use Rattle.harness.proofs.Placing.{Copied, copied_more, copied_all}

hex_at : (k i n : ℕ) → i < k → get_or (hex k n) i 0 ≡ glyph (n / 2 ^ (4 * (k - suc i)))
unfolding hex
hex_at zero i n h = absurd (omega arith)
hex_at (suc k) zero n h = let e : suc k - 1 ≡ k = omega arith in rw e
hex_at (suc k) (suc i) n h = let e : suc k - suc (suc i) ≡ k - suc i = omega arith in rw e (hex_at k i n (omega arith))

-- one more digit
pub hex_more : (l : List ℕ) (at n : ℕ) (out : List ℕ) (i x : ℕ) → Copied l at (hex 16 n) out i → i < 16 → x ≡ glyph (n / 2 ^ (60 - 4 * i)) → Copied l at (hex 16 n) (set out (at + i) x) (i + 1)
unfolding hex
hex_more l at n out i x d h e =
    let k : 60 - 4 * i ≡ 4 * (16 - suc i) = omega arith in
    rw (e, ap (λ m. glyph (n / 2 ^ m)) k, sym (hex_at 16 i n h)) (copied_more l at (hex 16 n) out i d (omega arith))

pub hex_all : (l : List ℕ) (at n : ℕ) (out : List ℕ) (i : ℕ) → Copied l at (hex 16 n) out i → i ≡ 16 → (out ≡ placed l at (hex 16 n)) × (at + 16 ≡ after l at (hex 16 n))
unfolding hex
hex_all l at n out i d h = let p = copied_all l at (hex 16 n) out i d (omega arith) in (p.0, ap (λ m. at + m) (sym h) ∙ p.1)
