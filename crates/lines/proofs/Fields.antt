-- A line: its letter and a space, and then each field with the byte that ends it. Assumes nothing.
use mathlib.Core.Path.{◌≡◌}
use Prim.Native.Nat.{ℕ, ◌+◌, ◌-◌, ◌<◌, ◌≤◌}
use native.Mathlib.Omega.{arith}
use mathlib.Core.List.{List, [], ◌∷◌, ◌++◌, append_assoc}
use lib.ListN.{length, set}
use Rattle.buffers.proofs.Texts.{Wrote, wrote_none, wrote_byte, wrote_part}
use borrow.Rule.Slice.PartMut.{mid_of, put_mid}
use Rattle.lines.specs.Lines.{joined}
use Rattle.buffers.specs.Over.{over}

-- ---- a line: its letter and a space, and then each field with the byte that ends it
abbrev pub lettered : List ℕ → ℕ → List ℕ
lettered l x = set (set l 0 x) 1 32

pub wrote_letter : (l : List ℕ) (x : ℕ) → 2 ≤ length l → Wrote l (x ∷ 32 ∷ []) (lettered l x) 2
wrote_letter l x h = wrote_byte l (x ∷ []) _ 1 32 (wrote_byte l [] l 0 x (wrote_none l) (omega arith)) (omega arith)

-- the part that was lent at a place is back, with n bytes written, and x goes after them
abbrev pub fielded : List ℕ → ℕ → List ℕ → ℕ → ℕ → List ℕ
fielded out at part n x = set (put_mid at (length out - at) out part) (at + n) x

pub wrote_field : (l t u out part : List ℕ) (at n x : ℕ) → Wrote l t out at → part ≡ over u (mid_of at (length out - at) out) → n ≡ length u → at + n < length l
    → Wrote l (t ++ u ++ (x ∷ [])) (fielded out at part n x) (at + n + 1)
wrote_field l t u out part at n x w e k h = wrote_byte l (t ++ u) _ (at + n) x (wrote_part l t u out part at n w e k) h

-- the fields as the definition joins them
pub two_fields : (a : ℕ) (x y : List ℕ) → (a ∷ 32 ∷ []) ++ x ++ (32 ∷ []) ++ y ++ (10 ∷ []) ≡ joined (a ∷ []) (x ∷ y ∷ [])
unfolding joined
two_fields a x y = simp append_assoc

pub three_fields : (a : ℕ) (x y z : List ℕ) → (a ∷ 32 ∷ []) ++ x ++ (32 ∷ []) ++ y ++ (32 ∷ []) ++ z ++ (10 ∷ []) ≡ joined (a ∷ []) (x ∷ y ∷ z ∷ [])
unfolding joined
three_fields a x y z = simp append_assoc
