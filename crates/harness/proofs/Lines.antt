-- One more line of a record, and the lines of one more block. Assumes nothing.
use Rattle.std.proofs.Common.{◌≡◌, ℕ, suc, ◌+◌, ◌*◌, List, subst, sym}
use native.Mathlib.Numerals.{add-one}
use Rattle.harness.specs.Texts.{room}
use Rattle.harness.specs.Records.{Putter, LinesPut, BlockPut, BlocksPut}

pub lines_more : {F : Type 0} (g : Putter F) (s : List ℕ) (size longest n : ℕ) (f : F) (l : List ℕ) (used : ℕ) (m : F) (k : List ℕ) (u x : ℕ) (f' : F) (l' : List ℕ) (used' : ℕ)
    → LinesPut g s size longest n f l used m k u → x ≡ room k u longest → g m k x s (n * size) f' l' used' → LinesPut g s size longest (n + 1) f l used f' l' used'
lines_more g s size longest n f l used m k u x f' l' used' h e p =
    subst (λ i. LinesPut g s size longest i f l used f' l' used') (sym (add-one n)) (m, k, u, h, subst (λ y. g m k y s (n * size) f' l' used') e p)

pub blocks_more : {F : Type 0} (g : Putter F) (size longest n : ℕ) (f m f' : F) → BlocksPut g size longest n f m → BlockPut g size longest m f' → BlocksPut g size longest (suc n) f f'
blocks_more g size longest n f m f' h p = (m, h, p)
