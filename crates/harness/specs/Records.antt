-- The lines of records, one after the other, as calls put them. Definitions only.
use Rattle.std.specs.Prelude.{◌≡◌, ℕ, zero, suc, ◌*◌, ◌/◌, List, length}
use Rattle.harness.specs.Texts.{room}

-- what an F says of a call: F, the buffer and the place in it before, the bytes and the record's place in them; then F, the buffer and the place in it after
abbrev pub Putter : Type 0 → Type 1
Putter F = F → List ℕ → ℕ → List ℕ → ℕ → F → List ℕ → ℕ → Type 0

module _ {F : Type 0} (g : Putter F) (s : List ℕ) where
  -- the lines of the first n records of so many bytes, each where there is room for the longest
  abbrev pub LinesPut : (size longest n : ℕ) (f : F) (l : List ℕ) (used : ℕ) (f' : F) (l' : List ℕ) (used' : ℕ) → Type 0
  LinesPut size longest zero f l used f' l' used' = (f ≡ f') × (l ≡ l') × (used ≡ used')
  LinesPut size longest (suc n) f l used f' l' used' =
      (m : F) × (k : List ℕ) × (u : ℕ) × LinesPut size longest n f l used m k u × g m k (room k u longest) s (n * size) f' l' used'

module _ {F : Type 0} (g : Putter F) (size longest : ℕ) where
  -- the lines of the records of a block, from the start of a buffer: what f is then
  abbrev pub BlockPut : (f f' : F) → Type 0
  BlockPut f f' = (s : List ℕ) × (l : List ℕ) × (l' : List ℕ) × (used : ℕ) × LinesPut g s size longest (length s / size) f l 0 f' l' used

  -- those of n blocks, one after the other
  abbrev pub BlocksPut : (n : ℕ) (f f' : F) → Type 0
  BlocksPut zero f f' = f ≡ f'
  BlocksPut (suc n) f f' = (m : F) × BlocksPut n f m × BlockPut m f'
