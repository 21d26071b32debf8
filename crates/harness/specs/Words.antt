-- Words of eight bytes. A float's are the kit's: `of_bits` reads every NaN's pattern as the one NaN, and `to_bits` writes one for it.
use Rattle.std.specs.Prelude.{ℕ, ◌+◌, ◌*◌, ◌-◌, Bool, true, false, List, ℤ, pos, negsuc, get_or, ltb}

-- the four bytes from j places after a place on, lowest first; a byte past the end counts as 0
abbrev pub four : List ℕ → ℕ → ℕ → ℕ
four s at j =
    get_or s (at + j) 0 + get_or s (at + (j + 1)) 0 * 256 + get_or s (at + (j + 2)) 0 * 65536 + get_or s (at + (j + 3)) 0 * 16777216

-- the eight bytes from a place on
abbrev pub word : List ℕ → ℕ → ℕ
word s at = four s at 0 + four s at 4 * 4294967296

-- the number of a word in two's complement: is it below 2^63; `negsuc n` is minus n, less one
unfoldable pub signed_by : Bool → ℕ → ℤ
signed_by true n = pos n
signed_by false n = negsuc (0xFFFFFFFFFFFFFFFF - n)

unfoldable pub signed : ℕ → ℤ
signed n = signed_by (ltb n 0x8000000000000000) n
