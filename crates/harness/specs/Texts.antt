-- Texts, and what placing one leaves of a buffer.
use Rattle.std.specs.Prelude.{ℕ, zero, suc, ◌+◌, ◌*◌, ◌/◌, ◌%◌, ◌^◌, Bool, true, false, cond, List, [], ◌∷◌, ◌++◌, length, take, drop, ltb, leb}
use Rattle.io.specs.Digits.{last_digits}

-- ---- a text in a buffer
-- do n bytes fit from a place on?
unfoldable pub fits : List ℕ → ℕ → ℕ → Bool
fits l at n = leb (at + n) (length l)

-- the buffer with a text at a place, if it fits
unfoldable pub placed_by : Bool → List ℕ → ℕ → List ℕ → List ℕ
placed_by true l at t = take at l ++ t ++ drop (at + length t) l
placed_by false l at t = l

unfoldable pub placed : List ℕ → ℕ → List ℕ → List ℕ
placed l at t = placed_by (fits l at (length t)) l at t

-- the place after it
unfoldable pub after : List ℕ → ℕ → List ℕ → ℕ
after l at t = cond (fits l at (length t)) (at + length t) at

-- a space and a text, each where it fits, and the place after them
abbrev pub space : List ℕ
space = 32 ∷ []

unfoldable pub spaced : List ℕ → ℕ → List ℕ → List ℕ
spaced l at t = placed (placed l at space) (after l at space) t

unfoldable pub after_spaced : List ℕ → ℕ → List ℕ → ℕ
after_spaced l at t = after (placed l at space) (after l at space) t

-- `R` or `C`, and after it a space and a text
abbrev pub letter_r : List ℕ
letter_r = 82 ∷ []

abbrev pub letter_c : List ℕ
letter_c = 67 ∷ []

unfoldable pub lettered : List ℕ → List ℕ → ℕ → List ℕ → List ℕ
lettered c l at t = spaced (placed l at c) (after l at c) t

unfoldable pub after_lettered : List ℕ → List ℕ → ℕ → List ℕ → ℕ
after_lettered c l at t = after_spaced (placed l at c) (after l at c) t

-- `C`, and after it two texts with a space before each
unfoldable pub capped : List ℕ → ℕ → List ℕ → List ℕ → List ℕ
capped l at t u = spaced (lettered letter_c l at t) (after_lettered letter_c l at t) u

unfoldable pub after_capped : List ℕ → ℕ → List ℕ → List ℕ → ℕ
after_capped l at t u = after_spaced (lettered letter_c l at t) (after_lettered letter_c l at t) u

-- a minus sign, where it is to be, and after it a text
abbrev pub minus : List ℕ
minus = 45 ∷ []

unfoldable pub signed_by : Bool → List ℕ → ℕ → List ℕ → List ℕ
signed_by true l at t = placed (placed l at minus) (after l at minus) t
signed_by false l at t = placed l at t

unfoldable pub after_signed : Bool → List ℕ → ℕ → List ℕ → ℕ
after_signed true l at t = after (placed l at minus) (after l at minus) t
after_signed false l at t = after l at t

-- the place for n bytes after the first ones that are used, which go where they leave none
unfoldable pub room : List ℕ → ℕ → ℕ → ℕ
room l used n = cond (fits l used n) used 0

-- the line of a record that ends inside itself, `R 6`, in that place; is none of its bytes left?
abbrev pub cut_line : List ℕ
cut_line = 82 ∷ 32 ∷ 54 ∷ 10 ∷ []

unfoldable pub cut_by : Bool → List ℕ → ℕ → List ℕ
cut_by true l used = l
cut_by false l used = placed l (room l used 4) cut_line

unfoldable pub after_cut : Bool → List ℕ → ℕ → ℕ
after_cut true l used = used
after_cut false l used = after l (room l used 4) cut_line

-- ---- digits
-- the lowest hex digit of a number: `0` to `9`, then `A` to `F`
unfoldable pub glyph : ℕ → ℕ
glyph n = cond (ltb (n % 16) 10) (48 + n % 16) (55 + n % 16)

-- the last k hex digits of a number, the highest first
unfoldable pub hex : ℕ → ℕ → List ℕ
hex zero n = []
hex (suc k) n = glyph (n / 2 ^ (4 * k)) ∷ hex k n

-- how many of ten's first k powers, from ten on, a number has reached
unfoldable pub reached : ℕ → ℕ → ℕ
reached zero n = 0
reached (suc k) n = cond (leb (10 ^ suc k) n) (suc k) (reached k n)

-- a word in decimal digits, of which there are 20 at the most
unfoldable pub count : ℕ → List ℕ
count n = last_digits 10 (suc (reached 19 n)) n
