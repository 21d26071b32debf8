-- The line of an exact call: a letter, and fields with a space before each. Definitions only.
use Rattle.std.specs.Prelude.{ℕ, List, [], ◌∷◌, nat_abs, Float, Option, Some, None, ℤ}
use Rattle.std.specs.Float.{binary64}
use Rattle.std.specs.Float.Ieee.{to_bits}
use Rattle.io.specs.Digits.{last_digits}
use Rattle.harness.specs.Texts.{placed, after, spaced, after_spaced, letter_r, letter_c, count}
use Rattle.prices.specs.declared.GlftQuotes.{GlftQuotes}
use Rattle.quote.specs.declared.ExactQuotes.{ExactQuotes}
use Rattle.quote.specs.declared.ExactQuotes.TheVariants.{Quotes, OverStepCap, Refused}

-- ---- fields in a buffer
-- a space and a text, each where it fits, for each text in turn, and the place after them
unfoldable pub fields : List ℕ → ℕ → List (List ℕ) → List ℕ
fields l at [] = l
fields l at (t ∷ ts) = fields (spaced l at t) (after_spaced l at t) ts

unfoldable pub after_fields : List ℕ → ℕ → List (List ℕ) → ℕ
after_fields l at [] = at
after_fields l at (t ∷ ts) = after_fields (spaced l at t) (after_spaced l at t) ts

-- a letter and after it fields, and the place after them
unfoldable pub lined : List ℕ → List ℕ → ℕ → List (List ℕ) → List ℕ
lined c l at ts = fields (placed l at c) (after l at c) ts

unfoldable pub after_lined : List ℕ → List ℕ → ℕ → List (List ℕ) → ℕ
after_lined c l at ts = after_fields (placed l at c) (after l at c) ts

-- ---- texts
-- a float's pattern in 16 hex digits, in lower case
unfoldable pub float_text : Float → List ℕ
float_text x = last_digits 16 16 (to_bits binary64 x)

-- a price's size in decimal digits, or `-` where it is absent
unfoldable pub price_text : Option ℤ → List ℕ
price_text (Some x) = count (nat_abs x)
price_text None = 45 ∷ []

-- ---- lines
abbrev pub letter_q : List ℕ
letter_q = 81 ∷ []

-- bid and ask; then with the steps; the steps needed, the budget left and the steps spent
abbrev pub quote_texts : GlftQuotes → List (List ℕ)
quote_texts q = price_text q.bid ∷ price_text q.ask ∷ []

abbrev pub counted_texts : GlftQuotes → ℕ → List (List ℕ)
counted_texts q s = price_text q.bid ∷ price_text q.ask ∷ count s ∷ []

abbrev pub cap_texts : Float → ℕ → ℕ → List (List ℕ)
cap_texts x b s = float_text x ∷ count b ∷ count s ∷ []

-- an exact call's letter and fields; a refusal's field is its number
unfoldable pub exact_letter : ExactQuotes → List ℕ
exact_letter (Quotes q s) = letter_q
exact_letter (OverStepCap x b s) = letter_c
exact_letter (Refused n) = letter_r

unfoldable pub exact_texts : ExactQuotes → List (List ℕ)
exact_texts (Quotes q s) = counted_texts q s
exact_texts (OverStepCap x b s) = cap_texts x b s
exact_texts (Refused r) = count r.0 ∷ []
