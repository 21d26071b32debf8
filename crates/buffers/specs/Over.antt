-- A text at the start of a buffer. Definitions only.
use Rattle.std.specs.Prelude.{ℕ, List, ◌++◌, length, drop}

-- ---- a text at the start of a buffer, whose other bytes stay
unfoldable pub over : List ℕ → List ℕ → List ℕ
over t l = t ++ drop (length t) l
