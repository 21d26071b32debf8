-- What a function of document 01 answers: a value, or a refusal that carries its number alone. Definitions only.
use Rattle.std.specs.Prelude.{ℕ, Bool, true, false}

pub data Reply (A : Type 0) : Type 0 where
  value : A → Reply A
  refusal : ℕ → Reply A

-- the value where the test passes, else the refusal
unfoldable pub given : {A : Type 0} → Bool → ℕ → Reply A → Reply A
given true n r = r
given false n r = refusal n
