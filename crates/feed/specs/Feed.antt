-- What is promised of a sheet that is read: no contract can say what its bytes are. Definitions only.
use Rattle.std.specs.Prelude.{ℕ, ◌≤◌, Result, Ok, Err}

-- no more bytes than the buffer has, where no read fails
unfoldable pub Fed : {E : Type 0} → ℕ → Result ℕ E → Type 0
Fed room (Ok n) = n ≤ room
Fed room (Err error) = Unit {0}
