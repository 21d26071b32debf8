-- What the crate's own functions hand each other. No public contract cites this file. Definitions only.
use Rattle.std.specs.Prelude.{◌≡◌, ℕ, ◌<◌, ◌≤◌, List, length, drop, Result, Ok, Err}
use Rattle.record.specs.Record.{Read, taken, refused, number}
use Rattle.elementary.specs.declared.Refusal.{Refusal}

-- the number at a place, and the place after it
unfoldable pub NumberIs : List ℕ → ℕ → Result (ℕ × ℕ) Refusal → Type 0
NumberIs s at (Ok (n, next)) = (number (drop at s) ≡ taken n (drop next s)) × (next ≤ length s)
NumberIs s at (Err r) = (number (drop at s) ≡ refused r.0) × (0 < r.0)

-- several numbers where they go; a refusal says nothing of it
unfoldable pub Stored : Read (List ℕ) → List ℕ → Type 0
Stored (taken v rest) out = out ≡ v
Stored (refused k) out = Unit {0}
