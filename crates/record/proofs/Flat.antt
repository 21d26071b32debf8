-- A record read with its holding, or with one of 0 in its place. Assumes nothing.
use mathlib.Core.Path.{◌≡◌, refl, ap}
use Prim.Native.Nat.{ℕ}
use mathlib.Core.Bool.{false}
use mathlib.Core.List.{List}
use lib.ListN.{length, drop}
use Rattle.record.specs.Record.{Read, taken, refused, numbers, fields, record_from, as_held, held_as, read_as, read_record}

held_same : (x : Read (List ℕ)) → held_as false x ≡ x
unfolding held_as as_held
held_same (taken v rest) = refl
held_same (refused k) = refl

-- with its holding it is the record
pub as_it_is : (s : List ℕ) (at : ℕ) → read_as false s at ≡ read_record s at
unfolding read_as read_record
as_it_is s at = ap (record_from (length s)) (held_same (numbers fields (drop at s)))
