-- `record::record::read_as` meets its contract: the numbers that it takes are the definition's, and the answer says where the next record is. Assumes nothing.
use mathlib.Core.Path.{◌≡◌, sym, ◌∙◌}
use Prim.Native.Nat.{ℕ, ◌-◌}
use mathlib.Core.Bool.{Bool}
use mathlib.Core.List.{List}
use lib.ListN.{length, drop}
use Rattle.record.specs.Record.{taken, numbers, fields, record_by, record_from, held_as, as_held, read_as}
use Rattle.record.proofs.Reading.{taken_parts, refused_parts}
use Rattle.record.proofs.record.read_as.Goals as goal

read_taken : (flat : Bool) (s : List ℕ) (at : ℕ) (v r : List ℕ) (next : ℕ) → numbers fields (drop at s) ≡ taken v r → next ≡ length s - length r → read_as flat s at ≡ record_by (as_held flat v) next
unfolding read_as record_from held_as
read_taken flat s at v r next e k = rw (e, k)

pub returns-in-Ok : goal.returns-in-Ok
returns-in-Ok c =
    let parts : let a = c.args in let v = c.take_numbers.new.out in (r : List ℕ) × (numbers fields (drop a.at a.sheet.now) ≡ taken v r) × (c.in-Ok.next ≡ length a.sheet.now - length r) = taken_parts _ _ _ _ (sym c.in-Ok.is ∙ c.take_numbers.ensures.value) c.take_numbers.ensures.stored in
    let p = parts in
    rw (read_taken _ _ _ _ _ _ p.1 p.2, ← c.numbers_of.ensures, c.record_of_numbers.ensures)

pub returns-in-Err : goal.returns-in-Err
unfolding read_as record_from held_as
returns-in-Err c = rw (refused_parts _ _ _ (sym c.in-Err.is ∙ c.take_numbers.ensures.value))
