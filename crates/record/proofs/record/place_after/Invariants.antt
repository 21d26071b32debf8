-- `record::record::place_after` meets its contract. The loop's invariant: so many numbers are passed. Assumes nothing.
use Prim.Native.Nat.{ℕ}
use mathlib.Core.List.{List}
use Rattle.record.proofs.Reading.{Passed}
use Rattle.record.proofs.record.place_after.Given as goal

abbrev pub invariant-loop : goal.invariant-loop
invariant-loop l = (values : List ℕ) × Passed l.s l.at l.n values l.next l.counter
