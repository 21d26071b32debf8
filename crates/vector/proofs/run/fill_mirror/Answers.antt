-- The entries so far are those of `filled_out`; what is read stands before row n, and has not changed. Assumes nothing.
use mathlib.Core.Path.{◌≡◌, sym, ap, ◌∙◌}
use Prim.Native.Nat.{ℕ, ◌-◌, ◌≤◌, ◌<◌}
use native.Mathlib.Omega.{arith}
use mathlib.Core.Bool.{Bool, cond}
use mathlib.Core.List.{List}
use borrow.Author.Tests.{lt-ltb, le-ltb}
use lib.ListN.{length}
use lib.Ieee.{Float}
use Rattle.operator.specs.Vectors.{at}
use Rattle.series.specs.Half.{filled_out}
use Rattle.operator.proofs.Loops.{filled_kept, stored, filled_all, at_filled_before}
use Rattle.vector.proofs.run.fill_mirror.Invariants.{entry}
use Rattle.vector.proofs.run.fill_mirror.Goals as goal

kept : (x : List Float) (n i : ℕ) → i < n → at x i ≡ entry x n i
kept x n i h = sym (ap (λ (t : Bool). cond t (at x i) (at x (length x - 1 - i))) (lt-ltb i n h))

taken : (x : List Float) (n i : ℕ) → n ≤ i → at x (length x - 1 - i) ≡ entry x n i
taken x n i h = sym (ap (λ (t : Bool). cond t (at x i) (at x (length x - 1 - i))) (le-ltb i n h))

pub loop-i-init : goal.loop-i-init
loop-i-init c = let x = c.args.x.now in filled_kept (entry x c.args.n) x c.args.n (omega arith) (kept x c.args.n)

pub loop-i-preserved : goal.loop-i-preserved
loop-i-preserved c =
    let a = c.args in
    let x = a.x.now in
    let i = c.loop-i.i in
    let v = c.loop-i.invariant in
    let far = length x - 1 - i in
    let same : at c.loop-i.x far ≡ at x far = ap (λ (m : List Float). at m far) v ∙ at_filled_before (entry x a.n) x i far (omega arith) ∙ sym (kept x a.n far (omega arith)) in
    stored (entry x a.n) x _ i _ (omega arith) v (same ∙ taken x a.n i (omega arith))

pub returns : goal.returns
unfolding filled_out
returns c = let a = c.args in filled_all (entry a.x.now a.n) a.x.now _ c.loop-i.i _ (omega arith) (omega arith) c.loop-i.invariant
