-- The last row has what it is given. Assumes nothing.
use mathlib.Core.Path.{◌∙◌}
use Prim.Native.Nat.{suc}
use native.Mathlib.Numerals.{add-one}
use native.Mathlib.Omega.{arith}
use borrow.Author.Tests.{lt-ltb, le-ltb}
use lib.ListN.{length}
use Rattle.operator.proofs.factors.right_factor.Goals as goal

pub returns-then-i-o : goal.returns-then-i-o
returns-then-i-o c =
    let i = c.args.i in
    let o = c.args.o.now in
    c.factor.ensures ∙ rw (lt-ltb (suc i) (length o) (omega arith), add-one i)

pub returns : goal.returns
returns c = rw (le-ltb (suc c.args.i) (length c.args.o.now) (omega arith))
