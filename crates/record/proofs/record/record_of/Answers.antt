-- `record::record::record_of` meets its contract: numbers within their limits are cast as they are. Assumes nothing.
use mathlib.Core.Path.{◌≡◌}
use Prim.Native.Nat.{ℕ, ◌≤◌}
use native.Mathlib.Omega.{arith}
use lib.IntN.{pos}
use mir.Syntax.{w64}
use mir.Val.{SFits, to_z}
use mir.Facts.{to_z-of_z, to_z_pos}
use Rattle.amounts.specs.Amounts.{amount_limit}
use Rattle.record.specs.Record.{record_of}
use Rattle.record.proofs.Limits.{Bounds, bounds}
use Rattle.record.proofs.record.record_of.Goals as goal

amount-fits : (n : ℕ) → n ≤ amount_limit → SFits w64 (pos n)
amount-fits n h = record { sfits = omega arith }

read_back : (n : ℕ) → n ≤ amount_limit → to_z w64 n ≡ pos n
read_back n h = to_z_pos w64 (omega arith)

pub overflow_cast-result : goal.overflow_cast-result
overflow_cast-result c =
    let kept : Bounds c.args.v = bounds c.args.v c.requires in
    amount-fits _ kept.mid

pub overflow_cast-result-2 : goal.overflow_cast-result-2
overflow_cast-result-2 c =
    let kept : Bounds c.args.v = bounds c.args.v c.requires in
    amount-fits _ kept.volatility

pub overflow_cast-result-3 : goal.overflow_cast-result-3
overflow_cast-result-3 c =
    let kept : Bounds c.args.v = bounds c.args.v c.requires in
    amount-fits _ kept.risk

pub overflow_cast-result-4 : goal.overflow_cast-result-4
overflow_cast-result-4 c =
    let kept : Bounds c.args.v = bounds c.args.v c.requires in
    amount-fits _ kept.k

pub overflow_cast-result-5 : goal.overflow_cast-result-5
overflow_cast-result-5 c =
    let kept : Bounds c.args.v = bounds c.args.v c.requires in
    amount-fits _ kept.scale

pub overflow_cast-result-6 : goal.overflow_cast-result-6
overflow_cast-result-6 c =
    let kept : Bounds c.args.v = bounds c.args.v c.requires in
    omega (arith, kept.bound)

pub overflow_cast-result-7 : goal.overflow_cast-result-7
overflow_cast-result-7 c =
    let kept : Bounds c.args.v = bounds c.args.v c.requires in
    amount-fits _ kept.lot

pub overflow_cast-result-8 : goal.overflow_cast-result-8
overflow_cast-result-8 c =
    let kept : Bounds c.args.v = bounds c.args.v c.requires in
    amount-fits _ kept.spread

pub returns : goal.returns
unfolding record_of
returns c =
    let kept : Bounds c.args.v = bounds c.args.v c.requires in
    let b = kept in
    let h : SFits w64 c.holding_of.result = record { sfits = c.holding_of.type_inv } in
    rw (read_back _ b.mid, read_back _ b.volatility, read_back _ b.risk, read_back _ b.k, read_back _ b.scale, read_back _ b.lot, read_back _ b.spread, to_z-of_z h, c.holding_of.ensures)
