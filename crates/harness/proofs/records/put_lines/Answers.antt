use Rattle.std.proofs.Common.{◌≡◌, ◌/◌, length, sym, arith}
use Rattle.harness.proofs.Lines.{lines_more}
use Rattle.harness.proofs.records.put_lines.Goals as goal

pub loop-i-preserved : goal.loop-i-preserved
loop-i-preserved g c = lines_more g.L.PutLine.puts _ _ _ _ _ _ _ _ _ _ _ _ _ _ c.loop-i.invariant c.make_room-used.ensures c.put_line-used.ensures

pub returns : goal.returns
returns g c =
    let all : c.loop-i.i ≡ length c.args.s.now / c.args.sizes.size = omega (arith, c.loop-i.auto.i-end, c.loop-i-test.false) in
    rw (sym all) c.loop-i.invariant
