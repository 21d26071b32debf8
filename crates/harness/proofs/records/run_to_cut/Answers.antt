use Rattle.std.proofs.Common.{suc, refl}
use Rattle.harness.proofs.Lines.{blocks_more}
use Rattle.harness.proofs.records.run_to_cut.Goals as goal

pub loop-init : goal.loop-init
loop-init g c = (0, refl)

pub returns-then-not-run_block : goal.returns-then-not-run_block
returns-then-not-run_block g c = (suc c.loop.invariant.0, blocks_more g.L.PutLine.puts c.args.sizes.size c.args.sizes.line c.loop.invariant.0 c.args.lines.now c.loop.lines c.run_block.new.lines c.loop.invariant.1 c.run_block.ensures)

pub loop-preserved : goal.loop-preserved
loop-preserved g c = (suc c.loop.invariant.0, blocks_more g.L.PutLine.puts c.args.sizes.size c.args.sizes.line c.loop.invariant.0 c.args.lines.now c.loop.lines c.run_block.new.lines c.loop.invariant.1 c.run_block.ensures)

pub returns : goal.returns
returns g c = c.loop.invariant
