use native.Mathlib.Omega.{arith}
use lib.ListN.{length-map}
use Rattle.table.specs.Table.{bits}
use Rattle.table.proofs.Stores.{bits_none, bits_more}
use Rattle.table.proofs.writing.write_bits.Goals as goal

pub loop-i-init : goal.loop-i-init
loop-i-init c = bits_none _ c.args.floats.now c.requires

pub loop-i-preserved : goal.loop-i-preserved
loop-i-preserved c = bits_more _ c.args.floats.now _ _ _ c.loop-i.invariant (omega (arith, length-map c.args.floats.now bits)) c.bits_of.ensures
