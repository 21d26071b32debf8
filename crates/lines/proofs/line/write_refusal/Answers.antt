-- `lines::line::write_refusal` meets its contract: a refusal's line takes at most 64 bytes. Assumes nothing.
use native.Mathlib.Nat.{le_trans}
use native.Mathlib.Omega.{arith}
use Rattle.lines.specs.Lines.{refusal_line}
use Rattle.lines.proofs.Widths.{counted_most}
use Rattle.lines.proofs.Written.{line_refused, line_written}
use Rattle.lines.proofs.line.write_refusal.Goals as goal
use Prim.Native.Nat.{◌<◌}
use borrow.Author.Rules.{rules}

pub returns-then-line-lt-LEAST_ROOM : goal.returns-then-line-lt-LEAST_ROOM
returns-then-line-lt-LEAST_ROOM c = let p = line_refused _ _ c.if-line-lt-LEAST_ROOM.true in record { value = p.0; line_after = p.1 }

pub write_counted-requires : goal.write_counted-requires
write_counted-requires c = let small : c.args.refusal.0 < 256 = search rules in le_trans (counted_most 82 _ (omega (arith, small))) c.if-line-lt-LEAST_ROOM.false

pub returns : goal.returns
unfolding refusal_line
returns c =
    let p = line_written _ _ _ _ c.if-line-lt-LEAST_ROOM.false c.write_counted.ensures.line_after c.write_counted.ensures.value in record { value = p.0; line_after = p.1 }
