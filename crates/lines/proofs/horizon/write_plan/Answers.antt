-- `lines::horizon::write_plan` meets its contract: it writes the line of the plan that it has, which takes at most 64 bytes. Assumes nothing.
use native.Mathlib.Nat.{le_trans}
use native.Mathlib.Omega.{arith}
use Rattle.lines.specs.Lines.{refusal_line, plan_line}
use Rattle.lines.proofs.Widths.{counted_most, cap_most}
use Rattle.lines.proofs.Written.{line_refused, line_written}
use Rattle.lines.proofs.horizon.write_plan.Goals as goal

pub returns-then-line-lt-LEAST_ROOM : goal.returns-then-line-lt-LEAST_ROOM
returns-then-line-lt-LEAST_ROOM c = let p = line_refused _ _ c.if-line-lt-LEAST_ROOM.true in record { value = p.0; line_after = p.1 }

pub write_counted-requires : goal.write_counted-requires
write_counted-requires c = le_trans (counted_most _ _ (omega arith)) c.if-line-lt-LEAST_ROOM.false

pub write_cap-requires : goal.write_cap-requires
write_cap-requires c = le_trans (cap_most _ _ (omega arith)) c.if-line-lt-LEAST_ROOM.false

pub write_counted-requires-in-Refused : goal.write_counted-requires-in-Refused
write_counted-requires-in-Refused c = le_trans (counted_most _ _ (omega arith)) c.if-line-lt-LEAST_ROOM.false

pub returns-in-Steps : goal.returns-in-Steps
unfolding plan_line
returns-in-Steps c =
    rw c.in-Steps.is (let p = line_written _ _ _ _ c.if-line-lt-LEAST_ROOM.false c.write_counted.ensures.line_after c.write_counted.ensures.value in record { value = p.0; line_after = p.1 })

pub returns-in-OverCap : goal.returns-in-OverCap
unfolding plan_line
returns-in-OverCap c =
    rw c.in-OverCap.is (let p = line_written _ _ _ _ c.if-line-lt-LEAST_ROOM.false c.write_cap.ensures.line_after c.write_cap.ensures.value in record { value = p.0; line_after = p.1 })

pub returns-in-Refused : goal.returns-in-Refused
unfolding plan_line refusal_line
returns-in-Refused c =
    rw c.in-Refused.is (let p = line_written _ _ _ _ c.if-line-lt-LEAST_ROOM.false c.write_counted-in-Refused.ensures.line_after c.write_counted-in-Refused.ensures.value in record { value = p.0; line_after = p.1 })
