use Rattle.lines.proofs.Written.{line_is}
use Rattle.sheet.specs.Sheet.{record_line}
use Rattle.sheet.specs.Horizon.{record_plan}
use Rattle.sheet.specs.Inner.{record_text}
use Rattle.sheet.proofs.text.write_text.Goals as goal

pub returns-in-Line : goal.returns-in-Line
unfolding record_text
returns-in-Line c =
    rw (c.in-Line.is, ← line_is (record_line c.args.r) c.args.out.now c.requires) (record { value = c.write_record.ensures.value; out_after = c.write_record.ensures.line_after })

pub returns-in-Ladder : goal.returns-in-Ladder
unfolding record_text
returns-in-Ladder c =
    rw c.in-Ladder.is (record { value = c.write_record_ladder.ensures.value; out_after = c.write_record_ladder.ensures.out_after })

pub returns-in-Plan : goal.returns-in-Plan
unfolding record_text
returns-in-Plan c =
    rw (c.in-Plan.is, ← line_is (record_plan c.args.r) c.args.out.now c.requires) (record { value = c.write_record_plan.ensures.value; out_after = c.write_record_plan.ensures.line_after })
