-- `sheet::text::next_text` meets its contract: at each return the tests that led there, and what was read, say which line is due. Assumes nothing.
use mathlib.Core.Path.{◌≡◌, sym, ap, ◌∙◌}
use lib.ListN.{length}
use Rattle.lines.specs.Lines.{refusal_line}
use Rattle.sheet.specs.Refusals.{long_sheet}
use Rattle.sheet.specs.Sheet.{step_of}
use Rattle.sheet.specs.Inner.{record_text, text_in}
use Rattle.sheet.proofs.Steps.{step_end, step_long, step_read, no_room, no_line, one_text, one_line}
use Rattle.sheet.proofs.text.next_text.Goals as goal

pub returns-then-out-lt-LEAST_ROOM : goal.returns-then-out-lt-LEAST_ROOM
returns-then-out-lt-LEAST_ROOM c = let p = no_room _ _ c.if-out-lt-LEAST_ROOM.true in record { value = p.0; out_after = p.1 }

pub returns-then-at-sheet : goal.returns-then-at-sheet
returns-then-at-sheet c = let p = no_line _ _ c.if-out-lt-LEAST_ROOM.false (step_end _ _ _ _ c.if-at-sheet.true) in record { value = p.0; out_after = p.1 }

pub returns-then-sheet-gt-MOST_BYTES : goal.returns-then-sheet-gt-MOST_BYTES
returns-then-sheet-gt-MOST_BYTES c =
    let a = c.args in
    let z = one_line (text_in a.kind (length a.out.now) a.sheet.now a.at) (refusal_line long_sheet) _ a.out.now _ _ c.if-out-lt-LEAST_ROOM.false (step_long _ _ _ _ c.if-at-sheet.false c.if-sheet-gt-MOST_BYTES.true) c.write_refusal.ensures.value c.write_refusal.ensures.line_after in
    record { value = c.stepped.ensures ∙ z.0; out_after = z.1 }

pub returns-in-Record : goal.returns-in-Record
unfolding step_of
returns-in-Record c =
    let step-there : let a = c.args in text_in a.kind (length a.out.now) a.sheet.now a.at ≡ step_of (record_text a.kind (length a.out.now)) (length a.sheet.now) c.read_as.result = step_read _ _ _ _ c.if-at-sheet.false c.if-sheet-gt-MOST_BYTES.false ∙ ap (step_of _ _) (sym (rw (← c.is_flat.ensures) c.read_as.ensures)) in
    let z = one_text _ _ _ _ _ _ c.if-out-lt-LEAST_ROOM.false (step-there ∙ ap (step_of _ _) c.in-Record.is) c.write_text.ensures.value c.write_text.ensures.out_after in
    record { value = c.stepped-in-Record.ensures ∙ z.0; out_after = z.1 }

pub returns-in-Skipped : goal.returns-in-Skipped
unfolding step_of
returns-in-Skipped c =
    let step-there : let a = c.args in text_in a.kind (length a.out.now) a.sheet.now a.at ≡ step_of (record_text a.kind (length a.out.now)) (length a.sheet.now) c.read_as.result = step_read _ _ _ _ c.if-at-sheet.false c.if-sheet-gt-MOST_BYTES.false ∙ ap (step_of _ _) (sym (rw (← c.is_flat.ensures) c.read_as.ensures)) in
    let b = c.args.out.now in
    let z = one_line _ _ _ b _ _ c.if-out-lt-LEAST_ROOM.false (step-there ∙ ap (step_of _ _) c.in-Skipped.is) c.write_refusal-in-Skipped.ensures.value c.write_refusal-in-Skipped.ensures.line_after in
    record { value = c.stepped-in-Skipped.ensures ∙ z.0; out_after = z.1 }

pub returns-in-Refused : goal.returns-in-Refused
unfolding step_of
returns-in-Refused c =
    let step-there : let a = c.args in text_in a.kind (length a.out.now) a.sheet.now a.at ≡ step_of (record_text a.kind (length a.out.now)) (length a.sheet.now) c.read_as.result = step_read _ _ _ _ c.if-at-sheet.false c.if-sheet-gt-MOST_BYTES.false ∙ ap (step_of _ _) (sym (rw (← c.is_flat.ensures) c.read_as.ensures)) in
    let b = c.args.out.now in
    let z = one_line _ _ _ b _ _ c.if-out-lt-LEAST_ROOM.false (step-there ∙ ap (step_of _ _) c.in-Refused.is) c.write_refusal-in-Refused.ensures.value c.write_refusal-in-Refused.ensures.line_after in
    record { value = c.stepped-in-Refused.ensures ∙ z.0; out_after = z.1 }
