use Rattle.sheet.proofs.fill.fill_lines.Goals as goal

pub returns : goal.returns
returns c = record { value = c.fill_texts.ensures.value; out_after = c.fill_texts.ensures.out_after }
