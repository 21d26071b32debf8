use mathlib.Core.Path.{ap, ◌∙◌}
use lib.ListN.{length}
use Rattle.sheet.specs.Sheet.{Step, answered, left}
use Rattle.lines.specs.Lines.{has_room}
use Rattle.sheet.proofs.Texts.{as_line}
use Rattle.sheet.proofs.line.next_line.Goals as goal

pub returns : goal.returns
returns c =
    let a = c.args in
    let b = a.line.now in
    let e = c.next_text.ensures in
    let same = as_line (length b) a.sheet.now a.at in
    record { value = e.value ∙ ap (answered (has_room b)) same; line_after = e.out_after ∙ ap (λ (x : Step). left (has_room b) x b) same }
