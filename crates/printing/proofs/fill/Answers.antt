-- `printing::fill` meets its contract: a buffer with the room is not refused. Assumes nothing.
use mathlib.Core.Path.{◌≡◌, sym, ◌∙◌}
use Prim.Native.Nat.{ℕ}
use native.Mathlib.Omega.{arith}
use Rattle.sheet.proofs.Fills.{fill_there}
use Rattle.printing.proofs.fill.Goals as goal

pub returns-in-Ok : goal.returns-in-Ok
returns-in-Ok c =
    let w = c.fill_texts in
    record { filled = sym w.ensures.value ∙ c.in-Ok.is; out_after = w.ensures.out_after }

pub returns-in-Err : goal.returns-in-Err
returns-in-Err c =
    let f = fill_there c.args.kind c.args.s.now c.args.at c.args.out.now c.requires in
    let z : ◌≡◌ {A = ℕ} 0 1 = cc (c.fill_texts.ensures.value, c.in-Err.is, f.2) in
    absurd (omega arith)
