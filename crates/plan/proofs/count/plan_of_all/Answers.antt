-- A diagonal that is finite has the first plan of its rows; any other has none. Assumes nothing.
use Rattle.std.proofs.Common.{◌≡◌, length, take, sym, ◌∙◌, le_refl, arith}
use Rattle.elementary.specs.Float.{finite}
use Rattle.operator.specs.Vectors.{tab, at, every}
use Rattle.operator.specs.Operator.{rows, diagonal_at}
use Rattle.operator.proofs.Slices.{diagonal_over_lem, diagonal_fine}
use Rattle.plan.proofs.Room.{blank_length, stored_part}
use Rattle.plan.proofs.Ahead.{all_rows, no_rows}
use Rattle.plan.proofs.count.plan_of_all.Goals as goal

pub returns-then-fill_shifted_diagonal : goal.returns-then-fill_shifted_diagonal
returns-then-fill_shifted_diagonal c =
    let length-of : let n = rows c.args.input.bound in length (take n c.zeros-diag.result) ≡ n = blank_length _ _ c.zeros-diag.ensures (omega (arith, c.requires.1)) in
    let diagonal : let a = c.args.input in c.fill_shifted_diagonal.new.diag ≡ tab (rows a.bound) (diagonal_at a.bound a.alpha a.beta a.eta) = diagonal_over_lem _ _ _ _ _ _ _ length-of (le_refl _) c.fill_shifted_diagonal.ensures.diag_after in
    let fine : let a = c.args.input in c.fill_shifted_diagonal.result ≡ every (rows a.bound) (λ i. finite (at (tab (rows a.bound) (diagonal_at a.bound a.alpha a.beta a.eta)) i)) = diagonal_fine _ _ _ _ _ _ _ length-of (le_refl _) c.fill_shifted_diagonal.ensures.diag_after _ c.fill_shifted_diagonal.ensures.value in
    c.plan_of_rows.ensures ∙ all_rows _ _ (stored_part _ _ _ _ diagonal) (sym fine ∙ c.if-fill_shifted_diagonal.true)

pub returns : goal.returns
returns c =
    let length-of : let n = rows c.args.input.bound in length (take n c.zeros-diag.result) ≡ n = blank_length _ _ c.zeros-diag.ensures (omega (arith, c.requires.1)) in
    let fine : let a = c.args.input in c.fill_shifted_diagonal.result ≡ every (rows a.bound) (λ i. finite (at (tab (rows a.bound) (diagonal_at a.bound a.alpha a.beta a.eta)) i)) = diagonal_fine _ _ _ _ _ _ _ length-of (le_refl _) c.fill_shifted_diagonal.ensures.diag_after _ c.fill_shifted_diagonal.ensures.value in
    no_rows _ (sym fine ∙ c.if-fill_shifted_diagonal.false)
