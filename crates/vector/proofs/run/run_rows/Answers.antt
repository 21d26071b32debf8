-- The run of the first n rows is the run of all that they stand for. Assumes nothing.
use mathlib.Core.Path.{◌≡◌, refl, sym, ◌∙◌}
use Prim.Native.Nat.{◌≤◌}
use native.Mathlib.Omega.{arith}
use lib.ListN.{length, take}
use Rattle.elementary.specs.Float.{finite}
use Rattle.operator.specs.Vectors.{tab, at, every}
use Rattle.operator.specs.Operator.{diagonal_at}
use Rattle.operator.proofs.Slices.{diagonal_over_lem, diagonal_fine}
use Rattle.plan.specs.Plan.{room}
use Rattle.vector.specs.Inner.{EndIs}
use Rattle.plan.proofs.Room.{blank_length, stored_part, stored_length}
use Rattle.vector.proofs.FullRun.{run_full, run_full_refused}
use Rattle.vector.proofs.run.run_rows.Goals as goal

pub returns-then-fill_shifted_diagonal : goal.returns-then-fill_shifted_diagonal
returns-then-fill_shifted_diagonal c =
    let few : c.args.n ≤ room = omega (arith, c.requires.start.1, c.requires.start.2) in
    let length-of : let n = c.args.n in length (take n c.zeros-diag_s.result) ≡ n = blank_length _ _ c.zeros-diag_s.ensures few in
    let diagonal : let a = c.args in c.fill_shifted_diagonal.new.diag ≡ tab a.n (diagonal_at a.input.bound a.input.alpha a.input.beta a.input.eta) = diagonal_over_lem _ _ _ _ _ _ _ length-of c.requires.start.1 c.fill_shifted_diagonal.ensures.diag_after in
    let fine : let a = c.args in c.fill_shifted_diagonal.result ≡ every a.n (λ i. finite (at (tab a.n (diagonal_at a.input.bound a.input.alpha a.input.beta a.input.eta)) i)) = diagonal_fine _ _ _ _ _ _ _ length-of c.requires.start.1 c.fill_shifted_diagonal.ensures.diag_after _ c.fill_shifted_diagonal.ensures.value in
    run_full c.args.half _ _ (omega (arith, c.requires.start.0)) c.requires.rows_stand c.requires.start.3 _ _ _ _ _ (stored_part _ _ _ _ diagonal) c.requires.start.5 (sym fine ∙ c.if-fill_shifted_diagonal.true) (rw (stored_length _ _ _ _ diagonal) at c.run_plans.ensures)

pub returns : goal.returns
unfolding EndIs
returns c =
    let few : c.args.n ≤ room = omega (arith, c.requires.start.1, c.requires.start.2) in
    let length-of : let n = c.args.n in length (take n c.zeros-diag_s.result) ≡ n = blank_length _ _ c.zeros-diag_s.ensures few in
    let fine : let a = c.args in c.fill_shifted_diagonal.result ≡ every a.n (λ i. finite (at (tab a.n (diagonal_at a.input.bound a.input.alpha a.input.beta a.input.eta)) i)) = diagonal_fine _ _ _ _ _ _ _ length-of c.requires.start.1 c.fill_shifted_diagonal.ensures.diag_after _ c.fill_shifted_diagonal.ensures.value in
    rw (run_full_refused c.args.half _ _ (omega (arith, c.requires.start.0)) c.requires.rows_stand c.requires.start.3 (sym fine ∙ c.if-fill_shifted_diagonal.false)) refl
