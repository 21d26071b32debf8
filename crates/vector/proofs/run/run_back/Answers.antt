-- The arrays are filled out with what mirrors the first n rows. Assumes nothing.
use mathlib.Core.Path.{◌≡◌, ◌∙◌}
use Prim.Native.Nat.{ℕ, ◌≤◌}
use native.Mathlib.Omega.{arith}
use mathlib.Core.Bool.{Bool}
use mathlib.Core.List.{List, ◌++◌}
use lib.ListN.{length, drop, length-replicate}
use lib.Ieee.{Float}
use Rattle.elementary.specs.Float.{0ᶠ, 1ᶠ}
use Rattle.operator.specs.Vectors.{fill}
use Rattle.plan.specs.Plan.{Ended, vector, over_cap, failed, room}
use Rattle.operator.specs.Operator.{rows}
use Rattle.vector.specs.Values.{padded, blank_vector, refused_vector, vector_by}
use Rattle.vector.specs.Inner.{EndIs}
use Rattle.series.specs.Half.{full_size}
use Rattle.vector.specs.declared.ValueVector.{ValueVector}
use Rattle.vector.specs.declared.Outcome.{Outcome}
use Rattle.vector.specs.declared.Outcome.TheVariants.{Done}
use Rattle.vector.proofs.Room.{lent, length_lent, back, own_w, own_o}
use Rattle.vector.proofs.RunLaws.{done}
use Rattle.vector.proofs.FullRun.{out_asks, out_is}
use Rattle.vector.proofs.run.run_back.Goals as goal

-- a run that is not done leaves the blank vector
not_done : (n : ℕ) (r : Ended) (q : Outcome) (w o : List Float) (v : ValueVector) → EndIs r q w o → ((x : ℕ) → q ≡ Done x → ⊥) → v ≡ blank_vector → record { outcome = q; vector = v } ≡ vector_by n r
unfolding EndIs vector_by refused_vector
not_done n (vector w' o' s) q w o v h k e = absurd (k _ h.0)
not_done n (over_cap need c) q w o v h k e = rw (h, e)
not_done n (failed s) q w o v h k e = rw (h, e)

pub run_rows-outcome-requires : goal.run_rows-outcome-requires
run_rows-outcome-requires c =
    let weights : c.args.v.w ≡ padded c.args.n (fill c.args.n 1ᶠ) = own_w _ _ _ _ c.requires.start.4 in
    let offsets : c.args.v.log_offset ≡ padded c.args.n (fill c.args.n 0ᶠ) = own_o _ _ _ _ c.requires.start.4 in
    let ones : length (fill c.args.n 1ᶠ) ≡ c.args.n = length-replicate c.args.n 1ᶠ in
    let zeros : length (fill c.args.n 0ᶠ) ≡ c.args.n = length-replicate c.args.n 0ᶠ in
    let p = c.requires.start in
    record { start = (p.0, p.1, p.2, p.3, lent _ _ _ weights ones, lent _ _ _ offsets zeros); rows_stand = c.requires.rows_stand }

pub fill_mirror-requires : goal.fill_mirror-requires
fill_mirror-requires c =
    let half : Bool = c.args.half in
    let first : ℕ = c.args.n in
    let weights : c.args.v.w ≡ padded c.args.n (fill c.args.n 1ᶠ) = own_w _ _ _ _ c.requires.start.4 in
    let ones : length (fill c.args.n 1ᶠ) ≡ c.args.n = length-replicate c.args.n 1ᶠ in
    let weights-back : c.run_rows-outcome.new.w ++ drop first c.args.v.w ≡ padded first c.run_rows-outcome.new.w = back _ _ _ weights ones _ in
    let weights-long : length c.run_rows-outcome.new.w ≡ first = c.run_rows-outcome.auto.w ∙ length_lent _ _ _ weights ones in
    let some : 1 ≤ first = omega (arith, c.requires.start.0) in
    let sized : full_size half first ≡ rows c.args.input.bound = c.requires.rows_stand.sized in
    let within : rows c.args.input.bound ≤ room = omega (arith, c.requires.start.2) in
    out_asks half _ _ _ weights-back weights-long some _ sized within

pub fill_mirror-requires-in-Done : goal.fill_mirror-requires-in-Done
fill_mirror-requires-in-Done c =
    let half : Bool = c.args.half in
    let first : ℕ = c.args.n in
    let offsets : c.args.v.log_offset ≡ padded c.args.n (fill c.args.n 0ᶠ) = own_o _ _ _ _ c.requires.start.4 in
    let zeros : length (fill c.args.n 0ᶠ) ≡ c.args.n = length-replicate c.args.n 0ᶠ in
    let offsets-back : c.run_rows-outcome.new.o ++ drop first c.args.v.log_offset ≡ padded first c.run_rows-outcome.new.o = back _ _ _ offsets zeros _ in
    let offsets-long : length c.run_rows-outcome.new.o ≡ first = c.run_rows-outcome.auto.o ∙ length_lent _ _ _ offsets zeros in
    let some : 1 ≤ first = omega (arith, c.requires.start.0) in
    let sized : full_size half first ≡ rows c.args.input.bound = c.requires.rows_stand.sized in
    let within : rows c.args.input.bound ≤ room = omega (arith, c.requires.start.2) in
    out_asks half _ _ _ offsets-back offsets-long some _ sized within

pub returns-in-Done : goal.returns-in-Done
returns-in-Done c =
    let half : Bool = c.args.half in
    let first : ℕ = c.args.n in
    let weights : c.args.v.w ≡ padded c.args.n (fill c.args.n 1ᶠ) = own_w _ _ _ _ c.requires.start.4 in
    let ones : length (fill c.args.n 1ᶠ) ≡ c.args.n = length-replicate c.args.n 1ᶠ in
    let weights-back : c.run_rows-outcome.new.w ++ drop first c.args.v.w ≡ padded first c.run_rows-outcome.new.w = back _ _ _ weights ones _ in
    let offsets : c.args.v.log_offset ≡ padded c.args.n (fill c.args.n 0ᶠ) = own_o _ _ _ _ c.requires.start.4 in
    let zeros : length (fill c.args.n 0ᶠ) ≡ c.args.n = length-replicate c.args.n 0ᶠ in
    let offsets-back : c.run_rows-outcome.new.o ++ drop first c.args.v.log_offset ≡ padded first c.run_rows-outcome.new.o = back _ _ _ offsets zeros _ in
    let weights-long : length c.run_rows-outcome.new.w ≡ first = c.run_rows-outcome.auto.w ∙ length_lent _ _ _ weights ones in
    let offsets-long : length c.run_rows-outcome.new.o ≡ first = c.run_rows-outcome.auto.o ∙ length_lent _ _ _ offsets zeros in
    let some : 1 ≤ first = omega (arith, c.requires.start.0) in
    let sized : full_size half first ≡ rows c.args.input.bound = c.requires.rows_stand.sized in
    let within : rows c.args.input.bound ≤ room = omega (arith, c.requires.start.2) in
    done _ _ _ _ _ _ _ _ c.run_rows-outcome.ensures c.in-Done.is
    (out_is half _ _ _ weights-back weights-long some _ sized within _ c.fill_mirror.ensures)
    (out_is half _ _ _ offsets-back offsets-long some _ sized within _ c.fill_mirror-in-Done.ensures)

pub returns : goal.returns
returns c =
    not_done _ _ _ _ _ _ c.run_rows-outcome.ensures c.in_default.not-Done c.blank.ensures
