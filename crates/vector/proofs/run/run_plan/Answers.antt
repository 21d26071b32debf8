-- A plan and its steps lead from one plan to the next. Assumes nothing.
use mathlib.Core.Path.{◌≡◌, refl, ap, ◌∙◌}
use Prim.Native.Nat.{ℕ}
use mathlib.Core.List.{◌++◌}
use lib.ListN.{length, take, drop}
use Rattle.plan.proofs.Room.{blank_length, part_back}
use Rattle.series.specs.Half.{full_factors, full, Centred}
use Rattle.vector.specs.Half.{full_fixed}
use Rattle.vector.specs.Inner.{told, BegunIs}
use Rattle.vector.specs.declared.run.Pace.{Pace}
use Rattle.vector.proofs.FullRun.{centred_slices, begun_slices}
use Rattle.vector.proofs.RunLaws.{planned}
use Rattle.vector.proofs.run.run_plan.Goals as goal

pub plan_steps-requires : goal.plan_steps-requires
plan_steps-requires c =
    let places : ℕ = length c.args.fixed.diag_s.now in
    let diag-back : length c.set_plan-planned.new.diag ≡ places = c.set_plan-planned.auto.diag ∙ blank_length _ _ c.zeros-diag.ensures c.requires.1 in
    let diag-is : take places (c.set_plan-planned.new.diag ++ drop places c.zeros-diag.result) ≡ c.set_plan-planned.new.diag = part_back _ c.set_plan-planned.new.diag _ diag-back in
    let left_back : length c.set_plan-planned.new.left ≡ places = c.set_plan-planned.auto.left ∙ blank_length _ _ c.zeros-left.ensures c.requires.1 in
    let left_is : take places (c.set_plan-planned.new.left ++ drop places c.zeros-left.result) ≡ c.set_plan-planned.new.left = part_back _ c.set_plan-planned.new.left _ left_back in
    let right-back : length c.set_plan-planned.new.right ≡ places = c.set_plan-planned.auto.right ∙ blank_length _ _ c.zeros-right.ensures c.requires.1 in
    let right_is : take places (c.set_plan-planned.new.right ++ drop places c.zeros-right.result) ≡ c.set_plan-planned.new.right = part_back _ c.set_plan-planned.new.right _ right-back in
    let lengths : (length (take places c.zeros-diag.result) ≡ places) × (length (take places c.zeros-left.result) ≡ places) × (length (take places c.zeros-right.result) ≡ places) = let h = c.requires.1 in
    (blank_length _ _ c.zeros-diag.ensures h, blank_length _ _ c.zeros-left.ensures h, blank_length _ _ c.zeros-right.ensures h) in
    let a = c.args in
    let h = a.fixed.half in
    let begun : (q : Pace) → q ≡ told a.budget a.rest c.set_plan-planned.result
    → BegunIs (full_fixed h places a.fixed.diag_s.now a.fixed.eta) a.budget a.rest (full h places a.o.now) (full_factors h places c.set_plan-planned.new.left c.set_plan-planned.new.right) (full_factors h places c.set_plan-planned.new.right c.set_plan-planned.new.left) (full h places c.set_plan-planned.new.diag) q =
    λ q e. let f = c.set_plan-planned.ensures in begun_slices _ _ _ _ _ _ _ _ _ _ c.requires.0 c.requires.4 c.requires.3 refl lengths.1 lengths.2 lengths.0 _ _ _ _ f.left_after f.right_after f.diag_after f.value q e in
    let centred : Centred c.args.fixed.half places c.set_plan-planned.new.left c.set_plan-planned.new.right = let p = c.requires in
    let l = lengths in
    let s = c.set_plan-planned.ensures in
    centred_slices _ _ _ _ _ _ _ _ _ _ p.0 p.4 p.3 refl l.1 l.2 l.0 _ _ _ _ s.left_after s.right_after s.diag_after s.value in
    let p = c.requires in
    rw p.2 (record {
      start = (p.0, p.3, (begun _ c.pace_of-first.ensures).sound, rw (left_is, right_is) centred);
      sizes = record {
        diag_n = ap length diag-is ∙ diag-back;
        left_n = ap length left_is ∙ left_back;
        right_n = ap length right_is ∙ right-back;
        term_n = blank_length _ _ c.zeros-term.ensures p.1;
      };
    })

pub returns : goal.returns
returns c =
    let places : ℕ = length c.args.fixed.diag_s.now in
    let diag-back : length c.set_plan-planned.new.diag ≡ places = c.set_plan-planned.auto.diag ∙ blank_length _ _ c.zeros-diag.ensures c.requires.1 in
    let diag-is : take places (c.set_plan-planned.new.diag ++ drop places c.zeros-diag.result) ≡ c.set_plan-planned.new.diag = part_back _ c.set_plan-planned.new.diag _ diag-back in
    let left_back : length c.set_plan-planned.new.left ≡ places = c.set_plan-planned.auto.left ∙ blank_length _ _ c.zeros-left.ensures c.requires.1 in
    let left_is : take places (c.set_plan-planned.new.left ++ drop places c.zeros-left.result) ≡ c.set_plan-planned.new.left = part_back _ c.set_plan-planned.new.left _ left_back in
    let right-back : length c.set_plan-planned.new.right ≡ places = c.set_plan-planned.auto.right ∙ blank_length _ _ c.zeros-right.ensures c.requires.1 in
    let right_is : take places (c.set_plan-planned.new.right ++ drop places c.zeros-right.result) ≡ c.set_plan-planned.new.right = part_back _ c.set_plan-planned.new.right _ right-back in
    let lengths : (length (take places c.zeros-diag.result) ≡ places) × (length (take places c.zeros-left.result) ≡ places) × (length (take places c.zeros-right.result) ≡ places) = let h = c.requires.1 in
    (blank_length _ _ c.zeros-diag.ensures h, blank_length _ _ c.zeros-left.ensures h, blank_length _ _ c.zeros-right.ensures h) in
    let a = c.args in
    let h = a.fixed.half in
    let begun : (q : Pace) → q ≡ told a.budget a.rest c.set_plan-planned.result
    → BegunIs (full_fixed h places a.fixed.diag_s.now a.fixed.eta) a.budget a.rest (full h places a.o.now) (full_factors h places c.set_plan-planned.new.left c.set_plan-planned.new.right) (full_factors h places c.set_plan-planned.new.right c.set_plan-planned.new.left) (full h places c.set_plan-planned.new.diag) q =
    λ q e. let f = c.set_plan-planned.ensures in begun_slices _ _ _ _ _ _ _ _ _ _ c.requires.0 c.requires.4 c.requires.3 refl lengths.1 lengths.2 lengths.0 _ _ _ _ f.left_after f.right_after f.diag_after f.value q e in
    let p = c.requires in
    planned _ _ _ _ _ _ _ _ _ _ _ _ _ _ p.5 (begun _ c.pace_of-first.ensures) (rw (p.2, diag-is, left_is, right_is) at c.plan_steps.ensures)
