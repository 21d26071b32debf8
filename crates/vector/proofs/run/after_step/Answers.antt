-- Each way after a step is one of `AfterBy`. Assumes nothing.
use mathlib.Core.Path.{◌≡◌, refl}
use mathlib.Core.Bool.{Bool, true, false, ◌&&◌}
use lib.Ieee.{Float}
use Rattle.std.specs.Prelude.{Option, Some}
use Rattle.std.specs.Bool.{then_some}
use Rattle.vector.proofs.RunLaws.{never, after_refused, after_paced, after_asked, after_failed}
use Rattle.vector.proofs.run.after_step.Goals as goal

-- where there is a largest weight, all are positive
some_top : (s b : Bool) (m : Float) (r : Option Float) (x : Float) → s ≡ true → r ≡ then_some b m → r ≡ Some x → ((s && b) ≡ true) × (x ≡ m)
some_top true true m r x es e f = (refl, cc)
some_top true false m r x es e f = never (cc)
some_top false b m r x es e f = never (cc)

no_top : (s b : Bool) (m : Float) (r : Option Float) → r ≡ then_some b m → ((x : Float) → r ≡ Some x → ⊥) → (s && b) ≡ false
no_top s true m r e f = absurd (f m e)
no_top true false m r e f = refl
no_top false false m r e f = refl

pub returns-then-not-settled : goal.returns-then-not-settled
returns-then-not-settled c = after_refused _ _ _ _ _ _ _ _ (rw c.if-not-settled.true refl) c.refused.ensures

pub returns-in_default : goal.returns-in_default
returns-in_default c = after_refused _ _ _ _ _ _ _ _ (no_top _ _ _ _ c.largest.ensures c.in_default.not-Some) c.refused-in_default.ensures

pub returns-then-divide : goal.returns-then-divide
returns-then-divide c =
    let d = c.divide in
    let top = some_top _ _ _ _ _ c.if-not-settled.false c.largest.ensures c.in-Some.is in
    after_paced _ _ _ _ _ _ _ _ _ top.1 d.ensures.w_after top.0 d.ensures.value c.if-divide.true c.paced.ensures

pub returns-then-rebalance : goal.returns-then-rebalance
returns-then-rebalance c =
    let d = c.divide in
    let top = some_top _ _ _ _ _ c.if-not-settled.false c.largest.ensures c.in-Some.is in
    let f = c.rebalance.ensures in
    after_asked _ _ _ _ _ _ _ _ _ top.1 d.ensures.w_after top.0 d.ensures.value _ _ _ d.auto.w f.value c.if-divide.false c.if-rebalance.true f.w_after f.o_after refl

pub returns : goal.returns
returns c =
    let d = c.divide in
    let top = some_top _ _ _ _ _ c.if-not-settled.false c.largest.ensures c.in-Some.is in
    let f = c.rebalance.ensures in
    after_failed _ _ _ _ _ _ _ _ _ top.1 d.ensures.w_after top.0 d.ensures.value _ _ _ d.auto.w f.value c.if-divide.false c.if-rebalance.false c.refused-2.ensures
