-- The float entry withholds the bid at the bound alone, and the ask at minus the bound alone: the bound is the last place and minus the bound the first. Assumes nothing.
use Rattle.std.specs.Prelude.{Option, None, Result, Ok, Err}
use mathlib.Core.Path.{◌≡◌, refl, sym, ap, ◌∙◌}
use mathlib.Core.Logic.Iff
use mathlib.Core.Logic.{◌↔◌}
use Prim.Native.Nat.{ℕ, zero, suc, ◌+◌, ◌≤◌}
use native.Mathlib.Omega.{arith}
use mathlib.Core.Bool.{Bool, true, false}
use borrow.Author.Tests.{ltb-false, leb-true, le-ltb}
use lib.IntN.{ℤ, pos, neg_ℤ, nat_abs, ◌+ℤ◌, ◌-ℤ◌, +ℤ_invl, +ℤ-neg_ℤ_cancel}
use lib.Dec.{ltb}
use lib.Ieee.{Float}
use Rattle.elementary.specs.Checks.{Verdict, passes, refused, first_failing}
use Rattle.vector.specs.Run.{Ended, vector, over_cap, failed, run}
use Rattle.operator.specs.Operator.{rows}
use Rattle.vector.specs.Values.{vector_of}
use Rattle.vector.specs.declared.ValueVector.{ValueVector}
use Rattle.distances.specs.Distances.{place, bid_at, ask_at, sides, exact_at}
use Rattle.distances.specs.FloatEntry.{refused_entry, with_vector, answer_by, entry_checks, entry_if, entry_over, float_entry}
use Rattle.distances.specs.Promises.{Withheld, FloatPresence}
use Rattle.distances.specs.declared.Answer.TheVariants.{Distances}
use Rattle.distances.proofs.Checked.{passed}
use Rattle.distances.proofs.Holdings.{at_place, place_most}
use Rattle.elementary.specs.declared.Refusal.{Refusal}
use Rattle.elementary.proofs.Results.{ok_pair}

-- ---- the places
-- another holding has another place
place_tells : (b : ℕ) (q z : ℤ) → nat_abs q ≤ b → z +ℤ pos b ≡ pos (place b q) → q ≡ z
place_tells b q z h e =
    sym (+ℤ-neg_ℤ_cancel q (pos b)) ∙ ap (λ (x : ℤ). x -ℤ pos b) (at_place q b h ∙ sym e) ∙ +ℤ-neg_ℤ_cancel z (pos b)

last : (b : ℕ) (q : ℤ) → nat_abs q ≤ b → (ltb (suc (place b q)) (rows b) ≡ false) ↔ (q ≡ pos b)
unfolding place
last b q h = (λ e. place_tells b q (pos b) h (ap pos (omega (arith, place_most q b h, ltb-false (suc (place b q)) (rows b) e))), λ e. rw e (le-ltb (suc (b + b)) (rows b) (omega arith)))

first : (b : ℕ) (q : ℤ) → nat_abs q ≤ b → (place b q ≡ 0) ↔ (q ≡ neg_ℤ (pos b))
unfolding place
first b q h = (λ e. place_tells b q (neg_ℤ (pos b)) h (+ℤ_invl (pos b) ∙ ap pos (sym e)), λ e. rw (e, +ℤ_invl (pos b)))

-- ---- the sides
bid_absent : (t : Bool) (v : ValueVector) (k base : Float) (i : ℕ) → (bid_at t v k base i ≡ None) ↔ (t ≡ false)
unfolding bid_at
bid_absent false v k base i = (λ e. refl, λ e. refl)
bid_absent true v k base i = (λ e. cc, λ e. cc)

ask_absent : (v : ValueVector) (k base : Float) (i : ℕ) → (ask_at v k base i ≡ None) ↔ (i ≡ 0)
unfolding ask_at
ask_absent v k base zero = (λ e. refl, λ e. refl)
ask_absent v k base (suc i) = (λ e. cc, λ e. absurd (omega arith))

-- ---- the answers
pub sides_are : (t : Bool) (x y b a : Option Float) → sides t x y ≡ Ok (b, a) → (x ≡ b) × (y ≡ a)
unfolding sides
sides_are true x y b a e = ok_pair e
sides_are false x y b a e = (cc, cc)

with_sides : (v : ValueVector) (s : ℕ) (r : Result (Option Float × Option Float) Refusal) (b a : Option Float) (n : ℕ) → (with_vector v s r).answer ≡ Distances b a n → r ≡ Ok (b, a)
unfolding with_vector refused_entry
with_sides v s (Ok (x, y)) b a n e = cc
with_sides v s (Err r) b a n e = cc

run_withheld : (bound : ℕ) (k base : Float) (q : ℤ) → nat_abs q ≤ bound → (r : Ended) (b a : Option Float) (s : ℕ) → (answer_by bound k base q r).answer ≡ Distances b a s → Withheld bound q b a
unfolding answer_by refused_entry exact_at vector_of
run_withheld bound k base q h (vector w o n) b a s e =
    let v = vector_of (rows bound) w o in
    let i = place bound q in
    let u = sides_are _ _ _ b a (with_sides v n (exact_at v k base i) b a s e) in
    rw (← u.0, ← u.1) (Iff.trans (bid_absent _ v k base i) (last bound q h), Iff.trans (ask_absent v k base i) (first bound q h))
run_withheld bound k base q h (over_cap need l) b a s e = let z : ◌≡◌ {A = ℕ} 0 1 = cc in absurd (omega arith)
run_withheld bound k base q h (failed n) b a s e = let z : ◌≡◌ {A = ℕ} 0 1 = cc in absurd (omega arith)

pub float_presence : FloatPresence
unfolding float_entry entry_over entry_if refused_entry
float_presence k base x q b a s = go (first_failing (entry_checks k base x q)) refl
  where
    go : (v : Verdict) → first_failing (entry_checks k base x q) ≡ v → (entry_if v (answer_by x.bound k base q (run x))).answer ≡ Distances b a s → Withheld x.bound q b a
    go passes t e = run_withheld x.bound k base q (leb-true (nat_abs q) x.bound (passed k base x q t).held) (run x) b a s e
    go (refused n) t e = let z : ◌≡◌ {A = ℕ} 0 1 = cc in absurd (omega arith)
