-- Each refusal of this layer is the reply in just the situation that the paper names. Assumes nothing.
use Rattle.std.specs.Prelude.{Option, Result, Ok, Err}
use mathlib.Core.Path.{◌≡◌, refl, ap, ◌∙◌, sym}
use mathlib.Core.Logic.{◌⊎◌, inl, inr}
use Prim.Native.Nat.{ℕ, zero, suc, ◌-◌, ◌/◌}
use native.Mathlib.Omega.{arith}
use mathlib.Core.Bool.{Bool, true, false, ◌&&◌}
use borrow.Author.Tests.{ltb-true, lt-ltb}
use lib.IntN.{ℤ}
use lib.Dec.{ltb}
use lib.Ieee.{Float}
use Rattle.elementary.specs.Checks.{Verdict, passes, refused, first_failing, Refuses, here, later, Passes, none, each, by}
use Rattle.elementary.proofs.Checks.{first_failing_lem, none_failing, same_err, same_number}
use Rattle.series.specs.Refusals.{numerical}
use Rattle.vector.specs.Run.{Ended, vector, over_cap, failed, cap, run}
use Rattle.operator.specs.Operator.{rows}
use Rattle.vector.specs.Values.{vector_of}
use Rattle.plan.specs.declared.RunInput.{RunInput}
use Rattle.vector.specs.declared.ValueVector.{ValueVector}
use Rattle.vector.proofs.Causes.{runs_fail, cap_reports}
use Rattle.distances.specs.Distances.{place, bid_at, ask_at, fine, sides, exact_at, distance_checks, distances_if, exact_distances}
use Rattle.distances.specs.FloatEntry.{refused_entry, with_vector, answer_by, entry_checks, entry_if, entry_over, float_entry}
use Rattle.distances.specs.Refusing.{ReadFails, by_bid, by_ask, ReadsFail, DistancesRefused, by_5, by_1, by_4, by_11, DistancesRefusals, EntryFails, by_run, by_read, FloatRefused, at_5, at_1, at_4, at_11, FloatRefusals, FloatReported, FloatReports}
use Rattle.distances.specs.declared.Answer.TheVariants as Answer
use Rattle.distances.proofs.Checked.{passed, all_pass}
use Rattle.distances.proofs.Weights.{distances_fail}
use Rattle.elementary.specs.declared.Refusal.{Refusal}

-- a test that is both true and false
pub never : {A : Type 0} → true ≡ false → A
never e = let z : ◌≡◌ {A = ℕ} 0 1 = cc in absurd (omega arith)

-- ---- a read
module _ (v : ValueVector) (k base : Float) (i : ℕ) where
  bid_fails : (t : Bool) → ltb (suc i) v.n ≡ t → fine (bid_at t v k base i) ≡ false → ReadFails v k base i
  unfolding bid_at fine
  bid_fails false h e = never e
  bid_fails true h e = by_bid (ltb-true (suc i) v.n h) ((distances_fail v k base i (suc i)).0 e)

  ask_fails : fine (ask_at v k base i) ≡ false → ReadFails v k base i
  unfolding ask_at fine
  ask_fails = go i refl
    where
      go : (j : ℕ) → i ≡ j → fine (ask_at v k base j) ≡ false → ReadFails v k base i
      go zero h e = never e
      go (suc j) h e = by_ask h (rw h ((distances_fail v k base (suc j) j).0 e))

  either : (b a : Bool) → (b ≡ false → ReadFails v k base i) → (a ≡ false → ReadFails v k base i) → (b && a) ≡ false → ReadFails v k base i
  either false a f g e = f refl
  either true a f g e = g e

  neither : (b a : Bool) → (b ≡ false) ⊎ (a ≡ false) → (b && a) ≡ false
  neither false a x = refl
  neither true false x = refl
  neither true true x = elim x [ inl e ↦ never e | inr e ↦ never e ]

  failing : ReadFails v k base i → (fine (bid_at (ltb (suc i) v.n) v k base i) ≡ false) ⊎ (fine (ask_at v k base i) ≡ false)
  unfolding bid_at ask_at fine
  failing (by_bid h d) = inl (rw (lt-ltb (suc i) v.n h) ((distances_fail v k base i (suc i)).1 d))
  failing (by_ask {j} h d) = inr (rw h ((distances_fail v k base (suc j) j).1 (rw h at d)))

sides_refused : (t : Bool) (b a : Option Float) (n : ℕ) → sides t b a ≡ Err (by n) → (n ≡ numerical) × (t ≡ false)
unfolding sides
sides_refused true b a n e = let z : ◌≡◌ {A = ℕ} 0 1 = cc in absurd (omega arith)
sides_refused false b a n e = (sym (same_err e), refl)

pub reads_fail : ReadsFail
unfolding exact_at sides
reads_fail v k base i n = (
  λ e. let (z, t) = sides_refused _ _ _ n e in (z, either v k base i _ _ (bid_fails v k base i _ refl) (ask_fails v k base i) t),
  λ x. rw (x.0, neither v k base i _ _ (failing v k base i x.1)),
)

-- ---- exact_distances
pub distances_refusals : DistancesRefusals
unfolding exact_distances distances_if
distances_refusals v k base q n = (to (first_failing (distance_checks v k base q)) refl, from n)
  where
    read : Result (Option Float × Option Float) Refusal
    read = exact_at v k base (place (v.n / 2) q)

    failed_by : (m : ℕ) → Refuses (distance_checks v k base q) m → DistancesRefused v k base q m
    failed_by m (here f) = by_5 f
    failed_by m (later f (here b)) = by_1 f b
    failed_by m (later f (later b (here h))) = by_4 f b h
    failed_by m (later f (later b (later _ x))) = elim x [ ]

    to : (t : Verdict) → first_failing (distance_checks v k base q) ≡ t → distances_if t read ≡ Err (by n) → DistancesRefused v k base q n
    to passes t e = all ((none_failing (distance_checks v k base q)).0 t)
      where
        all : Passes (distance_checks v k base q) → DistancesRefused v k base q n
        all (each f (each b (each h none))) = let (z, r) = (reads_fail v k base (place (v.n / 2) q) n).0 e in rw z (by_11 f b h r)
    to (refused m) t e = let z : m ≡ n = same_err e in failed_by n ((first_failing_lem (distance_checks v k base q) n).0 (t ∙ ap refused z))

    from : (m : ℕ) → DistancesRefused v k base q m → distances_if (first_failing (distance_checks v k base q)) read ≡ Err (by m)
    from m (by_5 f) = rw ((first_failing_lem (distance_checks v k base q) m).1 (here f))
    from m (by_1 f b) = rw ((first_failing_lem (distance_checks v k base q) m).1 (later f (here b)))
    from m (by_4 f b h) = rw ((first_failing_lem (distance_checks v k base q) m).1 (later f (later b (here h))))
    from m (by_11 f b h r) = rw ((none_failing (distance_checks v k base q)).1 (each f (each b (each h none)))) ((reads_fail v k base (place (v.n / 2) q) numerical).1 (refl, r))

-- ---- the float entry
with_refused : (v : ValueVector) (s : ℕ) (r : Result (Option Float × Option Float) Refusal) (n : ℕ) → (with_vector v s r).answer ≡ Answer.Refused (by n) → r ≡ Err (by n)
unfolding with_vector refused_entry
with_refused v s (Ok (b, a)) n e = cc
with_refused v s (Err r) n e = cc

module _ (k base : Float) (x : RunInput) (q : ℤ) where
  ended : (e : Ended) → run x ≡ e → (n : ℕ) → (answer_by x.bound k base q e).answer ≡ Answer.Refused (by n) → (n ≡ numerical) × EntryFails k base x q
  unfolding answer_by refused_entry
  ended (vector w o s) h n i =
      let v = vector_of (rows x.bound) w o in
      let (z, r) = (reads_fail v k base (place x.bound q) n).0 (with_refused v s _ n i) in
      (z, by_read h r)
  ended (over_cap need b) h n i = let z : ◌≡◌ {A = ℕ} 0 1 = cc in absurd (omega arith)
  ended (failed s) h n i = let c = (runs_fail x s).0 h in (same_number (let y : by n ≡ by numerical = cc in y), by_run c.0 c.1)

  ends : EntryFails k base x q → (answer_by x.bound k base q (run x)).answer ≡ Answer.Refused (by numerical)
  unfolding answer_by with_vector refused_entry
  ends (by_run {s} l c) = rw ((runs_fail x s).1 (l, c))
  ends (by_read {w} {o} {s} h r) = rw (h, (reads_fail (vector_of (rows x.bound) w o) k base (place x.bound q) numerical).1 (refl, r))

  -- a check that fails
  checked : (n : ℕ) → Refuses (entry_checks k base x q) n → FloatRefused k base x q n
  checked n (here f) = at_5 f
  checked n (later f (here b)) = at_1 f b
  checked n (later f (later b (here h))) = at_4 f b h
  checked n (later f (later b (later _ x))) = elim x [ ]

  pub by_check : {n : ℕ} → Refuses (entry_checks k base x q) n → first_failing (entry_checks k base x q) ≡ refused n
  by_check {n} r = (first_failing_lem (entry_checks k base x q) n).1 r

pub float_refusals : FloatRefusals
unfolding float_entry entry_over entry_if refused_entry
float_refusals k base x q n = (to (first_failing (entry_checks k base x q)) refl, from n)
  where
    to : (v : Verdict) → first_failing (entry_checks k base x q) ≡ v → (entry_if v (answer_by x.bound k base q (run x))).answer ≡ Answer.Refused (by n) → FloatRefused k base x q n
    to passes t e =
        let p = passed k base x q t in
        let (z, r) = ended k base x q (run x) refl n e in
        rw z (at_11 p.floats p.bound_is_ok p.held r)
    to (refused m) t e = let z : m ≡ n = same_number (let y : by m ≡ by n = cc in y) in checked k base x q n ((first_failing_lem (entry_checks k base x q) n).0 (t ∙ ap refused z))

    from : (m : ℕ) → FloatRefused k base x q m → (entry_if (first_failing (entry_checks k base x q)) (answer_by x.bound k base q (run x))).answer ≡ Answer.Refused (by m)
    from m (at_5 f) = rw (by_check k base x q (here f))
    from m (at_1 f b) = rw (by_check k base x q (later f (here b)))
    from m (at_4 f b h) = rw (by_check k base x q (later f (later b (here h))))
    from m (at_11 f b h r) = rw (all_pass k base x q f b h) (ends k base x q r)

-- ---- the cap report
with_report : (v : ValueVector) (t : ℕ) (r : Result (Option Float × Option Float) Refusal) (need : Float) (b s : ℕ) → (with_vector v t r).answer ≡ Answer.OverCap need b s → ◌≡◌ {A = ℕ} 0 1
unfolding with_vector refused_entry
with_report v t (Ok (x, y)) need b s e = cc
with_report v t (Err r) need b s e = cc

reported : (bound : ℕ) (k base : Float) (q : ℤ) (e : Ended) (need : Float) (b s : ℕ) → (answer_by bound k base q e).answer ≡ Answer.OverCap need b s → (e ≡ over_cap need b) × (s ≡ cap - b)
unfolding answer_by refused_entry
reported bound k base q (vector w o t) need b s i = let z = with_report _ t _ need b s i in absurd (omega arith)
reported bound k base q (over_cap n l) need b s i =
    let en : n ≡ need = cc in
    let el : l ≡ b = cc in
    (rw (en, el), rw (← el) (cc))
reported bound k base q (failed t) need b s i = let z : ◌≡◌ {A = ℕ} 0 1 = cc in absurd (omega arith)

pub float_reports : FloatReports
unfolding float_entry entry_over entry_if answer_by refused_entry
float_reports k base x q need b s = (to (first_failing (entry_checks k base x q)) refl, from)
  where
    to : (v : Verdict) → first_failing (entry_checks k base x q) ≡ v → (entry_if v (answer_by x.bound k base q (run x))).answer ≡ Answer.OverCap need b s → FloatReported k base x q need b s
    to passes t e =
        let p = passed k base x q t in
        let r = reported x.bound k base q (run x) need b s e in
        let c = (cap_reports x need b).0 r.0 in
        record { floats = p.floats; bound_is_ok = p.bound_is_ok; held = p.held; time = c.0; report = c.1; steps = r.1 }
    to (refused n) t e = let z : ◌≡◌ {A = ℕ} 0 1 = cc in absurd (omega arith)

    from : FloatReported k base x q need b s → (entry_if (first_failing (entry_checks k base x q)) (answer_by x.bound k base q (run x))).answer ≡ Answer.OverCap need b s
    from r = rw (all_pass k base x q r.floats r.bound_is_ok r.held, (cap_reports x need b).1 (r.time, r.report), r.steps)
