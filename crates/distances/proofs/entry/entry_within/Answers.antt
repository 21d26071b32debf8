use mathlib.Core.Path.{◌≡◌, refl, ◌∙◌, ap}
use Prim.Native.Nat.{ℕ}
use native.Mathlib.Omega.{arith}
use lib.IntN.{ℤ}
use lib.Ieee.{Float}
use mir.Facts.{to_z-of_z}
use Rattle.std.proofs.lemmas.List.{map-id}
use Rattle.vector.specs.Run.{Ended, vector, over_cap, failed, run}
use Rattle.operator.specs.Operator.{rows}
use Rattle.vector.specs.Values.{vector_of, refused_vector, vector_by}
use Rattle.distances.specs.Distances.{place, exact_at}
use Rattle.distances.specs.FloatEntry.{refused_entry, with_vector, answer_by}
use Rattle.vector.specs.declared.ValueVector.{ValueVector}
use Rattle.vector.specs.declared.Outcome.{Outcome}
use Rattle.distances.specs.declared.Answer.TheVariants as Answer
use Rattle.distances.specs.declared.FloatAnswer.{FloatAnswer}
use Rattle.plan.proofs.Bounds.{bound_range}
use Rattle.distances.proofs.Holdings.{place_most}
use Rattle.distances.proofs.Checked.{vector_is}
use Rattle.distances.proofs.entry.entry_within.Goals as goal

-- ---- the answer at the end of a run, by the outcome and the vector that the code has of it
module _ (b : ℕ) (k base : Float) (q : ℤ) where
  unfoldable entry : Outcome → ValueVector → FloatAnswer
  entry (Outcome.Done s) v = with_vector v s (exact_at v k base (place b q))
  entry (Outcome.OverCap need l s) v = record { answer = Answer.OverCap need l s; vector = v }
  entry (Outcome.Refused r) v = refused_entry r

  entry-is : (e : Ended) → answer_by b k base q e ≡ entry (vector_by (rows b) e).outcome (vector_by (rows b) e).vector
  unfolding entry answer_by vector_by refused_vector
  entry-is (vector w o s) = refl
  entry-is (over_cap need l) = refl
  entry-is (failed s) = refl

-- a run that is done has a vector of full length
done-length : (n s : ℕ) (e : Ended) → (vector_by n e).outcome ≡ Outcome.Done s → (vector_by n e).vector.n ≡ n
unfolding vector_by vector_of refused_vector
done-length n s (vector w o t) h = refl
done-length n s (over_cap need l) h = cc
done-length n s (failed t) h = cc

pub sides_at-requires : goal.sides_at-requires
sides_at-requires c =
    let come : let a = c.args in c.value_vector-a.result ≡ vector_by (rows a.input.bound) (run a.input) = let s = c in c.value_vector-a.ensures ∙ vector_is s.args.scale.k s.args.scale.base s.args.input s.requires.0 s.requires.1 in
    let full : (s : ℕ) → c.value_vector-a.result.outcome ≡ Outcome.Done s → c.value_vector-a.result.vector.n ≡ rows c.args.input.bound = λ s h. let a = c.args in
    rw come (done-length (rows a.input.bound) s (run a.input) (rw come at h)) in
    let p = c in
    let r = p in
    let s = r in
    let a = s.args in
    let e : p.place_of-place.result ≡ place a.input.bound a.q = p.place_of-place.ensures ∙ ap (place a.input.bound) (to_z-of_z s.ranges.q) in
    omega (arith, e, place_most a.q a.input.bound s.requires.2, bound_range a.input.bound s.requires.1, full _ p.in-Done.is)

pub returns-in-Done : goal.returns-in-Done
unfolding entry
returns-in-Done c =
    let come : let a = c.args in c.value_vector-a.result ≡ vector_by (rows a.input.bound) (run a.input) = c.value_vector-a.ensures ∙ vector_is c.args.scale.k c.args.scale.base c.args.input c.requires.0 c.requires.1 in
    let ended : let a = c.args in answer_by a.input.bound a.scale.k a.scale.base a.q (run a.input) ≡ entry a.input.bound a.scale.k a.scale.base a.q c.value_vector-a.result.outcome c.value_vector-a.result.vector = let a = c.args in
    rw come (entry-is a.input.bound a.scale.k a.scale.base a.q (run a.input)) in
    rw (ended, c.in-Done.is, c.with_vector.ensures, c.sides_at.ensures, c.place_of-place.ensures, to_z-of_z c.ranges.q, map-id c.value_vector-a.result.vector.w, map-id c.value_vector-a.result.vector.log_offset)

pub returns-in-OverCap : goal.returns-in-OverCap
unfolding entry
returns-in-OverCap c =
    let come : let a = c.args in c.value_vector-a.result ≡ vector_by (rows a.input.bound) (run a.input) = c.value_vector-a.ensures ∙ vector_is c.args.scale.k c.args.scale.base c.args.input c.requires.0 c.requires.1 in
    let ended : let a = c.args in answer_by a.input.bound a.scale.k a.scale.base a.q (run a.input) ≡ entry a.input.bound a.scale.k a.scale.base a.q c.value_vector-a.result.outcome c.value_vector-a.result.vector = let a = c.args in
    rw come (entry-is a.input.bound a.scale.k a.scale.base a.q (run a.input)) in
    rw (ended, c.in-OverCap.is)

pub returns-in-Refused : goal.returns-in-Refused
unfolding entry
returns-in-Refused c =
    let come : let a = c.args in c.value_vector-a.result ≡ vector_by (rows a.input.bound) (run a.input) = c.value_vector-a.ensures ∙ vector_is c.args.scale.k c.args.scale.base c.args.input c.requires.0 c.requires.1 in
    let ended : let a = c.args in answer_by a.input.bound a.scale.k a.scale.base a.q (run a.input) ≡ entry a.input.bound a.scale.k a.scale.base a.q c.value_vector-a.result.outcome c.value_vector-a.result.vector = let a = c.args in
    rw come (entry-is a.input.bound a.scale.k a.scale.base a.q (run a.input)) in
    rw (ended, c.in-Refused.is, c.refused_entry.ensures)
