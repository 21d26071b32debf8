-- The float entry at minus q and the drift turned is that at q with the sides exchanged: the two runs are mirror images, and opposite holdings have opposite places. Assumes nothing.
use Rattle.std.specs.Prelude.{Option, Result, Ok, Err}
use mathlib.Core.Path.{◌≡◌, refl, sym, ◌∙◌}
use Prim.Native.Nat.{ℕ, zero, suc, ◌+◌, ◌≤◌}
use native.Mathlib.Omega.{arith}
use mathlib.Core.Bool.{Bool, true, false, ◌&&◌, and_comm}
use mathlib.Core.List.{List}
use borrow.Author.Tests.{leb-true, lt-ltb, le-ltb}
use lib.IntN.{ℤ, pos, negsuc, neg_ℤ, nat_abs}
use lib.Dec.{ltb}
use lib.ListN.{length, get_or-append}
use lib.Ieee.{Float, nan}
use Rattle.elementary.specs.Checks.{Verdict, passes, refused, first_failing}
use Rattle.elementary.proofs.Signs.{finite_neg}
use Rattle.operator.specs.Vectors.{at, Mirror}
use Rattle.vector.specs.Run.{Ended, vector, over_cap, failed, bound_ok, run, spent}
use Rattle.operator.specs.Operator.{rows}
use Rattle.plan.specs.Input.{rates_ok}
use Rattle.vector.specs.Values.{padded, vector_of, blank_vector}
use Rattle.vector.specs.Promises.{MirrorEnd, turned_input}
use Rattle.plan.specs.declared.RunInput.{RunInput}
use Rattle.vector.specs.declared.ValueVector.{ValueVector}
use Rattle.vector.proofs.Turned.{turned_mirror, full_length}
use Rattle.distances.specs.Distances.{place, distance, bid_at, ask_at, fine, sides, exact_at}
use Rattle.distances.specs.FloatEntry.{refused_entry, with_vector, answer_by, floats_ok, entry_checks, entry_if, entry_over, float_entry, steps_if, steps_over, float_steps}
use Rattle.distances.specs.Promises.{exchanged_sides, exchanged, MirrorVector, FloatMirror}
use Rattle.distances.specs.declared.FloatAnswer.{FloatAnswer}
use Rattle.distances.proofs.Checked.{rates_pass, passed}
use Rattle.elementary.specs.declared.Refusal.{Refusal}

-- ---- the distances
padded_alike : (n : ℕ) (l r : List Float) → length l ≡ n → length r ≡ n → Mirror n l r → (i j : ℕ) → suc (i + j) ≡ n → at (padded n l) i ≡ at (padded n r) j
unfolding padded Mirror
padded_alike n l r k k' m i j e = get_or-append l _ nan i (omega (arith, k)) ∙ m i j e ∙ sym (get_or-append r _ nan j (omega (arith, k')))

pub sides_exchanged : (b a : Option Float) → sides (fine a && fine b) a b ≡ exchanged_sides (sides (fine b && fine a) b a)
unfolding sides exchanged_sides
sides_exchanged b a = rw (and_comm (fine a) (fine b)) (go (fine b && fine a))
  where
    go : (t : Bool) → sides t a b ≡ exchanged_sides (sides t b a)
    go true = refl
    go false = refl

mirrored_back : (n : ℕ) (l r : List Float) → Mirror n l r → Mirror n r l
unfolding Mirror
mirrored_back n l r m i j e = sym (m j i (omega arith))

-- two vectors of n entries that mirror each other
record Facing (n : ℕ) (w o w' o' : List Float) : Type 0 where
  w_n : length w ≡ n
  o_n : length o ≡ n
  w'_n : length w' ≡ n
  o'_n : length o' ≡ n
  W : Mirror n w w'
  O : Mirror n o o'

faced : (n : ℕ) (w o w' o' : List Float) → Facing n w o w' o' → Facing n w' o' w o
faced n w o w' o' f = record { w_n = f.w'_n; o_n = f.o'_n; w'_n = f.w_n; o'_n = f.o_n; W = mirrored_back n w w' f.W; O = mirrored_back n o o' f.O }

side_alike : (n : ℕ) (w o w' o' : List Float) → Facing n w o w' o' → (k base : Float) (i j : ℕ) → suc (i + j) ≡ n
    → bid_at (ltb (suc i) n) (vector_of n w o) k base i ≡ ask_at (vector_of n w' o') k base j
unfolding bid_at ask_at distance vector_of
side_alike n w o w' o' f k base i zero e = rw (le-ltb (suc i) n (omega arith))
side_alike n w o w' o' f k base i (suc j) e = rw (
  lt-ltb (suc i) n (omega arith),
  padded_alike n w w' f.w_n f.w'_n f.W i (suc j) e,
  padded_alike n w w' f.w_n f.w'_n f.W (suc i) j (omega arith),
  padded_alike n o o' f.o_n f.o'_n f.O i (suc j) e,
  padded_alike n o o' f.o_n f.o'_n f.O (suc i) j (omega arith),
)

exact_exchanged : (n : ℕ) (w o w' o' : List Float) → Facing n w o w' o' → (k base : Float) (i j : ℕ) → suc (i + j) ≡ n
    → exact_at (vector_of n w' o') k base j ≡ exchanged_sides (exact_at (vector_of n w o) k base i)
unfolding exact_at vector_of
exact_exchanged n w o w' o' f k base i j e = rw (side_alike n w' o' w o (faced n w o w' o' f) k base j i (omega arith), ← side_alike n w o w' o' f k base i j e) (sides_exchanged _ _)

-- ---- the entry
places : (bound : ℕ) (q : ℤ) → nat_abs q ≤ bound → suc (place bound q + place bound (neg_ℤ q)) ≡ rows bound
unfolding place
places b (pos zero) h = omega arith
places b (pos (suc a)) h = rw (le-ltb b (suc a) h) (omega arith)
places b (negsuc a) h = rw (le-ltb b (suc a) h) (omega arith)

nat_abs_neg : (q : ℤ) → nat_abs (neg_ℤ q) ≡ nat_abs q
nat_abs_neg (pos zero) = refl
nat_abs_neg (pos (suc n)) = refl
nat_abs_neg (negsuc n) = refl

-- the answer with the sides exchanged, the vector mirrored, and the same where the two runs have the same end
record Exchanged (T : Type 0) (x y : FloatAnswer) : Type 0 where
  answers : x.answer ≡ exchanged y.answer
  vectors : MirrorVector x.vector y.vector
  same : T → x.vector ≡ y.vector

-- the blank vector has no entry
blank_mirrored : MirrorVector blank_vector blank_vector
unfolding Mirror blank_vector
blank_mirrored = (refl, (λ i j e. absurd (omega arith)), (λ i j e. absurd (omega arith)))

alike : (T : Type 0) (x : FloatAnswer) → x.vector ≡ blank_vector → exchanged x.answer ≡ x.answer → Exchanged T x x
alike T x e h = record { answers = sym h; vectors = rw e blank_mirrored; same = λ _. refl }

with_exchanged : (T : Type 0) (v v' : ValueVector) (s : ℕ) (r : Result (Option Float × Option Float) Refusal) → MirrorVector v v' → (T → v ≡ v') → Exchanged T (with_vector v s (exchanged_sides r)) (with_vector v' s r)
unfolding with_vector refused_entry exchanged exchanged_sides
with_exchanged T v v' s (Ok (b, a)) m h = record { answers = refl; vectors = m; same = h }
with_exchanged T v v' s (Err r) m h = record { answers = refl; vectors = blank_mirrored; same = λ _. refl }

-- a run's end whose vector has n entries
abbrev Long : ℕ → Ended → Type 0
Long n e = (w o : List Float) (s : ℕ) → e ≡ vector w o s → (length w ≡ n) × (length o ≡ n)

vector_mirrored : (n : ℕ) (w o w' o' : List Float) → Facing n w o w' o' → MirrorVector (vector_of n w' o') (vector_of n w o)
unfolding vector_of Mirror
vector_mirrored n w o w' o' f = (
  refl,
  padded_alike n w' w f.w'_n f.w_n (mirrored_back n w w' f.W),
  padded_alike n o' o f.o'_n f.o_n (mirrored_back n o o' f.O),
)

same_vector : (n : ℕ) (w o w' o' : List Float) (s s' : ℕ) → vector w' o' s' ≡ vector w o s → vector_of n w' o' ≡ vector_of n w o
same_vector n w o w' o' s s' e =
    let ew : w' ≡ w = cc in
    let eo : o' ≡ o = cc in
    rw (ew, eo)

by_exchanged : (bound : ℕ) (k base : Float) (q : ℤ) → nat_abs q ≤ bound → (e e' : Ended) → Long (rows bound) e → Long (rows bound) e' → MirrorEnd (rows bound) e e'
    → Exchanged (e' ≡ e) (answer_by bound k base (neg_ℤ q) e') (answer_by bound k base q e)
unfolding answer_by refused_entry exchanged MirrorEnd
by_exchanged bound k base q h (vector w o s) (vector w' o' s') long long' (W, O, z) =
    let n = rows bound in
    let (w_n, o_n) = long w o s refl in
    let (w'_n, o'_n) = long' w' o' s' refl in
    let f : Facing n w o w' o' = record { w_n = w_n; o_n = o_n; w'_n = w'_n; o'_n = o'_n; W = W; O = O } in
    rw (exact_exchanged n w o w' o' f k base (place bound q) (place bound (neg_ℤ q)) (places bound q h), z)
    (with_exchanged _ (vector_of n w' o') (vector_of n w o) s' (exact_at (vector_of n w o) k base (place bound q)) (vector_mirrored n w o w' o' f) (same_vector n w o w' o' s' s'))
by_exchanged bound k base q h (vector w o s) (over_cap need b) long long' m = absurd m
by_exchanged bound k base q h (vector w o s) (failed s') long long' m = absurd m
by_exchanged bound k base q h (over_cap need b) (vector w o s) long long' m = absurd m
by_exchanged bound k base q h (over_cap need b) (over_cap need' b') long long' (en, eb) = rw (en, eb) (alike _ _ refl refl)
by_exchanged bound k base q h (over_cap need b) (failed s) long long' m = absurd m
by_exchanged bound k base q h (failed s) (vector w o s') long long' m = absurd m
by_exchanged bound k base q h (failed s) (over_cap need b) long long' m = absurd m
by_exchanged bound k base q h (failed s) (failed s') long long' m = alike _ _ refl refl

spent_alike : (n : ℕ) (e e' : Ended) → MirrorEnd n e e' → spent e' ≡ spent e
unfolding spent MirrorEnd
spent_alike n (vector w o s) (vector w' o' s') (W, O, z) = sym z
spent_alike n (vector w o s) (over_cap need b) m = absurd m
spent_alike n (vector w o s) (failed s') m = absurd m
spent_alike n (over_cap need b) (vector w o s) m = absurd m
spent_alike n (over_cap need b) (over_cap need' b') (en, eb) = rw eb
spent_alike n (over_cap need b) (failed s) m = absurd m
spent_alike n (failed s) (vector w o s') m = absurd m
spent_alike n (failed s) (over_cap need b) m = absurd m
spent_alike n (failed s) (failed s') m = sym m

module _ (k base : Float) (x : RunInput) (q : ℤ) where
  -- past the checks the two runs have the same end
  abbrev pub SameRun : Type 0
  SameRun = floats_ok k base x ≡ true → bound_ok x.bound ≡ true → run (turned_input x) ≡ run x

  abbrev answer : RunInput → ℤ → FloatAnswer
  answer y p = answer_by y.bound k base p (run y)

  entry_exchanged : (v : Verdict) → first_failing (entry_checks k base x q) ≡ v
      → Exchanged SameRun (entry_if v (answer (turned_input x) (neg_ℤ q))) (entry_if v (answer x q)) × (steps_if v (spent (run (turned_input x))) ≡ steps_if v (spent (run x)))
  unfolding entry_if steps_if refused_entry exchanged
  entry_exchanged (refused n) e = (alike _ _ refl refl, refl)
  entry_exchanged passes e =
      let p = passed k base x q e in
      let m = turned_mirror x p.bound_is_ok (rates_pass k base x p.floats) in
      let y = by_exchanged x.bound k base q (leb-true (nat_abs q) x.bound p.held) _ _ (full_length x) (full_length (turned_input x)) m in
      (record { answers = y.answers; vectors = y.vectors; same = λ t. y.same (t p.floats p.bound_is_ok) }, spent_alike (rows x.bound) _ _ m)

  pub floats_turned : floats_ok k base (turned_input x) ≡ floats_ok k base x
  unfolding floats_ok rates_ok
  floats_turned = rw (finite_neg x.beta)

  entries : Exchanged SameRun (float_entry k base (turned_input x) (neg_ℤ q)) (float_entry k base x q) × (float_steps k base (turned_input x) (neg_ℤ q) ≡ float_steps k base x q)
  unfolding float_entry entry_over float_steps steps_over
  entries = rw (floats_turned, nat_abs_neg q) (entry_exchanged (first_failing (entry_checks k base x q)) refl)

  pub same_vectors : SameRun → (float_entry k base (turned_input x) (neg_ℤ q)).vector ≡ (float_entry k base x q).vector
  same_vectors t = entries.0.same t

pub float_mirror : FloatMirror
float_mirror k base x q = let (y, s) = entries k base x q in (y.answers, y.vectors, s)
