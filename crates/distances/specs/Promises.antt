-- What holds of every reply of the float entry, as named statements. Each is proved once, in proofs/. Definitions only.
use Rattle.std.specs.Prelude.{◌≡◌, ℕ, suc, ◌+◌, ◌≤◌, Bool, true, false, ◌↔◌, ℤ, pos, neg_ℤ, nat_abs, T, ltb, Float, Option, Some, None, Result, Ok, Err}
use Rattle.std.specs.Float.{binary64}
use Rattle.std.specs.Float.Ieee.{lt, fits}
use Rattle.elementary.specs.Float.{0ᶠ, 1ᶠ}
use Rattle.operator.specs.Vectors.{fill, Mirror}
use Rattle.plan.specs.Plan.{cap, bound_ok}
use Rattle.operator.specs.Operator.{rows}
use Rattle.vector.specs.Values.{vector_of}
use Rattle.vector.specs.Promises.{turned_input}
use Rattle.plan.specs.declared.RunInput.{RunInput}
use Rattle.vector.specs.declared.ValueVector.{ValueVector}
use Rattle.vector.specs.declared.VectorAnswer.{VectorAnswer}
use Rattle.distances.specs.Distances.{place, fine, exact_distances}
use Rattle.distances.specs.FloatEntry.{floats_ok, float_entry, float_steps}
use Rattle.distances.specs.Reading.{answer_from}
use Rattle.distances.specs.declared.Answer.{Answer}
use Rattle.distances.specs.declared.Answer.TheVariants.{Distances, OverCap, Refused}
use Rattle.elementary.specs.declared.Refusal.{Refusal}

-- ---- the steps that a reply carries are those of the defined run, at most 11,000; in a cap report they are 11,000 less the budget left
unfoldable pub Counted : Answer → ℕ → Type 0
Counted (Distances b a s) n = s ≡ n
Counted (OverCap need b s) n = (s ≡ n) × (s + b ≡ cap)
Counted (Refused r) n = Unit {0}

abbrev pub StepsCounted : Type 0
StepsCounted = (k base : Float) (x : RunInput) (q : ℤ) → Counted (float_entry k base x q).answer (float_steps k base x q) × (float_steps k base x q ≤ cap)

-- ---- at or past the end: weights of 1.0, offsets of 0.0, no step, and each present distance is the base
unfoldable pub base_bid : Bool → Float → Option Float
base_bid true base = Some base
base_bid false base = None

abbrev pub AtTheEnd : Type 0
AtTheEnd = (k base : Float) (x : RunInput) (q : ℤ) → T (fits binary64 base)
    → floats_ok k base x ≡ true → bound_ok x.bound ≡ true → nat_abs q ≤ x.bound → lt 0ᶠ x.tau ≡ false
    → float_entry k base x q
    ≡ record {
      answer = Distances (base_bid (ltb (suc (place x.bound q)) (rows x.bound)) base) (base_bid (ltb 0 (place x.bound q)) base) 0;
      vector = vector_of (rows x.bound) (fill (rows x.bound) 1ᶠ) (fill (rows x.bound) 0ᶠ);
    }

-- ---- the mirror: the sides exchanged, refusals and reports as they are
unfoldable pub exchanged_sides : Result (Option Float × Option Float) Refusal → Result (Option Float × Option Float) Refusal
exchanged_sides (Ok (b, a)) = Ok (a, b)
exchanged_sides (Err r) = Err r

unfoldable pub exchanged : Answer → Answer
exchanged (Distances b a s) = Distances a b s
exchanged (OverCap need b s) = OverCap need b s
exchanged (Refused r) = Refused r

-- two vectors of one length, the entries of one being those of the other from the far end
abbrev pub MirrorVector : ValueVector → ValueVector → Type 0
MirrorVector v v' = (v.n ≡ v'.n) × Mirror v.n v.w v'.w × Mirror v.n v.log_offset v'.log_offset

-- the float entry at minus q and the drift turned is that at q with the sides exchanged, bit for bit, reports and refusals equal
abbrev pub FloatMirror : Type 0
FloatMirror = (k base : Float) (x : RunInput) (q : ℤ)
    → ((float_entry k base (turned_input x) (neg_ℤ q)).answer ≡ exchanged (float_entry k base x q).answer)
    × MirrorVector (float_entry k base (turned_input x) (neg_ℤ q)).vector (float_entry k base x q).vector
    × (float_steps k base (turned_input x) (neg_ℤ q) ≡ float_steps k base x q)

-- ---- presence: no bid just at the bound, no ask just at minus the bound
abbrev pub Withheld : ℕ → ℤ → Option Float → Option Float → Type 0
Withheld bound q b a = ((b ≡ None) ↔ (q ≡ pos bound)) × ((a ≡ None) ↔ (q ≡ neg_ℤ (pos bound)))

abbrev pub FloatPresence : Type 0
FloatPresence = (k base : Float) (x : RunInput) (q : ℤ) (b a : Option Float) (s : ℕ) → (float_entry k base x q).answer ≡ Distances b a s → Withheld x.bound q b a

-- ---- a distance that is answered is finite: by the float entry, from what `value_vector` answered, and from a vector
abbrev pub Finite : Option Float → Option Float → Type 0
Finite b a = (fine b ≡ true) × (fine a ≡ true)

pub record FiniteDistances : Type 0 where
  pub entry : (k base : Float) (x : RunInput) (q : ℤ) (b a : Option Float) (s : ℕ) → (float_entry k base x q).answer ≡ Distances b a s → Finite b a
  pub answer : (v : VectorAnswer) (k base : Float) (q : ℤ) (b a : Option Float) (s : ℕ) → answer_from v k base q ≡ Distances b a s → Finite b a
  pub vector : (v : ValueVector) (k base : Float) (q : ℤ) (b a : Option Float) → exact_distances v k base q ≡ Ok (b, a) → Finite b a
