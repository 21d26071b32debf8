-- The refusals of this layer, and the cap report: each is the reply in just the situation that document 01 names. Each statement is proved once, in proofs/. Definitions only.
use Rattle.std.specs.Prelude.{◌≡◌, ◌↔◌, ℕ, suc, ◌-◌, ◌/◌, ◌<◌, true, false, ◌&&◌, List, ℤ, Float, Err}
use Rattle.std.specs.Float.Ieee.{lt}
use Rattle.elementary.specs.Float.{0ᶠ, positive}
use Rattle.elementary.specs.Elementary.{outside}
use Rattle.vector.specs.Refusals.{configuration}
use Rattle.series.specs.Refusals.{numerical}
use Rattle.vector.specs.Run.{vector, cap, bound_ok, fixed, run}
use Rattle.operator.specs.Operator.{rows}
use Rattle.vector.specs.Values.{vector_of}
use Rattle.vector.specs.Causes.{RunFails, CapReported}
use Rattle.plan.specs.declared.RunInput.{RunInput}
use Rattle.vector.specs.declared.ValueVector.{ValueVector}
use Rattle.distances.specs.Refusals.{holding}
use Rattle.distances.specs.Distances.{within, place, length_ok, exact_at, exact_distances}
use Rattle.distances.specs.Weights.{DistanceFails}
use Rattle.distances.specs.FloatEntry.{floats_ok, float_entry}
use Rattle.distances.specs.declared.Answer.TheVariants as Answer
use Rattle.elementary.specs.Checks.{by}

-- ---- why the read at a place fails: a present side's distance does; the bid reads one place up, the ask one down
pub data ReadFails (v : ValueVector) (k base : Float) (i : ℕ) : Type 0 where
  by_bid : suc i < v.n → DistanceFails v k base i (suc i) → ReadFails v k base i
  by_ask : {j : ℕ} → i ≡ suc j → DistanceFails v k base i j → ReadFails v k base i

abbrev pub ReadsFail : Type 0
ReadsFail = (v : ValueVector) (k base : Float) (i n : ℕ) → (exact_at v k base i ≡ Err (by n)) ↔ ((n ≡ numerical) × ReadFails v k base i)

-- ---- exact_distances, in order: k and base, the length, the holding, and a read that fails
pub data DistancesRefused (v : ValueVector) (k base : Float) (q : ℤ) : ℕ → Type 0 where
  by_5 : (positive k && positive base) ≡ false → DistancesRefused v k base q outside
  by_1 : (positive k && positive base) ≡ true → length_ok v.n ≡ false → DistancesRefused v k base q configuration
  by_4 : (positive k && positive base) ≡ true → length_ok v.n ≡ true → within (v.n / 2) q ≡ false → DistancesRefused v k base q holding
  by_11 : (positive k && positive base) ≡ true → length_ok v.n ≡ true → within (v.n / 2) q ≡ true → ReadFails v k base (place (v.n / 2) q) → DistancesRefused v k base q numerical

abbrev pub DistancesRefusals : Type 0
DistancesRefusals = (v : ValueVector) (k base : Float) (q : ℤ) (n : ℕ) → (exact_distances v k base q ≡ Err (by n)) ↔ DistancesRefused v k base q n

-- ---- the float entry
-- why a call that passes the checks fails: its run does, or a read of the vector that it gives
pub data EntryFails (k base : Float) (x : RunInput) (q : ℤ) : Type 0 where
  by_run : {s : ℕ} → lt 0ᶠ x.tau ≡ true → RunFails (fixed x) x.tau s → EntryFails k base x q
  by_read : {w o : List Float} {s : ℕ} → run x ≡ vector w o s → ReadFails (vector_of (rows x.bound) w o) k base (place x.bound q) → EntryFails k base x q

-- in order: the floats, the bound, the holding, and a call that fails
pub data FloatRefused (k base : Float) (x : RunInput) (q : ℤ) : ℕ → Type 0 where
  at_5 : floats_ok k base x ≡ false → FloatRefused k base x q outside
  at_1 : floats_ok k base x ≡ true → bound_ok x.bound ≡ false → FloatRefused k base x q configuration
  at_4 : floats_ok k base x ≡ true → bound_ok x.bound ≡ true → within x.bound q ≡ false → FloatRefused k base x q holding
  at_11 : floats_ok k base x ≡ true → bound_ok x.bound ≡ true → within x.bound q ≡ true → EntryFails k base x q → FloatRefused k base x q numerical

abbrev pub FloatRefusals : Type 0
FloatRefusals = (k base : Float) (x : RunInput) (q : ℤ) (n : ℕ) → ((float_entry k base x q).answer ≡ Answer.Refused (by n)) ↔ FloatRefused k base x q n

-- ---- the cap report, where the checks pass: a plan of the run needs more steps than the budget left; with it come the steps spent
pub record FloatReported (k base : Float) (x : RunInput) (q : ℤ) (need : Float) (b s : ℕ) : Type 0 where
  pub floats : floats_ok k base x ≡ true
  pub bound_is_ok : bound_ok x.bound ≡ true
  pub held : within x.bound q ≡ true
  pub time : lt 0ᶠ x.tau ≡ true
  pub report : CapReported (fixed x) x.tau need b
  pub steps : s ≡ cap - b

abbrev pub FloatReports : Type 0
FloatReports = (k base : Float) (x : RunInput) (q : ℤ) (need : Float) (b s : ℕ) → ((float_entry k base x q).answer ≡ Answer.OverCap need b s) ↔ FloatReported k base x q need b s
