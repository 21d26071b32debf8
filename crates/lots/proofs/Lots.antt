-- One reckoning for every holding: the holding of so many lots, and what a single call makes of it. Assumes nothing.
use Rattle.std.specs.Prelude.{Result, Ok, Err}
use mathlib.Core.Path.{◌≡◌, refl, sym, ap, ◌∙◌, subst}
use mathlib.Core.Logic.{◌↔◌}
use Prim.Native.Nat.{ℕ, suc, ◌*◌, ◌/◌, ◌≤◌}
use native.Mathlib.Nat.{le-div_iff_mul-le, mul-div_cancel, mul-mod_left}
use native.Mathlib.Omega.{arith}
use mathlib.Core.Bool.{Bool, true, false, ◌&&◌, and-eq-true_iff}
use mathlib.Core.List.{◌∷◌, []}
use borrow.Author.Tests.{leb-true, leb-false, le-leb, eq-eqb}
use lib.IntN.{ℤ, pos, negsuc, neg_ℤ, nat_abs, ◌*ℤ◌}
use lib.Signed.{quot_z, rem_z}
use lib.Dec.{T, leb, ltb→lt}
use lib.Ieee.{Float}
use lib.Ieee.Bits.{is_true}
use Rattle.elementary.specs.Elementary.{outside}
use Rattle.elementary.specs.Checks.{verdict, first_of, first_failing, Passes, none, each}
use Rattle.elementary.proofs.Checks.{none_failing, check_passes}
use Rattle.vector.specs.Values.{refused_vector, value_vector}
use Rattle.vector.specs.declared.ValueVector.{ValueVector}
use Rattle.vector.specs.declared.Outcome.{Outcome}
use Rattle.vector.specs.declared.VectorAnswer.{VectorAnswer}
use Rattle.distances.specs.FloatEntry.{float_entry}
use Rattle.distances.specs.Reading.{read_by, answer_from}
use Rattle.distances.proofs.Reading.{entry_reads}
use Rattle.amounts.specs.Refusals.{limits}
use Rattle.amounts.specs.Amounts.{amount_ok, above0, time_ok, tau_of}
use Rattle.model.specs.Configuration.{config_limits, config_ok}
use Rattle.model.specs.Model.{lots, holding_ok, market_ok, model_of, model_ok, model_if, model_limits, model_from, model_by, check_call, input_of, exact_checks, exact_model, check_exact}
use Rattle.quote.specs.Quotes.{exact_from, exact_answer, exact_by, exact_quotes, from_if, quotes_by_answer}
use Rattle.lots.specs.Reckoning.{reckon_if, reckoning, quotes_from, holding_of, lots_if, quotes_of_lots, FromVector, LotsAreSingle, beside, reckoned, lots_checks}
use Rattle.model.specs.declared.GLFTConfig.{GLFTConfig}
use Rattle.model.specs.declared.Model.{Model}
use Rattle.amounts.proofs.Signed.{nat_abs_neg, quot_neg, rem_neg}
use Rattle.model.proofs.Passed.{Made, stopped, passed, made, exact_passed, bound_passed, lots_passed, tau_passed, floats_passed, lot_passed, spread_passed, exact_amounts}
use Rattle.elementary.specs.declared.Refusal.{Refusal}

-- ---- so many lots of a size above zero: their magnitude, and that they are a whole number of lots
nat_abs_times : (q : ℤ) (n : ℕ) → nat_abs (q *ℤ pos n) ≡ nat_abs q * n
nat_abs_times (pos m) n = refl
nat_abs_times (negsuc m) n = nat_abs_neg (pos (suc m * n))

same_leb : (a b c d : ℕ) → (a ≤ b) ↔ (c ≤ d) → leb a b ≡ leb c d
same_leb a b c d f = go (leb a b) refl
  where
    go : (t : Bool) → leb a b ≡ t → t ≡ leb c d
    go true e = sym (le-leb c d (f.0 (leb-true a b e)))
    go false e = no (leb c d) refl
      where
        no : (u : Bool) → leb c d ≡ u → false ≡ u
        no false g = refl
        no true g = absurd (omega (arith, leb-false a b e, f.1 (leb-true c d g)))

-- the holding is within a limit just where the lots are within as many as the limit holds
pub lots_within : (q d : ℤ) (l : ℕ) → T (above0 d) → leb (nat_abs q) (l / nat_abs d) ≡ leb (nat_abs (q *ℤ d)) l
unfolding above0
lots_within q (pos n) l h = rw (nat_abs_times q n) (same_leb (nat_abs q) (l / n) (nat_abs q * n) l (le-div_iff_mul-le (ltb→lt 0 n h)))
lots_within q (negsuc n) l h = absurd h

pub quot_most : (d : ℤ) (l : ℕ) → T (above0 d) → quot_z (pos l) d ≡ pos (l / nat_abs d)
unfolding above0
quot_most (pos n) l h = refl
quot_most (negsuc n) l h = absurd h

lots_whole : (q d : ℤ) → T (above0 d) → (quot_z (q *ℤ d) d ≡ q) × (nat_abs (rem_z (q *ℤ d) d) ≡ 0)
unfolding above0
lots_whole (pos m) (pos n) h = (ap pos (mul-div_cancel m (ltb→lt 0 n h)), mul-mod_left m n)
lots_whole (negsuc m) (pos n) h = (
  quot_neg (pos (suc m * n)) (pos n) ∙ ap (λ (x : ℕ). neg_ℤ (pos x)) (mul-div_cancel (suc m) (ltb→lt 0 n h)),
  rem_neg (pos (suc m * n)) (pos n) ∙ mul-mod_left (suc m) n,
)
lots_whole q (negsuc n) h = absurd h

-- so their holding passes, and its lots are they
module _ (c : GLFTConfig) (q : ℤ) (h : T (above0 c.lot_size)) where
  pub lots_of_holding : lots (holding_of c q) c ≡ q
  unfolding lots holding_of
  lots_of_holding = (lots_whole q c.lot_size h).0

  pub holding_passes : nat_abs q ≤ c.max_inventory_lots → holding_ok (holding_of c q) c ≡ true
  unfolding holding_ok lots holding_of
  holding_passes k =
      rw ((lots_whole q c.lot_size h).1, (lots_whole q c.lot_size h).0, eq-eqb 0 0 refl, le-leb (nat_abs q) c.max_inventory_lots k)

-- ---- a call that passes, from its value vector
module _ (mid h : ℤ) (c : GLFTConfig) (vol : ℤ) (t : ℕ) where
  abbrev tau : Float
  tau = tau_of c.terminal_time t

  -- what the statement says of a model
  Read : Result (Model × ℤ) Refusal → Type 0
  Read (Ok (m, q)) = answer_from (value_vector (input_of m tau)) m.k m.base q ≡ (float_entry m.k m.base (input_of m tau) q).answer
  Read (Err r) = Unit {0}

  model_read : {a : Result (Model × ℤ) Refusal} → Made (exact_checks mid h c vol t) (model_of c vol) (lots h c) a → Read a
  unfolding Read model_of model_from model_by
  model_read (stopped k) = tt
  model_read (passed k) =
      let m = model_of c vol in
      let p = exact_passed mid h c vol t k in
      sym (entry_reads m.k m.base (input_of m tau) (lots h c)
      (floats_passed m tau p.4 (tau_passed mid h c vol t p.0)) (bound_passed c p.1) (lots_passed h c p.3))

  made_read : Read (exact_model mid h c vol t)
  unfolding exact_model
  made_read = model_read (made _ _ _)

pub from_vector : FromVector
unfolding quotes_from quotes_by_answer from_if exact_quotes exact_answer exact_from Read
from_vector mid h c vol t m q made =
    let r = subst (Read mid h c vol t) made (made_read mid h c vol t) in
    let a = exact_amounts mid h c vol t m q made in
    rw (made, is_true (amount_ok mid) a.0, is_true (amount_ok c.min_spread) a.1) (ap (exact_by mid c.min_spread) r)

-- ---- a reckoning is read with the model's k and base: what stands beside a report or a refusal is not read
read_beside : (o : Outcome) (v : ValueVector) (k base : Float) (q : ℤ) → read_by o v (beside o k) (beside o base) q ≡ read_by o v k base q
unfolding read_by beside
read_beside (Outcome.Done s) v k base q = refl
read_beside (Outcome.OverCap need b s) v k base q = refl
read_beside (Outcome.Refused n) v k base q = refl

lots_read : (mid : ℤ) (c : GLFTConfig) (m : Model) (a : VectorAnswer) (q : ℤ)
    → quotes_of_lots mid c (reckoned m a) q ≡ lots_if (first_failing (lots_checks c q)) (quotes_from mid c.min_spread m.k m.base q a)
unfolding quotes_of_lots quotes_from reckoned answer_from
lots_read mid c m a q = rw (read_beside a.outcome a.vector m.k m.base q)

-- ---- the checks that no holding takes part in
market_passed : {l v m : Bool} {i j k : ℕ} → Passes ((l, i) ∷ (v, j) ∷ (m, k) ∷ []) → (l ≡ true) × (v ≡ true) × (m ≡ true)
market_passed (each l (each v (each m none))) = (l, v, m)

-- with a holding within the limit, or not
limits_with : (x h y z : Bool) → (x && true && y && z) ≡ true → (x && h && y && z) ≡ h
limits_with true h true true e = go h
  where
    go : (h : Bool) → (h && true && true) ≡ h
    go true = refl
    go false = refl
limits_with true h true false e = cc
limits_with true h false z e = cc
limits_with false h y z e = cc

module _ (mid : ℤ) (c : GLFTConfig) (vol : ℤ) (t : ℕ) (e : check_call mid c vol t ≡ (Ok tt)) where
  checks : ((time_ok t && model_limits mid (pos 0) c vol) ≡ true) × (config_ok c ≡ true) × (market_ok mid vol ≡ true)
  unfolding check_call check_exact
  checks = market_passed ((none_failing _).0 (check_passes _ (sym e)))

  pub time_checked : time_ok t ≡ true
  time_checked = ((and-eq-true_iff (time_ok t) (model_limits mid (pos 0) c vol)).0 checks.0).0

  pub config_checked : config_ok c ≡ true
  config_checked = checks.1

  limits_checked : model_limits mid (pos 0) c vol ≡ true
  limits_checked = ((and-eq-true_iff (time_ok t) (model_limits mid (pos 0) c vol)).0 checks.0).1

  limits_are : (h : ℤ) → model_limits mid h c vol ≡ amount_ok h
  unfolding model_limits amount_ok
  limits_are h = limits_with (amount_ok mid) (amount_ok h) (amount_ok vol) (config_limits c) limits_checked

  pub amounts_checked : (amount_ok mid && amount_ok c.min_spread) ≡ true
  unfolding model_limits
  amounts_checked =
      let u = (and-eq-true_iff (amount_ok mid && amount_ok (pos 0) && amount_ok vol) (config_limits c)).0 limits_checked in
      let w = (and-eq-true_iff (amount_ok mid) (amount_ok (pos 0))).0 ((and-eq-true_iff (amount_ok mid && amount_ok (pos 0)) (amount_ok vol)).0 u.0).0 in
      rw (w.0, is_true (amount_ok c.min_spread) (spread_passed c (subst T (sym u.1) tt)))

  pub lot_checked : above0 c.lot_size ≡ true
  lot_checked = is_true (above0 c.lot_size) (lot_passed c checks.1)

  module _ (q : ℤ) (h : nat_abs q ≤ c.max_inventory_lots) where
    made_by : exact_model mid (holding_of c q) c vol t ≡ model_if (first_failing ((amount_ok (holding_of c q), limits) ∷ (model_ok (model_of c vol), outside) ∷ [])) (model_of c vol) q
    unfolding exact_model first_failing first_of verdict
    made_by =
        let p = lot_passed c checks.1 in
        rw (time_checked, limits_are (holding_of c q), checks.1, checks.2, holding_passes c q p h, lots_of_holding c q p)

    -- 2, where the holding is beyond the limit; 5, where the model is refused; and the quotes from the vector
    no_holding : amount_ok (holding_of c q) ≡ false → quotes_of_lots mid c (reckoning c vol t) q ≡ exact_quotes mid (holding_of c q) c vol t
    unfolding quotes_of_lots lots_if exact_quotes exact_answer exact_from exact_by model_if first_failing first_of verdict
    no_holding a = rw (lot_checked, a, made_by, a)

    no_model : amount_ok (holding_of c q) ≡ true → model_ok (model_of c vol) ≡ false → quotes_of_lots mid c (reckoning c vol t) q ≡ exact_quotes mid (holding_of c q) c vol t
    unfolding quotes_of_lots lots_if quotes_from quotes_by_answer from_if reckoning reckoned reckon_if answer_from read_by refused_vector exact_quotes exact_answer exact_from exact_by model_if first_failing first_of verdict
    no_model a f = rw (lot_checked, made_by, a, f, amounts_checked)

    with_model : amount_ok (holding_of c q) ≡ true → model_ok (model_of c vol) ≡ true → quotes_of_lots mid c (reckoning c vol t) q ≡ exact_quotes mid (holding_of c q) c vol t
    unfolding lots_if reckoning reckon_if model_if first_failing first_of verdict
    with_model a f =
        rw (lots_read, lot_checked, a, f) (from_vector mid (holding_of c q) c vol t (model_of c vol) q (rw (made_by, a, f)))

    lots_single : (a f : Bool) → amount_ok (holding_of c q) ≡ a → model_ok (model_of c vol) ≡ f → quotes_of_lots mid c (reckoning c vol t) q ≡ exact_quotes mid (holding_of c q) c vol t
    lots_single false f ea ef = no_holding ea
    lots_single true false ea ef = no_model ea ef
    lots_single true true ea ef = with_model ea ef

pub lots_are_single : LotsAreSingle
lots_are_single mid c vol t q e h = lots_single mid c vol t e q h _ _ refl refl
