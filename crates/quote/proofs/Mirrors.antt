-- The two calls of demand 3 before prices: at the opposite holding and drift the model has the opposite lots and beta, so distances change sides. Assumes nothing.
use Rattle.std.specs.Prelude.{Some, Result, Ok, Err}
use Rattle.std.proofs.Common.{◌≡◌, ℕ, zero, suc, ◌*◌, ◌^◌, ◌<◌, ◌≤◌, Bool, true, false, T, ℤ, pos, negsuc, ◌+ℤ◌, ◌*ℤ◌, neg_ℤ, nat_abs, sym, refl, ap, ◌∙◌, le_trans, zero-lt-suc, mul-le-mul_left, arith, lit≤, lt-ltb}
use lib.IntN.{neg_ℤ-neg_ℤ, neg_ℤ-+ℤ}
use lib.Signed.{lt_z, quot_z}
use lib.Ieee.{Float, binary64, neg, of_int, of_bits}
use Rattle.elementary.specs.Float.{◌⊕◌, ◌⊖◌, ◌⊗◌, ◌⊘◌, whole, 1ᶠ, 2ᶠ, finite, positive}
use Rattle.elementary.specs.Checks.{Verdict, passes, refused, first_failing}
use Rattle.elementary.proofs.Signs.{mul_neg_left, div_neg_left, sub_neg}
use Rattle.elementary.proofs.Zeros.{Zero, zero_equal, zero_neg}
use Rattle.elementary.proofs.Exact.{one_whole, twice_and_one, twice_less_one}
use Rattle.plan.specs.Plan.{cap, largest_bound}
use Rattle.vector.specs.Promises.{turned_input}
use Rattle.plan.specs.declared.RunInput.{RunInput}
use Rattle.distances.specs.Promises.{Counted, exchanged, exchanged_sides}
use Rattle.distances.specs.FloatEntry.{float_entry, float_steps}
use Rattle.distances.specs.declared.FloatAnswer.{FloatAnswer}
use Rattle.distances.proofs.Drift.{drift_zero_entry}
use Rattle.distances.proofs.FloatMirror.{float_mirror, sides_exchanged}
use Rattle.distances.proofs.Counting.{steps_counted}
use Rattle.amounts.specs.Amounts.{amount_ok, tau_of}
use Rattle.model.specs.Configuration.{config_ok, turned}
use Rattle.model.specs.Model.{lots, holding_ok, model_by, model_from, model_of, model_if, model_limits, input_of, exact_checks, exact_model, closed_checks, closed_model}
use Rattle.quote.specs.ClosedForm.{slope, form_bid, form_ask, bid_form, ask_form, form_if, closed_form_distances}
use Rattle.quote.specs.Quotes.{exact_from, exact_answer, closed_from, closed_answer, steps_from, exact_steps}
use Rattle.quote.specs.Promises.{ExactMirror, ClosedMirror}
use Rattle.model.specs.declared.GLFTConfig.{GLFTConfig}
use Rattle.model.specs.declared.Model.{Model}
use Rattle.amounts.proofs.Signed.{nat_abs_neg, quot_neg, rem_neg, times_neg, whole_neg, lt_z_neg}
use Rattle.model.proofs.Turned.{beta_of, beta_neg, beta_none, limits_turned, model_ok_turned, driftless_turned}
use Rattle.model.proofs.Passed.{Made, stopped, passed, made, exact_passed, closed_passed, k_passed, few_lots}
use Rattle.elementary.specs.declared.Refusal.{Refusal}

-- ---- the model
-- another model, and the lots with the other sign
opposed : Model → Result (Model × ℤ) Refusal → Result (Model × ℤ) Refusal
opposed n (Ok (m, q)) = Ok (n, neg_ℤ q)
opposed n (Err r) = Err r

if_opposed : (v : Verdict) (b n : Model) (q : ℤ) → model_if v n (neg_ℤ q) ≡ opposed n (model_if v b q)
unfolding opposed model_if
if_opposed passes b n q = refl
if_opposed (refused r) b n q = refl

module _ (mid h : ℤ) (c : GLFTConfig) (vol : ℤ) where
  -- each check answers alike
  limits_opposed : model_limits mid (neg_ℤ h) (turned c) vol ≡ model_limits mid h c vol
  unfolding model_limits amount_ok
  limits_opposed = rw (nat_abs_neg h, limits_turned c)

  holding_opposed : holding_ok (neg_ℤ h) (turned c) ≡ holding_ok h c
  unfolding holding_ok lots
  holding_opposed = rw (rem_neg h c.lot_size, quot_neg h c.lot_size, nat_abs_neg (quot_z h c.lot_size))

  lots_opposed : lots (neg_ℤ h) (turned c) ≡ neg_ℤ (lots h c)
  unfolding lots
  lots_opposed = quot_neg h c.lot_size

  exact_opposed : (t : ℕ) → exact_model mid (neg_ℤ h) (turned c) vol t ≡ opposed (model_of (turned c) vol) (exact_model mid h c vol t)
  unfolding exact_model config_ok
  exact_opposed t = rw (limits_opposed, holding_opposed, lots_opposed, model_ok_turned c vol) (if_opposed (first_failing (exact_checks mid h c vol t)) (model_of c vol) (model_of (turned c) vol) (lots h c))

  closed_opposed : closed_model mid (neg_ℤ h) (turned c) vol ≡ opposed (model_of (turned c) vol) (closed_model mid h c vol)
  unfolding closed_model config_ok
  closed_opposed = rw (limits_opposed, driftless_turned c, holding_opposed, lots_opposed, model_ok_turned c vol) (if_opposed (first_failing (closed_checks mid h c vol)) (model_of c vol) (model_of (turned c) vol) (lots h c))

-- ---- exact calls
-- the float entry at the opposite drift and holding. Without a drift beta is a zero, and its opposite gives the same entry.
module _ (k base : Float) (q : ℤ) where
  Opposite : RunInput → RunInput → Type 0
  Opposite x y = ((float_entry k base x (neg_ℤ q)).answer ≡ exchanged (float_entry k base y q).answer) × (float_steps k base x (neg_ℤ q) ≡ float_steps k base y q)

  by_mirror : (y : RunInput) → Opposite (turned_input y) y
  unfolding Opposite
  by_mirror y = let r = float_mirror k base y q in (r.0, r.2)

  -- either zero
  by_zeros : (x : RunInput) → Zero x.beta → Opposite x x
  unfolding Opposite
  by_zeros x h =
      let r = float_mirror k base x q in
      let z = zero_equal binary64 h in
      let o = zero_equal binary64 (zero_neg h) in (
        ap (λ (a : FloatAnswer). a.answer) (drift_zero_entry.entry k base x (neg_ℤ q) z ∙ sym (drift_zero_entry.entry k base (turned_input x) (neg_ℤ q) o)) ∙ r.0,
        drift_zero_entry.steps k base x (neg_ℤ q) z ∙ sym (drift_zero_entry.steps k base (turned_input x) (neg_ℤ q) o) ∙ r.2,
      )

  -- numbers of a drift
  abbrev drifting : Float → Float → ℕ → Float → ℤ → RunInput
  drifting alpha eta bound tau d = record { alpha = alpha; beta = beta_of k d; eta = eta; bound = bound; tau = tau }

  opposite : T (finite k) → (alpha eta : Float) (bound : ℕ) (tau : Float) (d : ℤ) → Opposite (drifting alpha eta bound tau (neg_ℤ d)) (drifting alpha eta bound tau d)
  opposite h alpha eta bound tau (pos zero) = by_zeros (drifting alpha eta bound tau (pos 0)) (beta_none k h)
  opposite h alpha eta bound tau (pos (suc n)) = rw (beta_neg k (pos (suc n)) (zero-lt-suc n)) (by_mirror (drifting alpha eta bound tau (pos (suc n))))
  opposite h alpha eta bound tau (negsuc n) = rw (beta_neg k (negsuc n) (zero-lt-suc n)) (by_mirror (drifting alpha eta bound tau (negsuc n)))

from_opposed : (mid h : ℤ) (c : GLFTConfig) (vol : ℤ) (t : ℕ) {a : Result (Model × ℤ) Refusal} → Made (exact_checks mid h c vol t) (model_of c vol) (lots h c) a
    → let tau = tau_of c.terminal_time t in
    (exact_from (opposed (model_of (turned c) vol) a) tau ≡ exchanged (exact_from a tau)) × (steps_from (opposed (model_of (turned c) vol) a) tau ≡ steps_from a tau)
unfolding opposed exact_from steps_from exchanged model_of model_from model_by Opposite
from_opposed mid h c vol t (stopped k) = (refl, refl)
from_opposed mid h c vol t (passed k) =
    let m = model_of c vol in opposite m.k m.base (lots h c) (k_passed m (exact_passed mid h c vol t k).4) m.alpha m.eta m.q_max (tau_of c.terminal_time t) c.drift

from_counted : (a : Result (Model × ℤ) Refusal) (tau : Float) → Counted (exact_from a tau) (steps_from a tau) × (steps_from a tau ≤ cap)
unfolding exact_from steps_from Counted
from_counted (Ok (m, q)) tau = steps_counted m.k m.base (input_of m tau) q
from_counted (Err r) tau = (tt, omega arith)

module _ (mid h : ℤ) (c : GLFTConfig) (vol : ℤ) (t : ℕ) where
  answer_exchanged : exact_answer mid (neg_ℤ h) (turned c) vol t ≡ exchanged (exact_answer mid h c vol t)
  unfolding exact_answer exact_model
  answer_exchanged = ap (λ (a : Result (Model × ℤ) Refusal). exact_from a (tau_of c.terminal_time t)) (exact_opposed mid h c vol t) ∙ (from_opposed mid h c vol t (made _ _ _)).0

  steps_same : exact_steps mid (neg_ℤ h) (turned c) vol t ≡ exact_steps mid h c vol t
  unfolding exact_steps exact_model
  steps_same = ap (λ (a : Result (Model × ℤ) Refusal). steps_from a (tau_of c.terminal_time t)) (exact_opposed mid h c vol t) ∙ (from_opposed mid h c vol t (made _ _ _)).1

  -- an exact answer carries the steps of the defined run
  pub exact_counted : Counted (exact_answer mid h c vol t) (exact_steps mid h c vol t) × (exact_steps mid h c vol t ≤ cap)
  unfolding exact_answer exact_steps
  exact_counted = from_counted (exact_model mid h c vol t) (tau_of c.terminal_time t)

pub exact_mirror : ExactMirror
exact_mirror mid h c vol t = (answer_exchanged mid h c vol t, steps_same mid h c vol t, (exact_counted mid h c vol t).1)

-- ---- the closed form
-- 2 q + 1 is never zero, so 2 (- q) - 1 is its opposite as a float too
odd_some : (q : ℤ) → 0 < nat_abs (pos 2 *ℤ q +ℤ pos 1)
odd_some (pos n) = omega arith
odd_some (negsuc n) = rw (twice n, lt-ltb 1 (suc (suc (2 * n))) (omega arith)) (omega arith)
  where
    twice : (n : ℕ) → 2 * suc n ≡ suc (suc (2 * n))
    twice n = omega arith

two_whole : 2ᶠ ≡ whole (pos 2)
unfolding of_bits of_int
two_whole = refl

odd_turned : (q : ℤ) → nat_abs q ≤ largest_bound → 2ᶠ ⊗ whole (neg_ℤ q) ⊖ 1ᶠ ≡ neg (2ᶠ ⊗ whole q ⊕ 1ᶠ)
odd_turned q h =
    let small : 2 * nat_abs q ≤ 2 ^ 53 = le_trans (mul-le-mul_left 2 h) (lit≤ tt) in
    rw (two_whole, one_whole, twice_and_one binary64 q small, twice_less_one binary64 (neg_ℤ q) (rw (nat_abs_neg q) small), times_neg 2 q)
    (ap (λ (z : ℤ). whole z) (sym (neg_ℤ-+ℤ (pos 2 *ℤ q) (pos 1))) ∙ whole_neg binary64 (pos 2 *ℤ q +ℤ pos 1) (odd_some q))

form_side : (t : Bool) (base c : Float) (q : ℤ) → nat_abs q ≤ largest_bound → form_ask t base c (whole (neg_ℤ q)) ≡ form_bid t base c (whole q)
unfolding form_bid form_ask
form_side false base c q h = refl
form_side true base c q h =
    let x = 2ᶠ ⊗ whole q ⊕ 1ᶠ in
    ap Some (rw (odd_turned q h, div_neg_left binary64 x 2ᶠ, mul_neg_left binary64 (x ⊘ 2ᶠ) c, sub_neg binary64 base (x ⊘ 2ᶠ ⊗ c)))

module _ (m : Model) (q : ℤ) (h : nat_abs q ≤ largest_bound) where
  bid_opposed : bid_form m (neg_ℤ q) ≡ ask_form m q
  unfolding bid_form ask_form
  bid_opposed = rw (← form_side (lt_z (neg_ℤ q) (pos m.q_max)) m.base (slope m) (neg_ℤ q) (rw (nat_abs_neg q) h), ← lt_z_neg (neg_ℤ q) (pos m.q_max), neg_ℤ-neg_ℤ q)

  ask_opposed : ask_form m (neg_ℤ q) ≡ bid_form m q
  unfolding bid_form ask_form
  ask_opposed = rw (lt_z_neg q (pos m.q_max), form_side (lt_z q (pos m.q_max)) m.base (slope m) q h)

  form_exchanged : closed_form_distances m (neg_ℤ q) ≡ exchanged_sides (closed_form_distances m q)
  unfolding closed_form_distances form_if exchanged_sides
  form_exchanged = go (positive (slope m))
    where
      go : (t : Bool) → form_if t m (neg_ℤ q) ≡ exchanged_sides (form_if t m q)
      go true = rw (bid_opposed, ask_opposed) (sides_exchanged _ _)
      go false = refl

-- beta has no part in it
form_turned : (c : GLFTConfig) (vol q : ℤ) → closed_form_distances (model_of (turned c) vol) q ≡ closed_form_distances (model_of c vol) q
unfolding closed_form_distances form_if bid_form ask_form slope model_of model_from model_by
form_turned c vol q = go (positive (slope (model_of c vol)))
  where
    go : (t : Bool) → form_if t (model_of (turned c) vol) q ≡ form_if t (model_of c vol) q
    go true = refl
    go false = refl

closed_exchanged : (mid h : ℤ) (c : GLFTConfig) (vol : ℤ) {a : Result (Model × ℤ) Refusal} → Made (closed_checks mid h c vol) (model_of c vol) (lots h c) a
    → closed_from (opposed (model_of (turned c) vol) a) ≡ exchanged_sides (closed_from a)
unfolding opposed closed_from exchanged_sides
closed_exchanged mid h c vol (stopped k) = refl
closed_exchanged mid h c vol (passed k) =
    let p = closed_passed mid h c vol k in form_turned c vol (neg_ℤ (lots h c)) ∙ form_exchanged (model_of c vol) (lots h c) (few_lots h c p.1 p.4)

pub closed_mirror : ClosedMirror
unfolding closed_answer closed_model
closed_mirror mid h c vol = ap closed_from (closed_opposed mid h c vol) ∙ closed_exchanged mid h c vol (made _ _ _)
