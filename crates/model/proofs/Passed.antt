-- The checks of numbers either stop a call or all pass, and what it says that they pass. Assumes nothing.
use Rattle.std.specs.Prelude.{Result, Ok, Err}
use mathlib.Core.Path.{◌≡◌, refl, sym, subst}
use Prim.Native.Nat.{ℕ, ◌-◌, ◌^◌, ◌≤◌}
use native.Mathlib.Nat.{le_trans, sub-le}
use native.Mathlib.Omega.{arith}
use mathlib.Core.Bool.{Bool, true, false, ◌&&◌, and-eq-true_iff}
use mathlib.Core.List.{List, ◌∷◌, ◌++◌}
use borrow.Author.Tests.{leb-true}
use lib.IntN.{ℤ, pos, nat_abs}
use lib.Signed.{le_z, rem_z}
use lib.Dec.{T, leb, ltb, eqb, lit≤}
use lib.Ieee.{Float, nan, inf, fin, binary64, le, lt, of_int, of_bits, fits}
use lib.Ieee.Fits.{round-fits}
use lib.Ieee.Bits.{is_true}
use lib.Ieee.Exact.{HasValue}
use Rattle.elementary.specs.Float.{◌⊘◌, whole, 0ᶠ, finite, positive}
use Rattle.elementary.specs.Checks.{Verdict, passes, refused, verdict, first_of, first_failing, check_of, Refuses, Passes, none, each, by}
use Rattle.elementary.proofs.Checks.{first_failing_lem, none_failing, failing_joined}
use Rattle.elementary.proofs.Signs.{nonneg}
use Rattle.elementary.proofs.Exact.{whole_value, div_one_f}
use Rattle.elementary.proofs.Order.{round_nonneg, div_nonneg, div_number, div_anti, finite_below}
use Rattle.plan.specs.Refusals.{configuration}
use Rattle.plan.specs.Plan.{largest_bound, bound_ok}
use Rattle.plan.specs.Input.{rates_ok}
use Rattle.distances.specs.FloatEntry.{floats_ok}
use Rattle.amounts.specs.Refusals.{limits}
use Rattle.amounts.specs.Amounts.{amount_ok, time_limit, time_ok, above0, tau_of}
use Rattle.model.specs.Configuration.{config_limits, config_ok}
use Rattle.model.specs.Model.{lots, holding_ok, model_if, model_ok, model_limits, market_ok, model_of, input_of, driftless, holding_checks, exact_checks, closed_checks, exact_model, closed_model, model_after}
use Rattle.model.specs.declared.GLFTConfig.{GLFTConfig}
use Rattle.model.specs.declared.Model.{Model}
use Rattle.model.proofs.Joined.{verdict_told}
use mir.Facts.{and_yes}
use Rattle.elementary.specs.declared.Refusal.{Refusal}

-- ---- by the checks
pub data Made (l : List (Bool × ℕ)) (b : Model) (q : ℤ) : Result (Model × ℤ) Refusal → Type 0 where
  stopped : {n : ℕ} → Refuses l n → Made l b q (Err (by n))
  passed : Passes l → Made l b q (Ok (b, q))

pub made : (l : List (Bool × ℕ)) (b : Model) (q : ℤ) → Made l b q (model_if (first_failing l) b q)
unfolding model_if
made l b q = go (first_failing l) refl
  where
    go : (v : Verdict) → first_failing l ≡ v → Made l b q (model_if v b q)
    go passes e = passed ((none_failing l).0 e)
    go (refused n) e = stopped ((first_failing_lem l n).0 e)

pub stops : {l : List (Bool × ℕ)} {n : ℕ} (b : Model) (q : ℤ) → Refuses l n → model_if (first_failing l) b q ≡ Err (by n)
unfolding model_if
stops {l} {n} b q k = rw ((first_failing_lem l n).1 k)

pub goes_on : {l : List (Bool × ℕ)} (b : Model) (q : ℤ) → Passes l → model_if (first_failing l) b q ≡ Ok (b, q)
unfolding model_if
goes_on {l} b q k = rw ((none_failing l).1 k)

-- the checks of an exact call and of a closed-form call, one by one
pub exact_passed : (mid h : ℤ) (c : GLFTConfig) (vol : ℤ) (t : ℕ) → Passes (exact_checks mid h c vol t)
    → ((time_ok t && model_limits mid h c vol) ≡ true) × (config_ok c ≡ true) × (market_ok mid vol ≡ true) × (holding_ok h c ≡ true) × (model_ok (model_of c vol) ≡ true)
exact_passed mid h c vol t (each l (each v (each m (each g (each f none))))) = (l, v, m, g, f)

pub closed_passed : (mid h : ℤ) (c : GLFTConfig) (vol : ℤ) → Passes (closed_checks mid h c vol)
    → (model_limits mid h c vol ≡ true) × (config_ok c ≡ true) × (driftless c ≡ true) × (market_ok mid vol ≡ true) × (holding_ok h c ≡ true) × (model_ok (model_of c vol) ≡ true)
closed_passed mid h c vol (each l (each v (each d (each m (each g (each f none)))))) = (l, v, d, m, g, f)

-- ---- the bound is one of 1 to 200, and the lots are within it
pub bound_passed : (c : GLFTConfig) → config_ok c ≡ true → bound_ok c.max_inventory_lots ≡ true
unfolding config_ok
bound_passed c e =
    let p = above0 c.risk_aversion && above0 c.order_intensity_k && above0 c.intensity_scale_a && above0 c.lot_size in
    let b = bound_ok c.max_inventory_lots in
    let t = ltb 0 c.terminal_time in
    ((and-eq-true_iff p b).0 ((and-eq-true_iff (p && b) t).0 ((and-eq-true_iff (p && b && t) (le_z (pos 0) c.min_spread)).0 e).0).0).1

pub lots_passed : (h : ℤ) (c : GLFTConfig) → holding_ok h c ≡ true → leb (nat_abs (lots h c)) c.max_inventory_lots ≡ true
unfolding holding_ok
lots_passed h c e = ((and-eq-true_iff (eqb (nat_abs (rem_z h c.lot_size)) 0) (leb (nat_abs (lots h c)) c.max_inventory_lots)).0 e).1

pub few_lots : (h : ℤ) (c : GLFTConfig) → config_ok c ≡ true → holding_ok h c ≡ true → nat_abs (lots h c) ≤ largest_bound
few_lots h c v e =
    let n = c.max_inventory_lots in
    le_trans (leb-true (nat_abs (lots h c)) n (lots_passed h c e)) (leb-true n largest_bound ((and-eq-true_iff (leb 1 n) (leb n largest_bound)).0 (bound_passed c v)).1)

-- ---- the floats are fine for the float entry
finite_value : (x : Float) (s : Bool) (a c : ℕ) → HasValue x s a c → T (finite x)
unfolding finite
finite_value nan s a c v = absurd v
finite_value (inf t) s a c v = absurd v
finite_value (fin t m e) s a c v = tt

one_positive : T (positive (whole (pos 1)))
unfolding positive finite lt of_int of_bits
one_positive = tt

-- divided by 1 or more
quotient_finite : (x y : Float) → T (nonneg x) → T (finite x) → T (fits binary64 x) → T (nonneg y) → T (positive y) → T (le (whole (pos 1)) y) → T (finite (x ⊘ y))
quotient_finite x y p t v q k h =
    finite_below (x ⊘ y) x (div_nonneg binary64 x y p q (div_number binary64 x y p k))
    (subst (λ (z : Float). T (le (x ⊘ y) z)) (div_one_f binary64 x v) (div_anti binary64 x (whole (pos 1)) y p t one_positive q h))
    t

-- a whole number that a float holds, in thousandths
thousandths : (n : ℕ) → n ≤ 2 ^ 53 → T (finite (whole (pos n) ⊘ whole (pos 1000)))
unfolding positive finite le lt of_int of_bits
thousandths n h =
    quotient_finite (whole (pos n)) (whole (pos 1000)) (round_nonneg binary64 n 1) (finite_value (whole (pos n)) false n 1 (whole_value binary64 (pos n) h)) (round-fits binary64 false n 1) tt tt tt

time_passed : (c : GLFTConfig) → config_limits c ≡ true → c.terminal_time ≤ time_limit
unfolding config_limits time_ok
time_passed c e =
    let p = amount_ok c.risk_aversion && amount_ok c.order_intensity_k && amount_ok c.intensity_scale_a && amount_ok c.lot_size && amount_ok c.min_spread && amount_ok c.drift in
    leb-true c.terminal_time time_limit ((and-eq-true_iff p (time_ok c.terminal_time)).0 e).1

pub tau_passed : (mid h : ℤ) (c : GLFTConfig) (vol : ℤ) (t : ℕ) → (time_ok t && model_limits mid h c vol) ≡ true → finite (tau_of c.terminal_time t) ≡ true
unfolding model_limits tau_of
tau_passed mid h c vol t e =
    let p = amount_ok mid && amount_ok h && amount_ok vol in
    let limits : config_limits c ≡ true = ((and-eq-true_iff p (config_limits c)).0 ((and-eq-true_iff (time_ok t) (model_limits mid h c vol)).0 e).1).1 in
    is_true (finite (tau_of c.terminal_time t)) (thousandths (c.terminal_time - t) (le_trans (sub-le c.terminal_time t) (le_trans (time_passed c limits) (lit≤ tt))))

-- the model's tests, and tau's, without those of gamma, A and sigma²
fewer : (k g a s x y z t w : Bool) → (k && g && a && s && x && y && z && t) ≡ true → w ≡ true → (k && z && (x && t && y && w)) ≡ true
fewer k g a s x y z t w h e =
    let u₀ = (and-eq-true_iff (k && g && a && s && x && y && z) t).0 h in
    let u₁ = (and-eq-true_iff (k && g && a && s && x && y) z).0 u₀.0 in
    let u₂ = (and-eq-true_iff (k && g && a && s && x) y).0 u₁.0 in
    let u₃ = (and-eq-true_iff (k && g && a && s) x).0 u₂.0 in
    let u₄ = (and-eq-true_iff (k && g && a) s).0 u₃.0 in
    let u₅ = (and-eq-true_iff (k && g) a).0 u₄.0 in
    let u₆ = (and-eq-true_iff k g).0 u₅.0 in
    rw (u₆.0, u₁.1, u₃.1, u₀.1, u₂.1, e)

-- k is a number
first_of_lem : (k g a s x y z t : Bool) → (k && g && a && s && x && y && z && t) ≡ true → k ≡ true
first_of_lem true g a s x y z t h = refl
first_of_lem false g a s x y z t h = h

pub positive_number : (x : Float) → positive x ≡ true → T (finite x)
unfolding positive
positive_number x h = subst T (sym ((and-eq-true_iff (finite x) (lt 0ᶠ x)).0 h).0) tt

pub k_passed : (m : Model) → model_ok m ≡ true → T (finite m.k)
unfolding model_ok
k_passed m f = positive_number m.k (first_of_lem (positive m.k) (positive m.gamma) (positive m.a) (positive m.sigma2) (positive m.alpha) (positive m.eta) (positive m.base) (finite m.beta) f)

pub floats_passed : (m : Model) (tau : Float) → model_ok m ≡ true → finite tau ≡ true → floats_ok m.k m.base (input_of m tau) ≡ true
unfolding model_ok floats_ok rates_ok
floats_passed m tau f e = fewer (positive m.k) (positive m.gamma) (positive m.a) (positive m.sigma2) (positive m.alpha) (positive m.eta) (positive m.base) (finite m.beta) (finite tau) f e

-- ---- what it says that a configuration passes, and that there is a model
pub lot_passed : (c : GLFTConfig) → config_ok c ≡ true → T (above0 c.lot_size)
unfolding config_ok
lot_passed c e =
    let p = above0 c.risk_aversion && above0 c.order_intensity_k && above0 c.intensity_scale_a in
    let l = above0 c.lot_size in
    let b = bound_ok c.max_inventory_lots in
    let t = ltb 0 c.terminal_time in
    let u = (and_yes (p && l && b && t) (le_z (pos 0) c.min_spread) (subst T (sym e) tt)).0 in
    (and_yes p l (and_yes (p && l) b (and_yes (p && l && b) t u).0).0).1

pub spread_passed : (c : GLFTConfig) → T (config_limits c) → T (amount_ok c.min_spread)
unfolding config_limits
spread_passed c h =
    let p = amount_ok c.risk_aversion && amount_ok c.order_intensity_k && amount_ok c.intensity_scale_a && amount_ok c.lot_size in
    let s = amount_ok c.min_spread in
    let d = amount_ok c.drift in
    (and_yes p s (and_yes (p && s) d (and_yes (p && s && d) (time_ok c.terminal_time) h).0).0).1

-- ---- the numbers of a call that pass: mid and min spread are within the limit
pub limits_passed : (mid h : ℤ) (c : GLFTConfig) (vol : ℤ) → model_limits mid h c vol ≡ true → T (amount_ok mid) × T (amount_ok c.min_spread)
unfolding model_limits
limits_passed mid h c vol k =
    let u = and_yes (amount_ok mid && amount_ok h && amount_ok vol) (config_limits c) (subst T (sym k) tt) in
    ((and_yes (amount_ok mid) (amount_ok h) (and_yes (amount_ok mid && amount_ok h) (amount_ok vol) u.0).0).0, spread_passed c u.1)

-- so too where a model is made, whose first check is l and that of those numbers
pub made_amounts : (l : Bool) (mid h : ℤ) (c : GLFTConfig) (vol : ℤ) → (l ≡ true → model_limits mid h c vol ≡ true) → (r : List (Bool × ℕ)) (b m : Model) (p q : ℤ)
    → model_if (first_failing ((l, limits) ∷ r)) b p ≡ Ok (m, q) → T (amount_ok mid) × T (amount_ok c.min_spread)
unfolding model_if first_failing first_of verdict
made_amounts true mid h c vol f r b m p q e = limits_passed mid h c vol (f refl)
made_amounts false mid h c vol f r b m p q e = let z : ◌≡◌ {A = ℕ} 0 1 = cc in absurd (omega arith)

pub exact_amounts : (mid h : ℤ) (c : GLFTConfig) (vol : ℤ) (t : ℕ) (m : Model) (q : ℤ) → exact_model mid h c vol t ≡ Ok (m, q) → T (amount_ok mid) × T (amount_ok c.min_spread)
unfolding exact_model
exact_amounts mid h c vol t m q e =
    made_amounts (time_ok t && model_limits mid h c vol) mid h c vol (λ k. ((and-eq-true_iff (time_ok t) (model_limits mid h c vol)).0 k).1) _ _ m _ q e

pub closed_amounts : (mid h : ℤ) (c : GLFTConfig) (vol : ℤ) (m : Model) (q : ℤ) → closed_model mid h c vol ≡ Ok (m, q) → T (amount_ok mid) × T (amount_ok c.min_spread)
unfolding closed_model
closed_amounts mid h c vol m q e = made_amounts (model_limits mid h c vol) mid h c vol (λ k. k) _ _ m _ q e

-- ---- after checks that say that the lot size is positive, the model is that of all the checks
lot_first : (b : Bool) (l : List (Bool × ℕ)) (m : Model) (q : ℤ) → b ≡ true → model_if (first_failing ((b, configuration) ∷ l)) m q ≡ model_if (first_failing l) m q
unfolding first_failing first_of verdict
lot_first b l m q e = rw e

-- the second check is that of the configuration
pub second : {b d : Bool} {n m : ℕ} {l : List (Bool × ℕ)} → Passes ((b, n) ∷ (d, m) ∷ l) → d ≡ true
second (each e (each f k)) = f

pub after_checks : (l : List (Bool × ℕ)) (h : ℤ) (c : GLFTConfig) (vol : ℤ) → (Passes l → config_ok c ≡ true)
    → model_after (check_of (first_failing l)) h c vol ≡ model_if (first_failing (l ++ holding_checks h c vol)) (model_of c vol) (lots h c)
unfolding model_after first_of
after_checks l h c vol f = rw (verdict_told (first_failing l), failing_joined l (holding_checks h c vol)) (go (first_failing l) refl)
  where
    go : (v : Verdict) → first_failing l ≡ v
        → model_if (first_of v (first_failing ((above0 c.lot_size, configuration) ∷ holding_checks h c vol))) (model_of c vol) (lots h c) ≡ model_if (first_of v (first_failing (holding_checks h c vol))) (model_of c vol) (lots h c)
    go passes e = lot_first (above0 c.lot_size) (holding_checks h c vol) (model_of c vol) (lots h c) (is_true (above0 c.lot_size) (lot_passed c (f ((none_failing l).0 e))))
    go (refused n) e = refl
