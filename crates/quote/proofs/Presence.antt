-- Quotes lack a side just where the distances do: at the bound, or at minus the bound. Assumes nothing.
use Rattle.std.specs.Prelude.{Option, Some, None, Result, Ok, Err}
use Rattle.std.proofs.Common.{◌≡◌, ℕ, ◌≤◌, Bool, true, false, ◌↔◌, ℤ, pos, negsuc, neg_ℤ, nat_abs, sym, refl, ap, ◌∙◌, arith, ltb-false, le-ltb, leb-true}
use mathlib.Core.Logic.Iff
use lib.IntN.{neg_ℤ-neg_ℤ}
use lib.Signed.{lt_z}
use lib.Ieee.{Float}
use Rattle.elementary.specs.Float.{whole, positive}
use Rattle.distances.specs.Promises.{Withheld}
use Rattle.distances.specs.declared.Answer.{Answer}
use Rattle.distances.proofs.Presence.{float_presence, sides_are}
use Rattle.amounts.specs.Amounts.{tau_of}
use Rattle.model.specs.Model.{lots, model_of, model_from, model_by, input_of, exact_checks, exact_model, closed_checks, closed_model}
use Rattle.quote.specs.ClosedForm.{slope, form_bid, form_ask, bid_form, ask_form, form_if, closed_form_distances}
use Rattle.prices.specs.Prices.{widened, side, widening, bid_price, ask_price, build_quotes}
use Rattle.quote.specs.Quotes.{exact_from, exact_answer, exact_by, exact_quotes, optimal_quotes, closed_from, closed_answer, closed_by, closed_form_quotes}
use Rattle.quote.specs.Presence.{Presence, ExactPresence, OptimalPresence, ClosedPresence}
use Rattle.model.specs.declared.GLFTConfig.{GLFTConfig}
use Rattle.model.specs.declared.Model.{Model}
use Rattle.prices.specs.declared.GlftQuotes.{GlftQuotes}
use Rattle.quote.specs.declared.ExactQuotes.TheVariants as Exact
use Rattle.amounts.proofs.Signed.{nat_abs_neg, lt_z_neg}
use Rattle.model.proofs.Passed.{stopped, passed, lots_passed, Made, made, closed_passed}
use Rattle.prices.proofs.Facing.{built_is}
use Rattle.quote.proofs.Pairs.{with_steps_is, wrapped_is}
use Rattle.elementary.specs.declared.Refusal.{Refusal}

-- ---- a price is absent where its distance is
bid_absent : (mid w : ℤ) (b : Option Float) → (bid_price mid w (side b) ≡ None) ↔ (b ≡ None)
unfolding side bid_price
bid_absent mid w None = (λ e. refl, λ e. refl)
bid_absent mid w (Some d) = (λ e. cc, λ e. cc)

ask_absent : (mid w : ℤ) (a : Option Float) → (ask_price mid w (side a) ≡ None) ↔ (a ≡ None)
unfolding side ask_price
ask_absent mid w None = (λ e. refl, λ e. refl)
ask_absent mid w (Some d) = (λ e. cc, λ e. cc)

-- ---- quotes from distances that withhold a side at the bound alone
module _ (mid least h : ℤ) (c : GLFTConfig) (q : GlftQuotes) where
  built : (b a : Option Float) → Withheld c.max_inventory_lots (lots h c) b a → build_quotes mid least b a ≡ Ok q → Presence h c q
  unfolding widened
  built b a w e =
      let m = widening least (side b) (side a) in
      rw (built_is mid least b a q e) (record { bid = Iff.trans (bid_absent mid m b) w.0; ask = Iff.trans (ask_absent mid m a) w.1 })

  exact_built : (r : Answer) (s : ℕ) → ((b a : Option Float) (n : ℕ) → r ≡ Answer.Distances b a n → Withheld c.max_inventory_lots (lots h c) b a)
      → exact_by mid least r ≡ Exact.Quotes q s → Presence h c q
  unfolding exact_by
  exact_built (Answer.Distances b a n) s w e = built b a (w b a n refl) (with_steps_is n s (build_quotes mid least b a) q e).0
  exact_built (Answer.OverCap need b n) s w e = let z : ◌≡◌ {A = ℕ} 0 1 = cc in absurd (omega arith)
  exact_built (Answer.Refused r) s w e = let z : ◌≡◌ {A = ℕ} 0 1 = cc in absurd (omega arith)

  closed_built : (r : Result (Option Float × Option Float) Refusal) → ((b a : Option Float) → r ≡ Ok (b, a) → Withheld c.max_inventory_lots (lots h c) b a) → closed_by mid least r ≡ Ok q → Presence h c q
  unfolding closed_by
  closed_built (Ok (b, a)) w e = built b a (w b a refl) e
  closed_built (Err r) w e = let z : ◌≡◌ {A = ℕ} 0 1 = cc in absurd (omega arith)

-- ---- exact quotes
from_withheld : (mid h : ℤ) (c : GLFTConfig) (vol : ℤ) (t : ℕ) {x : Result (Model × ℤ) Refusal} (b a : Option Float) (s : ℕ) → Made (exact_checks mid h c vol t) (model_of c vol) (lots h c) x
    → exact_from x (tau_of c.terminal_time t) ≡ Answer.Distances b a s → Withheld c.max_inventory_lots (lots h c) b a
unfolding exact_from model_of model_from model_by
from_withheld mid h c vol t b a s (stopped k) e = let z : ◌≡◌ {A = ℕ} 0 1 = cc in absurd (omega arith)
from_withheld mid h c vol t b a s (passed k) e = let m = model_of c vol in float_presence m.k m.base (input_of m (tau_of c.terminal_time t)) (lots h c) b a s e

answer_withheld : (mid h : ℤ) (c : GLFTConfig) (vol : ℤ) (t : ℕ) (b a : Option Float) (s : ℕ) → exact_answer mid h c vol t ≡ Answer.Distances b a s → Withheld c.max_inventory_lots (lots h c) b a
unfolding exact_answer exact_model
answer_withheld mid h c vol t b a s e = from_withheld mid h c vol t b a s (made _ _ _) e

pub exact_presence : ExactPresence
unfolding exact_quotes
exact_presence mid h c vol t q s e = exact_built mid c.min_spread h c q (exact_answer mid h c vol t) s (answer_withheld mid h c vol t) e

pub optimal_presence : OptimalPresence
unfolding optimal_quotes
optimal_presence mid h c vol t q s e = exact_presence mid h c vol t q s (wrapped_is (exact_quotes mid h c vol t) q s e)

-- ---- those of the closed form
-- within the bound, not below it is at it
top : (q : ℤ) (b : ℕ) → nat_abs q ≤ b → (lt_z q (pos b) ≡ false) ↔ (q ≡ pos b)
top (pos n) b h = (λ e. ap pos (omega (arith, ltb-false n b e)), λ e. le-ltb n b (omega (arith, ap nat_abs e)))
top (negsuc n) b h = (λ e. cc, λ e. cc)

bottom : (q : ℤ) (b : ℕ) → nat_abs q ≤ b → (lt_z (neg_ℤ (pos b)) q ≡ false) ↔ (q ≡ neg_ℤ (pos b))
bottom q b h =
    let t = top (neg_ℤ q) b (rw (nat_abs_neg q) h) in
    let s : lt_z (neg_ℤ (pos b)) q ≡ lt_z (neg_ℤ q) (pos b) = ap (lt_z (neg_ℤ (pos b))) (sym (neg_ℤ-neg_ℤ q)) ∙ lt_z_neg (neg_ℤ q) (pos b) in
    (λ e. sym (neg_ℤ-neg_ℤ q) ∙ ap neg_ℤ (t.0 (sym s ∙ e)), λ e. s ∙ t.1 (ap neg_ℤ e ∙ neg_ℤ-neg_ℤ (pos b)))

form_bid_absent : (t : Bool) (base c x : Float) → (form_bid t base c x ≡ None) ↔ (t ≡ false)
unfolding form_bid
form_bid_absent false base c x = (λ e. refl, λ e. refl)
form_bid_absent true base c x = (λ e. cc, λ e. cc)

form_ask_absent : (t : Bool) (base c x : Float) → (form_ask t base c x ≡ None) ↔ (t ≡ false)
unfolding form_ask
form_ask_absent false base c x = (λ e. refl, λ e. refl)
form_ask_absent true base c x = (λ e. cc, λ e. cc)

form_withheld : (m : Model) (q : ℤ) → nat_abs q ≤ m.q_max → (b a : Option Float) → closed_form_distances m q ≡ Ok (b, a) → Withheld m.q_max q b a
unfolding closed_form_distances form_if bid_form ask_form
form_withheld m q h b a = go (positive (slope m))
  where
    go : (t : Bool) → form_if t m q ≡ Ok (b, a) → Withheld m.q_max q b a
    go true e =
        let u = sides_are _ _ _ b a e in
        rw (← u.0, ← u.1) (Iff.trans (form_bid_absent _ m.base (slope m) (whole q)) (top q m.q_max h), Iff.trans (form_ask_absent _ m.base (slope m) (whole q)) (bottom q m.q_max h))
    go false e = let z : ◌≡◌ {A = ℕ} 0 1 = cc in absurd (omega arith)

closed_withheld : (mid h : ℤ) (c : GLFTConfig) (vol : ℤ) {x : Result (Model × ℤ) Refusal} → Made (closed_checks mid h c vol) (model_of c vol) (lots h c) x
    → (b a : Option Float) → closed_from x ≡ Ok (b, a) → Withheld c.max_inventory_lots (lots h c) b a
unfolding closed_from model_of model_from model_by
closed_withheld mid h c vol (stopped k) b a e = let z : ◌≡◌ {A = ℕ} 0 1 = cc in absurd (omega arith)
closed_withheld mid h c vol (passed k) b a e =
    form_withheld (model_of c vol) (lots h c) (leb-true (nat_abs (lots h c)) c.max_inventory_lots (lots_passed h c (closed_passed mid h c vol k).4)) b a e

pub closed_presence : ClosedPresence
unfolding closed_form_quotes closed_answer closed_model
closed_presence mid h c vol q e = closed_built mid c.min_spread h c q (closed_answer mid h c vol) (closed_withheld mid h c vol (made _ _ _)) e
