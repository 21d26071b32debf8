-- Every reply of an exact call keeps its prices, steps and number within their limits. Assumes nothing.
use Rattle.std.specs.Prelude.{Option, Some, None, Result, Ok, Err}
use Rattle.std.proofs.Common.{◌≡◌, ℕ, ◌≤◌, Bool, true, false, not, ◌&&◌, T, ℤ, pos, negsuc, sym, refl, ap, subst, inl, inr, arith, ltb-true, leb-true}
use mathlib.Core.Bool.{and-eq-true_iff}
use lib.Ieee.{Float, nan, inf, fin, lt, is_nan}
use Rattle.elementary.specs.Float.{whole}
use Rattle.elementary.specs.Checks.{Refuses, here, later, by}
use Rattle.plan.specs.Plan.{cap}
use Rattle.plan.specs.declared.RunInput.{RunInput}
use Rattle.distances.specs.FloatEntry.{float_entry}
use Rattle.distances.specs.Promises.{Counted}
use Rattle.distances.specs.declared.Answer.{Answer}
use Rattle.distances.proofs.Refusing.{float_reports}
use Rattle.prices.specs.Refusals.{crossed}
use Rattle.amounts.specs.Amounts.{amount_limit, amount_ok, above0, tau_of}
use Rattle.model.specs.Model.{input_of, exact_checks, exact_model}
use Rattle.prices.specs.Prices.{each, in_order, judge_if, judge, quotes_by, build_quotes, rounded, rounded_if, side, widened}
use Rattle.quote.specs.Quotes.{with_steps, exact_from, exact_answer, exact_by, exact_quotes, exact_steps}
use Rattle.prices.specs.Refusing.{Priced, by_13, by_14}
use Rattle.quote.specs.Replies.{PriceKept, ReplyKept, RepliesKept}
use Rattle.model.specs.declared.GLFTConfig.{GLFTConfig}
use Rattle.prices.specs.declared.GlftQuotes.{GlftQuotes}
use Rattle.quote.specs.declared.ExactQuotes.TheVariants as Exact
use Rattle.quote.proofs.Mirrors.{exact_counted}
use Rattle.quote.proofs.Refusing.{exact_refusals}
use Rattle.distances.specs.Distances.{fine}
use Rattle.elementary.specs.declared.Refusal.{Refusal}
use Rattle.model.specs.declared.Model.{Model}

-- ---- a price that passed 13 and 14
price_kept : (p : Option ℤ) → each amount_ok p ≡ true → each above0 p ≡ true → PriceKept p
unfolding PriceKept each amount_ok above0
price_kept None a h = tt
price_kept (Some (pos n)) a h = (ltb-true 0 n h, leb-true n amount_limit a)
price_kept (Some (negsuc n)) a h = let z : false ≡ true = h in absurd (subst T (sym z) tt)

-- are the prices within the limit, are they positive and in order
judged_kept : (s : ℕ) (q : GlftQuotes) → s ≤ cap → ReplyKept (with_steps s (judge q))
unfolding judge judge_if with_steps ReplyKept
judged_kept s q h = go _ _ refl refl
  where
    go : (x o : Bool) → (each amount_ok q.bid && each amount_ok q.ask) ≡ x → (each above0 q.bid && each above0 q.ask && in_order q.bid q.ask) ≡ o
        → ReplyKept (with_steps s (judge_if x o q))
    go false o e k = omega arith
    go true false e k = omega arith
    go true true e k =
        let u = (and-eq-true_iff (each amount_ok q.bid) (each amount_ok q.ask)).0 e in
        let v = (and-eq-true_iff (each above0 q.bid) (each above0 q.ask)).0 ((and-eq-true_iff (each above0 q.bid && each above0 q.ask) (in_order q.bid q.ask)).0 k).0 in
        (price_kept q.bid u.0 v.0, price_kept q.ask u.1 v.1, h)

-- from distances: a rounding that is refused is so by 11 or 13
quotes_kept : (s : ℕ) (mid least : ℤ) (b a : Option Float) → s ≤ cap → ReplyKept (with_steps s (build_quotes mid least b a))
unfolding build_quotes quotes_by rounded rounded_if with_steps ReplyKept
quotes_kept s mid least b a h = go (fine b && fine a) (each amount_ok (side b) && each amount_ok (side a))
  where
    go : (x y : Bool) → ReplyKept (with_steps s (quotes_by mid least (rounded_if x y (side b) (side a))))
    go false y = omega arith
    go true false = omega arith
    go true true = judged_kept s (widened mid least (side b) (side a)) h

-- ---- a report is of more steps than the budget, so of a number
Reported : Answer → Type 0
Reported (Answer.Distances b a s) = Unit {0}
Reported (Answer.OverCap need b s) = T (not (is_nan need))
Reported (Answer.Refused n) = Unit {0}

number_above : (x y : Float) → T (lt x y) → T (not (is_nan y))
unfolding lt is_nan
number_above nan nan h = h
number_above (inf s) nan h = h
number_above (fin s m e) nan h = h
number_above x (inf s) h = tt
number_above x (fin s m e) h = tt

float_reported : (k base : Float) (x : RunInput) (q : ℤ) → Reported (float_entry k base x q).answer
unfolding Reported
float_reported k base x q = go (float_entry k base x q).answer refl
  where
    go : (a : Answer) → (float_entry k base x q).answer ≡ a → Reported a
    go (Answer.Distances b a s) e = tt
    go (Answer.OverCap need b s) e = number_above (whole (pos b)) need ((float_reports k base x q need b s).0 e).report.above
    go (Answer.Refused r) e = tt

from_reported : (m : Result (Model × ℤ) Refusal) (tau : Float) → Reported (exact_from m tau)
unfolding Reported exact_from
from_reported (Ok (m, q)) tau = float_reported m.k m.base (input_of m tau) q
from_reported (Err r) tau = tt

-- ---- a refusal's number
checked_small : (mid h : ℤ) (c : GLFTConfig) (vol : ℤ) (t : ℕ) {n : ℕ} → Refuses (exact_checks mid h c vol t) n → n ≤ crossed
checked_small mid h c vol t (here e) = omega arith
checked_small mid h c vol t (later _ (here e)) = omega arith
checked_small mid h c vol t (later _ (later _ (here e))) = omega arith
checked_small mid h c vol t (later _ (later _ (later _ (here e)))) = omega arith
checked_small mid h c vol t (later _ (later _ (later _ (later _ (here e))))) = omega arith
checked_small mid h c vol t {n = n} (later _ (later _ (later _ (later _ (later _ x))))) = elim x [ ]

priced_small : {mid least : ℤ} {b a : Option Float} {n : ℕ} → Priced mid least b a n → n ≤ crossed
priced_small (by_13 h) = omega arith
priced_small (by_14 h k) = omega arith

module _ (mid h : ℤ) (c : GLFTConfig) (vol : ℤ) (t : ℕ) where
  answer_reported : Reported (exact_answer mid h c vol t)
  unfolding Reported exact_answer
  answer_reported = from_reported (exact_model mid h c vol t) (tau_of c.terminal_time t)

  refusal_small : (n : ℕ) → exact_quotes mid h c vol t ≡ Exact.Refused (by n) → n ≤ crossed
  refusal_small n e = elim ((exact_refusals mid h c vol t n).0 e) [ inl k ↦ checked_small mid h c vol t k | inr x ↦ elim x [ inl k ↦ omega (arith, k.0) | inr k ↦ priced_small k.4 ] ]

  answer_kept : (a : Answer) → exact_answer mid h c vol t ≡ a → ReplyKept (exact_by mid c.min_spread a)
  unfolding ReplyKept exact_quotes exact_by build_quotes quotes_by Counted Reported
  answer_kept (Answer.Distances b a s) e =
      let k = exact_counted mid h c vol t in
      let n : s ≡ exact_steps mid h c vol t = subst (λ (x : Answer). Counted x (exact_steps mid h c vol t)) e k.0 in
      quotes_kept s _ _ _ _ (omega (arith, n, k.1))
  answer_kept (Answer.OverCap need b s) e =
      (subst Reported e answer_reported, (subst (λ (x : Answer). Counted x (exact_steps mid h c vol t)) e (exact_counted mid h c vol t).0).1)
  answer_kept (Answer.Refused r) e = refusal_small r.0 (ap (exact_by mid c.min_spread) e)

pub replies_kept : RepliesKept
unfolding exact_quotes
replies_kept mid h c vol t = answer_kept mid h c vol t (exact_answer mid h c vol t) refl
