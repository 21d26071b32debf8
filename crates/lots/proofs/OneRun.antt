-- All replies from one reckoning: how they end, their steps, and opposite lots; and what refuses them all. Assumes nothing.
use Rattle.std.specs.Prelude.{Option, Result, Ok, Err}
use mathlib.Core.Path.{◌≡◌, refl, sym, ap, ◌∙◌}
use mathlib.Core.Logic.{◌⊎◌, ◌↔◌, inl, inr}
use Prim.Native.Nat.{ℕ, suc, ◌≤◌}
use native.Mathlib.Omega.{arith}
use mathlib.Core.Bool.{Bool, true, false, ◌&&◌}
use mathlib.Core.List.{List, ◌∷◌, []}
use lib.IntN.{ℤ, pos, negsuc, neg_ℤ, ◌*ℤ◌, *ℤ_comm, *ℤ-negsuc}
use lib.Ieee.{Float}
use Rattle.elementary.specs.Elementary.{outside}
use Rattle.elementary.specs.Checks.{Verdict, verdict, first_of, first_failing, check_of, Refuses, here, later, Passes, by}
use Rattle.elementary.specs.Checks as Checks
use Rattle.elementary.proofs.Checks.{first_failing_lem, none_failing, check_refused, same_number}
use Rattle.vector.specs.Refusals.{configuration}
use Rattle.vector.specs.declared.ValueVector.{ValueVector}
use Rattle.vector.specs.declared.Outcome.{Outcome}
use Rattle.distances.specs.Refusals.{holding}
use Rattle.distances.specs.Distances.{exact_distances}
use Rattle.distances.specs.Reading.{sides_with, read_by, answer_from}
use Rattle.distances.specs.declared.Answer.TheVariants as Answer
use Rattle.amounts.specs.Refusals.{limits}
use Rattle.model.specs.Refusals.{market}
use Rattle.amounts.specs.Amounts.{amount_ok, time_ok}
use Rattle.model.specs.Configuration.{config_ok, turned}
use Rattle.model.specs.Model.{model_limits, check_call, market_checks, holding_checks, check_exact}
use Rattle.prices.specs.Prices.{build_quotes}
use Rattle.quote.specs.Quotes.{with_steps, exact_by, from_if, quotes_by_answer}
use Rattle.prices.specs.Refusing.{Priced, by_13, by_14}
use Rattle.quote.specs.Promises.{PricedOf}
use Rattle.lots.specs.Reckoning.{quotes_from, holding_of, lots_checks, lots_if, quotes_of_lots, by_report, by_refusal, LotsEnd, Carries, OneRun, LotsMirror, Early, CheckRefusals, FromRefusals, LotsRefusals}
use Rattle.model.specs.declared.GLFTConfig.{GLFTConfig}
use Rattle.quote.specs.declared.ExactQuotes.{ExactQuotes}
use Rattle.quote.specs.declared.ExactQuotes.TheVariants as Exact
use Rattle.lots.specs.declared.Reckoning.{Reckoning}
use Rattle.amounts.proofs.Signed.{nat_abs_neg, times_neg}
use Rattle.model.proofs.Joined.{refuses_more}
use Rattle.model.proofs.Turned.{limits_turned}
use Rattle.quote.proofs.Mirrors.{exact_mirror}
use Rattle.quote.proofs.Pairs.{exact_pairs}
use Rattle.distances.proofs.Finite.{finite_distances}
use Rattle.quote.proofs.Refusing.{exact_by_lem, exact_refusals}
use Rattle.lots.proofs.Lots.{amounts_checked, lot_checked, lots_are_single}
use Rattle.elementary.specs.declared.Refusal.{Refusal}
use Rattle.prices.specs.declared.GlftQuotes.{GlftQuotes}

-- ---- a reckoning that ends in a report or a refusal
pub lots_end : LotsEnd
unfolding quotes_of_lots first_failing first_of verdict quotes_from quotes_by_answer from_if answer_from read_by exact_by
lots_end mid c vol t q x e (by_report h) = rw (lot_checked mid c vol t e, amounts_checked mid c vol t e, h)
lots_end mid c vol t q x e (by_refusal h) = rw (lot_checked mid c vol t e, amounts_checked mid c vol t e, h)

-- ---- the steps of a run, by its outcome
spent : Outcome → ℕ
spent (Outcome.Done s) = s
spent (Outcome.OverCap need b s) = s
spent (Outcome.Refused r) = 0

judged_carries : (s n : ℕ) (j : Result GlftQuotes Refusal) → Carries (with_steps s j) n → s ≡ n
unfolding Carries with_steps
judged_carries s n (Ok q) h = h
judged_carries s n (Err r) h = absurd h

module _ (mid least : ℤ) (v : ValueVector) (k base : Float) (q : ℤ) (n : ℕ) where
  sides_carry : (s : ℕ) (x : Result (Option Float × Option Float) Refusal) → Carries (exact_by mid least (sides_with s x)) n → s ≡ n
  unfolding Carries exact_by sides_with
  sides_carry s (Ok (b, a)) h = judged_carries s n (build_quotes mid least b a) h
  sides_carry s (Err r) h = absurd h

  outcome_carries : (o : Outcome) → Carries (exact_by mid least (read_by o v k base q)) n → spent o ≡ n
  unfolding Carries exact_by read_by spent
  outcome_carries (Outcome.Done s) h = sides_carry s (exact_distances v k base q) h
  outcome_carries (Outcome.OverCap need b s) h = h
  outcome_carries (Outcome.Refused r) h = absurd h

from_carries : (t : Bool) (x : ExactQuotes) (n : ℕ) → Carries (from_if t x) n → Carries x n
unfolding from_if Carries
from_carries true x n h = h
from_carries false x n h = absurd h

lots_carry : (v : Verdict) (x : ExactQuotes) (n : ℕ) → Carries (lots_if v x) n → Carries x n
unfolding lots_if Carries
lots_carry Checks.passes x n h = h
lots_carry (Checks.refused r) x n h = absurd h

run_carries : (mid : ℤ) (c : GLFTConfig) (r : Reckoning) (q : ℤ) (n : ℕ) → Carries (quotes_of_lots mid c r q) n → spent r.vector.outcome ≡ n
unfolding quotes_of_lots quotes_from quotes_by_answer answer_from
run_carries mid c r q n h =
    outcome_carries mid c.min_spread r.vector.vector r.k r.base q n r.vector.outcome (from_carries _ _ n (lots_carry _ _ n h))

pub one_run : OneRun
one_run mid c r q p n m h g = sym (run_carries mid c r q n h) ∙ run_carries mid c r p m g

-- ---- opposite lots and drifts
negated_by : (q : ℤ) (n : ℕ) → neg_ℤ q *ℤ pos n ≡ neg_ℤ (q *ℤ pos n)
negated_by q n = *ℤ_comm (neg_ℤ q) (pos n) ∙ times_neg n q ∙ ap neg_ℤ (*ℤ_comm (pos n) q)

negated_times : (q d : ℤ) → neg_ℤ q *ℤ d ≡ neg_ℤ (q *ℤ d)
negated_times q (pos n) = negated_by q n
negated_times q (negsuc n) = *ℤ-negsuc (neg_ℤ q) n ∙ ap neg_ℤ (negated_by q (suc n)) ∙ ap neg_ℤ (sym (*ℤ-negsuc q n))

holding_negated : (c : GLFTConfig) (q : ℤ) → holding_of c (neg_ℤ q) ≡ neg_ℤ (holding_of c q)
unfolding holding_of
holding_negated c q = negated_times q c.lot_size

pub check_turned : (mid : ℤ) (c : GLFTConfig) (vol : ℤ) (t : ℕ) → check_call mid (turned c) vol t ≡ check_call mid c vol t
unfolding check_call check_exact model_limits config_ok
check_turned mid c vol t = rw (limits_turned c)

pub lots_mirror : LotsMirror
unfolding holding_of
lots_mirror mid c vol t q e h =
    let n = holding_negated c q in (
      rw n (exact_mirror mid (holding_of c q) c vol t).0,
      λ x y s r u w.
          (exact_pairs mid (holding_of c q) c vol t x y s r (sym (lots_are_single mid c vol t q e h) ∙ u)
          (rw (← n) (sym (lots_are_single mid (turned c) vol t (neg_ℤ q) (check_turned mid c vol t ∙ e) (rw (nat_abs_neg q) h)) ∙ w))).0,
    )

-- ---- what refuses a call whatever the holding
market_early : {l v m : Bool} {n : ℕ} → Refuses ((l, limits) ∷ (v, configuration) ∷ (m, market) ∷ []) n → Early n
market_early (here e) = inl refl
market_early (later _ (here e)) = inr (inl refl)
market_early (later _ (later _ (here e))) = inr (inr refl)
market_early {l = l} {v = v} {m = m} {n = n} (later _ (later _ (later _ x))) = elim x [ ]

-- 4 and later numbers are not early
not_early : {A : Type 0} (n : ℕ) → 4 ≤ n → Early n → A
not_early n h (inl e) = absurd (omega arith)
not_early n h (inr (inl e)) = absurd (omega arith)
not_early n h (inr (inr e)) = absurd (omega arith)

early_market : {l v m h f : Bool} {n : ℕ} → Early n → Refuses ((l, limits) ∷ (v, configuration) ∷ (m, market) ∷ (h, holding) ∷ (f, outside) ∷ []) n → Refuses ((l, limits) ∷ (v, configuration) ∷ (m, market) ∷ []) n
early_market y (here e) = here e
early_market y (later l (here e)) = later l (here e)
early_market y (later l (later v (here e))) = later l (later v (here e))
early_market y (later l (later v (later m (here e)))) = not_early 4 (omega arith) y
early_market y (later l (later v (later m (later h (here e))))) = not_early 5 (omega arith) y
early_market {f = f} {n = n} y (later l (later v (later m (later h (later _ x))))) = elim x [ ]

priced_late : {mid least : ℤ} {b a : Option Float} {n : ℕ} → Priced mid least b a n → 4 ≤ n
priced_late (by_13 h) = omega arith
priced_late (by_14 h k) = omega arith

pub check_refusals : CheckRefusals
unfolding check_call check_exact check_of
check_refusals mid c vol t n =
    let l = market_checks (time_ok t && model_limits mid (pos 0) c vol) mid c vol in (
      λ e. let k = (first_failing_lem l n).0 (check_refused (first_failing l) (by n) (sym e)) in (market_early k, (exact_refusals mid (pos 0) c vol t n).1 (inl (refuses_more (holding_checks (pos 0) c vol) k))),
      λ x.
          elim ((exact_refusals mid (pos 0) c vol t n).0 x.1) [
            | inl k ↦ rw ((first_failing_lem l n).1 (early_market x.0 k))
            | inr k ↦ elim k [ inl f ↦ not_early n (omega (arith, f.0)) x.0 | inr p ↦ not_early n (priced_late p.4) x.0 ]
          ],
    )

-- ---- what refuses quotes from a vector, and those of so many lots
pub from_refusals : FromRefusals
unfolding quotes_from quotes_by_answer from_if
from_refusals mid least k base q a n = (to (amount_ok mid && amount_ok least) refl, λ x. elim x [ inl y ↦ rw (y.1, y.0) | inr y ↦ rw y.0 ((exact_by_lem mid least (answer_from a k base q) n (finite_distances.answer a k base q)).1 y.1) ])
  where
    to : (t : Bool) → (amount_ok mid && amount_ok least) ≡ t → from_if t (exact_by mid least (answer_from a k base q)) ≡ Exact.Refused (by n)
        → ((n ≡ limits) × ((amount_ok mid && amount_ok least) ≡ false))
        ⊎ (((amount_ok mid && amount_ok least) ≡ true) × ((answer_from a k base q ≡ Answer.Refused (by n)) ⊎ PricedOf mid least (answer_from a k base q) n))
    to false h e = inl (same_number (let z : by n ≡ by limits = cc in z), h)
    to true h e = inr (h, (exact_by_lem mid least (answer_from a k base q) n (finite_distances.answer a k base q)).0 e)

lots_refused : (l : List (Bool × ℕ)) (x : ExactQuotes) (n : ℕ) → (lots_if (first_failing l) x ≡ Exact.Refused (by n)) ↔ (Refuses l n ⊎ (Passes l × (x ≡ Exact.Refused (by n))))
unfolding lots_if
lots_refused l x n = (to (first_failing l) refl, λ y. elim y [ inl k ↦ rw ((first_failing_lem l n).1 k) | inr k ↦ rw ((none_failing l).1 k.0) k.1 ])
  where
    to : (v : Verdict) → first_failing l ≡ v → lots_if v x ≡ Exact.Refused (by n) → Refuses l n ⊎ (Passes l × (x ≡ Exact.Refused (by n)))
    to Checks.passes k e = inr ((none_failing l).0 k, e)
    to (Checks.refused r) k e = let z : r ≡ n = same_number (let y : by r ≡ by n = cc in y) in inl ((first_failing_lem l n).0 (k ∙ ap Checks.refused z))

pub lots_refusals : LotsRefusals
unfolding quotes_of_lots
lots_refusals mid c r q n = lots_refused (lots_checks c q) (quotes_from mid c.min_spread r.k r.base q r.vector) n
