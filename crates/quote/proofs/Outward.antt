-- No price lies inside its reckoned distance: the count is not below it, and a widening moves outward. Assumes nothing.
use Rattle.std.specs.Prelude.{Option, Result, Ok, Err, Float}
use Rattle.std.proofs.Common.{◌≡◌, ℕ, ℤ, refl, ap, arith}
use Rattle.distances.specs.declared.Answer.{Answer}
use Rattle.prices.specs.Prices.{build_quotes}
use Rattle.quote.specs.Quotes.{exact_answer, without_report, optimal_answer, exact_by, exact_quotes, optimal_quotes, closed_answer, closed_by, closed_form_quotes}
use Rattle.prices.specs.Outward.{Outside}
use Rattle.quote.specs.Outward.{OutsideOf, NeverInside}
use Rattle.model.specs.declared.GLFTConfig.{GLFTConfig}
use Rattle.prices.specs.declared.GlftQuotes.{GlftQuotes}
use Rattle.quote.specs.declared.ExactQuotes.TheVariants as Exact
use Rattle.prices.proofs.Outward.{built_outside}
use Rattle.quote.proofs.Pairs.{with_steps_is, wrapped_is}
use Rattle.elementary.specs.declared.Refusal.{Refusal}

-- ---- quotes of an answer
pub exact_outside : (mid least : ℤ) (r : Answer) (q : GlftQuotes) (s : ℕ) → exact_by mid least r ≡ Exact.Quotes q s → OutsideOf mid r q s
unfolding exact_by
exact_outside mid least (Answer.Distances b a n) q s e =
    let u = with_steps_is n s (build_quotes mid least b a) q e in
    (b, a, ap (Answer.Distances b a) u.1, built_outside mid least b a q u.0)
exact_outside mid least (Answer.OverCap need b n) q s e = let z : ◌≡◌ {A = ℕ} 0 1 = cc in absurd (omega arith)
exact_outside mid least (Answer.Refused r) q s e = let z : ◌≡◌ {A = ℕ} 0 1 = cc in absurd (omega arith)

closed_outside : (mid least : ℤ) (r : Result (Option Float × Option Float) Refusal) (q : GlftQuotes) → closed_by mid least r ≡ Ok q → (b : Option Float) × (a : Option Float) × (r ≡ Ok (b, a)) × Outside mid b a q
unfolding closed_by
closed_outside mid least (Ok (b, a)) q e = (b, a, refl, built_outside mid least b a q e)
closed_outside mid least (Err r) q e = let z : ◌≡◌ {A = ℕ} 0 1 = cc in absurd (omega arith)

-- ---- the entries
exact_never : (mid h : ℤ) (c : GLFTConfig) (vol : ℤ) (t : ℕ) (q : GlftQuotes) (s : ℕ) → exact_quotes mid h c vol t ≡ Exact.Quotes q s → OutsideOf mid (exact_answer mid h c vol t) q s
unfolding exact_quotes
exact_never mid h c vol t q s e = exact_outside mid c.min_spread (exact_answer mid h c vol t) q s e

-- the wrapper's distances are those of `exact_quotes`
optimal_never : (mid h : ℤ) (c : GLFTConfig) (vol : ℤ) (t : ℕ) (q : GlftQuotes) (s : ℕ) → optimal_quotes mid h c vol t ≡ Ok (q, s) → OutsideOf mid (optimal_answer mid h c vol t) q s
unfolding optimal_quotes optimal_answer without_report
optimal_never mid h c vol t q s e =
    let u = exact_never mid h c vol t q s (wrapped_is (exact_quotes mid h c vol t) q s e) in
    (u.0, u.1, ap without_report u.2, u.3)

pub never_inside : NeverInside
unfolding closed_form_quotes closed_answer
never_inside = record {
  exact = exact_never;
  optimal = optimal_never;
  closed = λ mid h c vol q e. closed_outside mid c.min_spread (closed_answer mid h c vol) q e;
}
