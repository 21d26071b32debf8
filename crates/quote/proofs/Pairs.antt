-- Prices of two calls at opposite holdings: those that face each other add up to twice the mid, widened or not. Assumes nothing.
use Rattle.std.specs.Prelude.{Option, Result, Ok, Err, Float}
use Rattle.std.proofs.Common.{◌≡◌, ℕ, ℤ, sym, ◌∙◌, arith}
use Rattle.distances.specs.Promises.{Counted, exchanged, exchanged_sides}
use Rattle.distances.specs.declared.Answer.{Answer}
use Rattle.prices.specs.Prices.{build_quotes}
use Rattle.quote.specs.Quotes.{with_steps, exact_by, exact_answer, exact_quotes, wrapped, optimal_quotes, closed_by, closed_answer, closed_form_quotes, exact_steps}
use Rattle.prices.specs.Facing.{Pair}
use Rattle.quote.specs.Promises.{ExactPairs, OptimalPairs, ClosedPairs}
use Rattle.prices.specs.declared.GlftQuotes.{GlftQuotes}
use Rattle.quote.specs.declared.ExactQuotes.{ExactQuotes}
use Rattle.quote.specs.declared.ExactQuotes.TheVariants as Exact
use Rattle.prices.proofs.Facing.{built_facing}
use Rattle.quote.proofs.Mirrors.{exact_mirror, exact_counted, closed_mirror}
use Rattle.elementary.specs.declared.Refusal.{Refusal}
use Rattle.elementary.proofs.Results.{ok_pair}

-- ---- exact quotes
pub with_steps_is : (s s' : ℕ) (j : Result GlftQuotes Refusal) (q : GlftQuotes) → with_steps s j ≡ Exact.Quotes q s' → (j ≡ Ok q) × (s ≡ s')
unfolding with_steps
with_steps_is s s' (Ok p) q e = (cc, cc)
with_steps_is s s' (Err r) q e = (cc, cc)

exact_pair : (mid least : ℤ) (r : Answer) (n : ℕ) (q q' : GlftQuotes) (s s' : ℕ) → Counted r n
    → exact_by mid least r ≡ Exact.Quotes q s → exact_by mid least (exchanged r) ≡ Exact.Quotes q' s' → Pair mid q q' × (s ≡ s') × (s ≡ n)
unfolding exact_by exchanged Counted
exact_pair mid least (Answer.Distances b a t) n q q' s s' k e e' =
    let u = with_steps_is t s (build_quotes mid least b a) q e in
    let u' = with_steps_is t s' (build_quotes mid least a b) q' e' in
    (built_facing mid least b a q q' u.0 u'.0, sym u.1 ∙ u'.1, sym u.1 ∙ k)
exact_pair mid least (Answer.OverCap need b t) n q q' s s' k e e' = let z : ◌≡◌ {A = ℕ} 0 1 = cc in absurd (omega arith)
exact_pair mid least (Answer.Refused r) n q q' s s' k e e' = let z : ◌≡◌ {A = ℕ} 0 1 = cc in absurd (omega arith)

pub exact_pairs : ExactPairs
unfolding exact_quotes
exact_pairs mid h c vol t q q' s s' e e' =
    exact_pair mid c.min_spread (exact_answer mid h c vol t) (exact_steps mid h c vol t) q q' s s' (exact_counted mid h c vol t).0 e (rw (exact_mirror mid h c vol t).0 at e')

-- ---- the wrapper's
pub wrapped_is : (r : ExactQuotes) (q : GlftQuotes) (s : ℕ) → wrapped r ≡ Ok (q, s) → r ≡ Exact.Quotes q s
unfolding wrapped
wrapped_is (Exact.Quotes p n) q s e = let (i, j) = ok_pair e in rw (i, j)
wrapped_is (Exact.OverStepCap need b n) q s e = cc
wrapped_is (Exact.Refused r) q s e = cc

pub optimal_pairs : OptimalPairs
unfolding optimal_quotes
optimal_pairs mid h c vol t q q' s s' e e' = exact_pairs mid h c vol t q q' s s' (wrapped_is _ q s e) (wrapped_is _ q' s' e')

-- ---- those of the closed form
closed_pair : (mid least : ℤ) (r : Result (Option Float × Option Float) Refusal) (q q' : GlftQuotes) → closed_by mid least r ≡ Ok q → closed_by mid least (exchanged_sides r) ≡ Ok q' → Pair mid q q'
unfolding closed_by exchanged_sides
closed_pair mid least (Ok (b, a)) q q' e e' = built_facing mid least b a q q' e e'
closed_pair mid least (Err r) q q' e e' = let z : ◌≡◌ {A = ℕ} 0 1 = cc in absurd (omega arith)

pub closed_pairs : ClosedPairs
unfolding closed_form_quotes
closed_pairs mid h c vol q q' e e' = closed_pair mid c.min_spread (closed_answer mid h c vol) q q' e (rw (closed_mirror mid h c vol) at e')
