-- The wrapper's two calls of demand 3 before prices: from those of exact_quotes. Assumes nothing.
use Rattle.std.proofs.Common.{◌≡◌, ℤ, refl, ap, ◌∙◌}
use Rattle.distances.specs.Promises.{exchanged}
use Rattle.distances.specs.declared.Answer.{Answer}
use Rattle.distances.specs.declared.Answer.TheVariants.{Distances, OverCap, Refused}
use Rattle.quote.specs.Quotes.{exact_answer, without_report, optimal_answer, exact_by, exact_quotes, wrapped, optimal_quotes}
use Rattle.quote.specs.Promises.{OptimalPriced, OptimalMirror}
use Rattle.quote.proofs.Mirrors.{exact_mirror}

priced_alike : (mid least : ℤ) (r : Answer) → wrapped (exact_by mid least r) ≡ wrapped (exact_by mid least (without_report r))
unfolding without_report exact_by wrapped
priced_alike mid least (Distances b a s) = refl
priced_alike mid least (OverCap need b s) = refl
priced_alike mid least (Refused r) = refl

pub optimal_priced : OptimalPriced
unfolding optimal_quotes exact_quotes optimal_answer
optimal_priced mid h c vol t = priced_alike mid c.min_spread (exact_answer mid h c vol t)

exchanged_alike : (r : Answer) → without_report (exchanged r) ≡ exchanged (without_report r)
unfolding without_report exchanged
exchanged_alike (Distances b a s) = refl
exchanged_alike (OverCap need b s) = refl
exchanged_alike (Refused r) = refl

pub optimal_mirror : OptimalMirror
unfolding optimal_answer
optimal_mirror mid h c vol t =
    let m = exact_mirror mid h c vol t in
    (ap without_report m.0 ∙ exchanged_alike (exact_answer mid h c vol t), m.1, m.2)
