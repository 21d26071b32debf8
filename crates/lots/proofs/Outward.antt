-- No price from a shared vector lies inside its reckoned distance: the quotes are those of an answer before prices. Assumes nothing.
use mathlib.Core.Path.{◌≡◌}
use Prim.Native.Nat.{ℕ}
use native.Mathlib.Omega.{arith}
use mathlib.Core.Bool.{Bool, true, false, ◌&&◌}
use lib.IntN.{ℤ}
use lib.Ieee.{Float}
use Rattle.elementary.specs.Checks.{Verdict, passes, refused, first_failing}
use Rattle.vector.specs.declared.VectorAnswer.{VectorAnswer}
use Rattle.distances.specs.Reading.{answer_from}
use Rattle.amounts.specs.Amounts.{amount_ok}
use Rattle.quote.specs.Quotes.{exact_by, from_if, quotes_by_answer}
use Rattle.lots.specs.Reckoning.{quotes_from, lots_checks, lots_if, quotes_of_lots}
use Rattle.quote.specs.Outward.{OutsideOf}
use Rattle.model.specs.declared.GLFTConfig.{GLFTConfig}
use Rattle.prices.specs.declared.GlftQuotes.{GlftQuotes}
use Rattle.quote.specs.declared.ExactQuotes.TheVariants as Exact
use Rattle.lots.specs.declared.Reckoning.{Reckoning}
use Rattle.quote.proofs.Outward.{exact_outside}
use Rattle.lots.specs.Outward.{LotsNeverInside}

from_never : (mid least : ℤ) (k base : Float) (l : ℤ) (v : VectorAnswer) (q : GlftQuotes) (s : ℕ) → quotes_from mid least k base l v ≡ Exact.Quotes q s → OutsideOf mid (answer_from v k base l) q s
unfolding quotes_from quotes_by_answer from_if
from_never mid least k base l v q s = go (amount_ok mid && amount_ok least)
  where
    go : (t : Bool) → from_if t (exact_by mid least (answer_from v k base l)) ≡ Exact.Quotes q s → OutsideOf mid (answer_from v k base l) q s
    go true e = exact_outside mid least (answer_from v k base l) q s e
    go false e = let z : ◌≡◌ {A = ℕ} 0 1 = cc in absurd (omega arith)

lots_never : (mid : ℤ) (c : GLFTConfig) (r : Reckoning) (l : ℤ) (q : GlftQuotes) (s : ℕ) → quotes_of_lots mid c r l ≡ Exact.Quotes q s → OutsideOf mid (answer_from r.vector r.k r.base l) q s
unfolding quotes_of_lots lots_if
lots_never mid c r l q s = go (first_failing (lots_checks c l))
  where
    go : (v : Verdict) → lots_if v (quotes_from mid c.min_spread r.k r.base l r.vector) ≡ Exact.Quotes q s → OutsideOf mid (answer_from r.vector r.k r.base l) q s
    go passes e = from_never mid c.min_spread r.k r.base l r.vector q s e
    go (refused n) e = let z : ◌≡◌ {A = ℕ} 0 1 = cc in absurd (omega arith)

pub lots_never_inside : LotsNeverInside
lots_never_inside = record { from = from_never; lots = lots_never }
