-- Change request 5: no price from a shared vector lies inside its reckoned distance. Proved once, in proofs/. Definitions only.
use Rattle.std.specs.Prelude.{◌≡◌, ℕ, ℤ, Float}
use Rattle.vector.specs.declared.VectorAnswer.{VectorAnswer}
use Rattle.distances.specs.Reading.{answer_from}
use Rattle.lots.specs.Reckoning.{quotes_from, quotes_of_lots}
use Rattle.model.specs.declared.GLFTConfig.{GLFTConfig}
use Rattle.prices.specs.declared.GlftQuotes.{GlftQuotes}
use Rattle.quote.specs.declared.ExactQuotes.TheVariants as Exact
use Rattle.lots.specs.declared.Reckoning.{Reckoning}
use Rattle.quote.specs.Outward.{OutsideOf}

pub record LotsNeverInside : Type 0 where
  pub from : (mid least : ℤ) (k base : Float) (l : ℤ) (v : VectorAnswer) (q : GlftQuotes) (s : ℕ) → quotes_from mid least k base l v ≡ Exact.Quotes q s → OutsideOf mid (answer_from v k base l) q s
  pub lots : (mid : ℤ) (c : GLFTConfig) (r : Reckoning) (l : ℤ) (q : GlftQuotes) (s : ℕ) → quotes_of_lots mid c r l ≡ Exact.Quotes q s → OutsideOf mid (answer_from r.vector r.k r.base l) q s
