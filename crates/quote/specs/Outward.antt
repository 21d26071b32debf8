-- Change request 5: no price lies inside its reckoned distance. Proved once, in proofs/. Definitions only.
use Rattle.std.specs.Prelude.{◌≡◌, ℕ, ℤ, Option, Ok, Float}
use Rattle.distances.specs.declared.Answer.{Answer}
use Rattle.quote.specs.Quotes.{exact_answer, optimal_answer, closed_answer, exact_quotes, optimal_quotes, closed_form_quotes}
use Rattle.model.specs.declared.GLFTConfig.{GLFTConfig}
use Rattle.prices.specs.declared.GlftQuotes.{GlftQuotes}
use Rattle.quote.specs.declared.ExactQuotes.TheVariants as Exact
use Rattle.prices.specs.Outward.{Outside}

-- quotes of an answer before prices: it has distances, and with them its steps
abbrev pub OutsideOf : ℤ → Answer → GlftQuotes → ℕ → Type 0
OutsideOf mid r q s = (b : Option Float) × (a : Option Float) × (r ≡ Answer.Distances b a s) × Outside mid b a q

-- every reply that ends in quotes, of each entry, widened or not
pub record NeverInside : Type 0 where
  pub exact : (mid h : ℤ) (c : GLFTConfig) (vol : ℤ) (t : ℕ) (q : GlftQuotes) (s : ℕ) → exact_quotes mid h c vol t ≡ Exact.Quotes q s → OutsideOf mid (exact_answer mid h c vol t) q s
  pub optimal : (mid h : ℤ) (c : GLFTConfig) (vol : ℤ) (t : ℕ) (q : GlftQuotes) (s : ℕ) → optimal_quotes mid h c vol t ≡ Ok (q, s) → OutsideOf mid (optimal_answer mid h c vol t) q s
  pub closed : (mid h : ℤ) (c : GLFTConfig) (vol : ℤ) (q : GlftQuotes) → closed_form_quotes mid h c vol ≡ Ok q
      → (b : Option Float) × (a : Option Float) × (closed_answer mid h c vol ≡ Ok (b, a)) × Outside mid b a q
