-- What every reply of an exact call keeps, for the layer that prints it. Proved once, in proofs/. Definitions only.
use Rattle.std.specs.Prelude.{◌≡◌, ℕ, ◌+◌, ◌≤◌, not, T, ℤ, pos, negsuc, is_nan, Option, Some, None}
use Rattle.plan.specs.Plan.{cap}
use Rattle.prices.specs.Refusals.{crossed}
use Rattle.amounts.specs.Amounts.{amount_limit}
use Rattle.quote.specs.Quotes.{exact_quotes}
use Rattle.model.specs.declared.GLFTConfig.{GLFTConfig}
use Rattle.quote.specs.declared.ExactQuotes.{ExactQuotes}
use Rattle.quote.specs.declared.ExactQuotes.TheVariants.{Quotes, OverStepCap, Refused}

-- a price is positive and within the amount limit
unfoldable pub PriceKept : Option ℤ → Type 0
PriceKept (Some (pos n)) = (1 ≤ n) × (n ≤ amount_limit)
PriceKept (Some (negsuc n)) = ⊥
PriceKept None = Unit {0}

-- steps and budget are within the cap, the steps needed are no NaN, and 14 is the largest number that refuses
unfoldable pub ReplyKept : ExactQuotes → Type 0
ReplyKept (Quotes q s) = PriceKept q.bid × PriceKept q.ask × (s ≤ cap)
ReplyKept (OverStepCap need b s) = T (not (is_nan need)) × (s + b ≡ cap)
ReplyKept (Refused r) = r.0 ≤ crossed

abbrev pub RepliesKept : Type 0
RepliesKept = (mid h : ℤ) (c : GLFTConfig) (vol : ℤ) (t : ℕ) → ReplyKept (exact_quotes mid h c vol t)
