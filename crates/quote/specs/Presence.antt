-- When a side is withheld, for the three entries: whenever a call ends in quotes. Proved once, in proofs/. Definitions only.
use Rattle.std.specs.Prelude.{◌≡◌, ℕ, ◌↔◌, ℤ, pos, neg_ℤ, None, Ok}
use Rattle.model.specs.Model.{lots}
use Rattle.quote.specs.Quotes.{exact_quotes, optimal_quotes, closed_form_quotes}
use Rattle.model.specs.declared.GLFTConfig.{GLFTConfig}
use Rattle.prices.specs.declared.GlftQuotes.{GlftQuotes}
use Rattle.quote.specs.declared.ExactQuotes.TheVariants as Exact

-- no bid just where the lots are the bound, no ask just where they are minus the bound
pub record Presence (h : ℤ) (c : GLFTConfig) (q : GlftQuotes) : Type 0 where
  pub bid : (q.bid ≡ None) ↔ (lots h c ≡ pos c.max_inventory_lots)
  pub ask : (q.ask ≡ None) ↔ (lots h c ≡ neg_ℤ (pos c.max_inventory_lots))

abbrev pub ExactPresence : Type 0
ExactPresence = (mid h : ℤ) (c : GLFTConfig) (vol : ℤ) (t : ℕ) (q : GlftQuotes) (s : ℕ) → exact_quotes mid h c vol t ≡ Exact.Quotes q s → Presence h c q

abbrev pub OptimalPresence : Type 0
OptimalPresence = (mid h : ℤ) (c : GLFTConfig) (vol : ℤ) (t : ℕ) (q : GlftQuotes) (s : ℕ) → optimal_quotes mid h c vol t ≡ Ok (q, s) → Presence h c q

abbrev pub ClosedPresence : Type 0
ClosedPresence = (mid h : ℤ) (c : GLFTConfig) (vol : ℤ) (q : GlftQuotes) → closed_form_quotes mid h c vol ≡ Ok q → Presence h c q
