-- Document 01, module 5: the three entries. Definitions only.
use Rattle.std.specs.Prelude.{ℕ, Bool, true, false, ◌&&◌, ℤ, Float, Option, Result, Ok, Err}
use Rattle.distances.specs.FloatEntry.{float_entry, float_steps}
use Rattle.distances.specs.declared.Answer.{Answer}
use Rattle.amounts.specs.Refusals.{limits}
use Rattle.quote.specs.Refusals.{capped}
use Rattle.amounts.specs.Amounts.{amount_ok, tau_of}
use Rattle.model.specs.Model.{input_of, exact_model, closed_model}
use Rattle.quote.specs.ClosedForm.{closed_form_distances}
use Rattle.model.specs.declared.GLFTConfig.{GLFTConfig}
use Rattle.model.specs.declared.Model.{Model}
use Rattle.quote.specs.declared.ExactQuotes.{ExactQuotes}
use Rattle.prices.specs.Prices.{build_quotes}
use Rattle.elementary.specs.declared.Refusal.{Refusal}
use Rattle.elementary.specs.Checks.{by}
use Rattle.prices.specs.declared.GlftQuotes.{GlftQuotes}

-- ---- before prices: the distances with their steps, a report, or a refusal
unfoldable pub exact_from : Result (Model × ℤ) Refusal → Float → Answer
exact_from (Err r) tau = Answer.Refused r
exact_from (Ok (m, q)) tau = (float_entry m.k m.base (input_of m tau) q).answer

unfoldable pub exact_answer : ℤ → ℤ → GLFTConfig → ℤ → ℕ → Answer
exact_answer mid h c vol t = exact_from (exact_model mid h c vol t) (tau_of c.terminal_time t)

-- the wrapper's: 12 for a report
unfoldable pub without_report : Answer → Answer
without_report (Answer.Distances b a s) = Answer.Distances b a s
without_report (Answer.OverCap need b s) = Answer.Refused (by capped)
without_report (Answer.Refused r) = Answer.Refused r

unfoldable pub optimal_answer : ℤ → ℤ → GLFTConfig → ℤ → ℕ → Answer
optimal_answer mid h c vol t = without_report (exact_answer mid h c vol t)

unfoldable pub closed_from : Result (Model × ℤ) Refusal → Result (Option Float × Option Float) Refusal
closed_from (Err r) = Err r
closed_from (Ok (m, q)) = closed_form_distances m q

unfoldable pub closed_answer : ℤ → ℤ → GLFTConfig → ℤ → Result (Option Float × Option Float) Refusal
closed_answer mid h c vol = closed_from (closed_model mid h c vol)

-- ---- the entries
unfoldable pub with_steps : ℕ → Result GlftQuotes Refusal → ExactQuotes
with_steps s (Ok q) = ExactQuotes.Quotes q s
with_steps s (Err r) = ExactQuotes.Refused r

unfoldable pub exact_by : ℤ → ℤ → Answer → ExactQuotes
exact_by mid least (Answer.Distances b a s) = with_steps s (build_quotes mid least b a)
exact_by mid least (Answer.OverCap need b s) = ExactQuotes.OverStepCap need b s
exact_by mid least (Answer.Refused r) = ExactQuotes.Refused r

unfoldable pub exact_quotes : ℤ → ℤ → GLFTConfig → ℤ → ℕ → ExactQuotes
exact_quotes mid h c vol t = exact_by mid c.min_spread (exact_answer mid h c vol t)

-- over the cap is 12
unfoldable pub wrapped : ExactQuotes → Result (GlftQuotes × ℕ) Refusal
wrapped (ExactQuotes.Quotes q s) = Ok (q, s)
wrapped (ExactQuotes.OverStepCap need b s) = Err (by capped)
wrapped (ExactQuotes.Refused r) = Err r

unfoldable pub optimal_quotes : ℤ → ℤ → GLFTConfig → ℤ → ℕ → Result (GlftQuotes × ℕ) Refusal
optimal_quotes mid h c vol t = wrapped (exact_quotes mid h c vol t)

unfoldable pub closed_by : ℤ → ℤ → Result (Option Float × Option Float) Refusal → Result GlftQuotes Refusal
closed_by mid least (Ok (b, a)) = build_quotes mid least b a
closed_by mid least (Err r) = Err r

unfoldable pub closed_form_quotes : ℤ → ℤ → GLFTConfig → ℤ → Result GlftQuotes Refusal
closed_form_quotes mid h c vol = closed_by mid c.min_spread (closed_answer mid h c vol)

-- the finished steps of the run that an exact call defines, under a refusal too
unfoldable pub steps_from : Result (Model × ℤ) Refusal → Float → ℕ
steps_from (Err r) tau = 0
steps_from (Ok (m, q)) tau = float_steps m.k m.base (input_of m tau) q

unfoldable pub exact_steps : ℤ → ℤ → GLFTConfig → ℤ → ℕ → ℕ
exact_steps mid h c vol t = steps_from (exact_model mid h c vol t) (tau_of c.terminal_time t)

-- ---- the exact quotes of any answer before prices: are mid and min spread within the limit, or 2
unfoldable pub from_if : Bool → ExactQuotes → ExactQuotes
from_if false x = ExactQuotes.Refused (by limits)
from_if true x = x

unfoldable pub quotes_by_answer : ℤ → ℤ → Answer → ExactQuotes
quotes_by_answer mid least r = from_if (amount_ok mid && amount_ok least) (exact_by mid least r)
