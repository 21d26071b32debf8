-- The plans of records: the line of one that is over the cap or refused is the record's own, and each fits the least line buffer. Assumes nothing.
use mathlib.Core.Path.{◌≡◌, refl, subst}
use Prim.Native.Nat.{ℕ, zero, suc, ◌≤◌}
use native.Mathlib.Omega.{arith}
use lib.ListN.{length}
use lib.Ieee.{Float}
use Rattle.plan.specs.declared.FirstPlan.{FirstPlan}
use Rattle.quote.specs.Replies.{ReplyKept}
use Rattle.quote.specs.declared.ExactQuotes.{ExactQuotes}
use Rattle.quote.specs.Quotes.{exact_quotes}
use Rattle.quote.proofs.Replies.{replies_kept}
use Rattle.quote.proofs.DeskPlan.{desk_plan_is_first}
use Rattle.record.specs.Record.{config_of}
use Rattle.lines.specs.Lines.{answer_line, least_room, plan_line}
use Rattle.lines.proofs.Widths.{counted_most, refusal_most, cap_most}
use Rattle.record.specs.declared.record.Record.{Record}
use Rattle.sheet.specs.Sheet.{record_line}
use Rattle.sheet.specs.Horizon.{plan_of, record_plan}
use Rattle.elementary.specs.Checks.{by}

module _ (r : Record) where
  -- what the exact call replies
  abbrev reply : ExactQuotes
  reply = exact_quotes r.mid_price r.inventory (config_of r) r.volatility r.current_time

  reported : (need : Float) (b : ℕ) → plan_of r ≡ FirstPlan.OverCap need b → reply ≡ ExactQuotes.OverStepCap need b 0
  reported need b e = (desk_plan_is_first.over _ _ _ _ _ need b).0 e

  refusing : (n : ℕ) → plan_of r ≡ FirstPlan.Refused (by n) → reply ≡ ExactQuotes.Refused (by n)
  refusing n e = desk_plan_is_first.refused _ _ _ _ _ n e

  reply_kept : (a : ExactQuotes) → reply ≡ a → ReplyKept a
  reply_kept a e = subst ReplyKept e (replies_kept _ _ _ _ _)

  -- ---- the record's own line
  pub over_line : (need : Float) (b : ℕ) → plan_of r ≡ FirstPlan.OverCap need b → record_plan r ≡ record_line r
  unfolding record_plan record_line plan_line answer_line
  over_line need b e = rw (e, reported need b e)

  pub refused_line : (n : ℕ) → plan_of r ≡ FirstPlan.Refused (by n) → record_plan r ≡ record_line r
  unfolding record_plan record_line plan_line answer_line
  refused_line n e = rw (e, refusing n e)

  -- ---- a plan's line fits
  most_by : (p : FirstPlan) → plan_of r ≡ p → length (plan_line p) ≤ least_room
  unfolding plan_line ReplyKept
  most_by (FirstPlan.Steps zero) e = counted_most 78 0 (omega arith)
  most_by (FirstPlan.Steps (suc s)) e = counted_most 78 (suc s) (omega (arith, (desk_plan_is_first.steps _ _ _ _ _ s e).3.within))
  most_by (FirstPlan.OverCap need b) e = cap_most need b (omega (arith, (reply_kept _ (reported need b e)).1))
  most_by (FirstPlan.Refused r) e = refusal_most r.0 (omega (arith, reply_kept _ (refusing r.0 e)))

pub plan_most : (r : Record) → length (record_plan r) ≤ least_room
unfolding record_plan
plan_most r = most_by r (plan_of r) refl
