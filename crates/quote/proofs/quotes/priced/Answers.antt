use Rattle.std.specs.Prelude.{Ok, Err, Result}
use Rattle.std.proofs.Common.{◌≡◌, ℕ, sym, ap, ◌∙◌, arith}
use lib.Ieee.Bits.{is_true}
use Rattle.amounts.specs.Amounts.{amount_ok}
use Rattle.prices.specs.Prices.{each, widened, widen_if, widen, judge}
use Rattle.prices.specs.declared.GlftQuotes.{GlftQuotes}
use Rattle.quote.proofs.quotes.priced.Goals as goal
use Rattle.elementary.specs.declared.Refusal.{Refusal}
use mir.Syntax.{w64}
use mir.Val.{to_z, of_z}
use borrow.Author.Rules.{rules}

same : (p q : GlftQuotes) → ◌≡◌ {A = Result GlftQuotes Refusal} (Ok p) (Ok q) → p ≡ q
same p q e = cc

never : (p : GlftQuotes) (r : Refusal) → ◌≡◌ {A = Result GlftQuotes Refusal} (Ok p) (Err r) → ⊥
never p r e = let z : ◌≡◌ {A = ℕ} 0 1 = cc in omega arith

pub returns : goal.returns
unfolding widen widen_if
returns c =
    let mid_is : to_z w64 (of_z w64 c.args.around.mid) ≡ c.args.around.mid = search rules in
    let least_is : to_z w64 (of_z w64 c.args.around.least) ≡ c.args.around.least = search rules in
    let widened_is : let s = c.args in c.widen.result ≡ Ok (widened s.around.mid s.around.least s.bid s.ask) = rw (c.widen.ensures, mid_is, least_is, is_true (amount_ok c.args.around.mid) c.args.around.mid_fits, is_true (amount_ok c.args.around.least) c.args.around.least_fits, is_true (each amount_ok c.args.bid) c.requires.0, is_true (each amount_ok c.args.ask) c.requires.1) in
    c.judge.ensures ∙ ap judge (same _ _ (sym c.in_ok-widen.was ∙ widened_is))

pub returns-in_err-widen : goal.returns-in_err-widen
unfolding widen widen_if
returns-in_err-widen c =
    let mid_is : to_z w64 (of_z w64 c.args.around.mid) ≡ c.args.around.mid = search rules in
    let least_is : to_z w64 (of_z w64 c.args.around.least) ≡ c.args.around.least = search rules in
    let widened_is : let s = c.args in c.widen.result ≡ Ok (widened s.around.mid s.around.least s.bid s.ask) = rw (c.widen.ensures, mid_is, least_is, is_true (amount_ok c.args.around.mid) c.args.around.mid_fits, is_true (amount_ok c.args.around.least) c.args.around.least_fits, is_true (each amount_ok c.args.bid) c.requires.0, is_true (each amount_ok c.args.ask) c.requires.1) in
    absurd (never _ _ (sym widened_is ∙ c.in_err-widen.was))
