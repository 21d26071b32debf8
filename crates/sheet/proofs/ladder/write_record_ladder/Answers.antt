use Rattle.std.specs.Prelude.{Err}
use mathlib.Core.Path.{◌≡◌, refl, sym, ◌∙◌}
use lib.Dec.{eqb}
use lib.ListN.{length}
use Rattle.amounts.proofs.Limits.{kept}
use Rattle.record.specs.Record.{config_of}
use Rattle.lines.specs.Lines.{refusal_line, wrote, text_left}
use Rattle.lines.proofs.Written.{line_is}
use Rattle.ladders.specs.Refusals.{small_ladder_buffer}
use Rattle.ladders.specs.Ladder.{laddered, laddered_in}
use Rattle.sheet.specs.Ladders.{refused_by, record_ladder}
use Rattle.sheet.proofs.Ladders.{text_written, left_refused}
use Rattle.sheet.proofs.ladder.write_record_ladder.Goals as goal
use Rattle.elementary.specs.declared.Refusal.{Refusal}

pub returns-then-eq : goal.returns-then-eq
unfolding refused_by wrote text_left record_ladder
returns-then-eq c =
    let answered : let a = c.args in let r = a.r in (c.write_ladder.result ≡ laddered r.mid_price (config_of r) r.volatility r.current_time a.out.now) × (c.write_ladder.new.out ≡ laddered_in r.mid_price (config_of r) r.volatility r.current_time a.out.now) = let r = c.args.r in
    let g = c.struct_told-2-1.given in
    (rw (c.config_of.ensures, kept r.mid_price g.0.1, kept r.volatility g.1.1.0.1) at c.write_ladder.ensures.value, rw (c.config_of.ensures, kept r.mid_price g.0.1, kept r.volatility g.1.1.0.1) at c.write_ladder.ensures.out_after) in
    let unchanged : (n : Refusal) → c.write_ladder.result ≡ Err n → let a = c.args in (c.write_ladder.new.out ≡ a.out.now) × (record_ladder (length a.out.now) a.r ≡ refused_by (eqb n.0 small_ladder_buffer) n.0) = λ n e. let o = answered in left_refused _ _ _ n (sym e ∙ o.0) o.1 in
    let u = unchanged _ c.in-Err.is in
    rw (u.1, sym c.if-eq.ensures) (record { value = refl; out_after = u.0 })

pub returns-in-Ok : goal.returns-in-Ok
unfolding record_ladder
returns-in-Ok c =
    let answered : let a = c.args in let r = a.r in (c.write_ladder.result ≡ laddered r.mid_price (config_of r) r.volatility r.current_time a.out.now) × (c.write_ladder.new.out ≡ laddered_in r.mid_price (config_of r) r.volatility r.current_time a.out.now) = let r = c.args.r in
    let g = c.struct_told-2-1.given in
    (rw (c.config_of.ensures, kept r.mid_price g.0.1, kept r.volatility g.1.1.0.1) at c.write_ladder.ensures.value, rw (c.config_of.ensures, kept r.mid_price g.0.1, kept r.volatility g.1.1.0.1) at c.write_ladder.ensures.out_after) in
    let o = answered in
    let p = text_written _ _ _ _ (sym c.in-Ok.is ∙ o.0) o.1 in record { value = p.0; out_after = p.1 }

pub returns-else-eq : goal.returns-else-eq
unfolding refused_by record_ladder
returns-else-eq c =
    let answered : let a = c.args in let r = a.r in (c.write_ladder.result ≡ laddered r.mid_price (config_of r) r.volatility r.current_time a.out.now) × (c.write_ladder.new.out ≡ laddered_in r.mid_price (config_of r) r.volatility r.current_time a.out.now) = let r = c.args.r in
    let g = c.struct_told-2-1.given in
    (rw (c.config_of.ensures, kept r.mid_price g.0.1, kept r.volatility g.1.1.0.1) at c.write_ladder.ensures.value, rw (c.config_of.ensures, kept r.mid_price g.0.1, kept r.volatility g.1.1.0.1) at c.write_ladder.ensures.out_after) in
    let unchanged : (n : Refusal) → c.write_ladder.result ≡ Err n → let a = c.args in (c.write_ladder.new.out ≡ a.out.now) × (record_ladder (length a.out.now) a.r ≡ refused_by (eqb n.0 small_ladder_buffer) n.0) = λ n e. let o = answered in left_refused _ _ _ n (sym e ∙ o.0) o.1 in
    let u = unchanged _ c.in-Err.is in
    rw (u.1, sym c.if-eq.ensures, ← line_is (refusal_line c.in-Err.refusal.0) c.args.out.now c.requires) (let p = rw u.0 at c.write_refusal.ensures in record { value = p.value; out_after = p.line_after })
