-- `sheet::line::write_record` meets its contract: the answer is the definition's. Assumes nothing.
use mathlib.Core.Path.{◌≡◌}
use Prim.Native.Nat.{◌<◌, ◌^◌}
use lib.IntN.{ℤ}
use lib.Signed.{mag}
use mir.Syntax.{w64}
use mir.Val.{SFits, to_z, of_z}
use mir.Facts.{to_z-of_z}
use Rattle.quote.specs.Quotes.{exact_quotes}
use Rattle.record.specs.Record.{config_of}
use Rattle.sheet.specs.Sheet.{record_line}
use Rattle.sheet.proofs.line.write_record.Goals as goal

-- an i64 is passed as it is
passed : (z : ℤ) → mag z < 2 ^ 63 → to_z w64 (of_z w64 z) ≡ z
passed z h = let f : SFits w64 z = record { sfits = h } in to_z-of_z f

pub returns : goal.returns
unfolding record_line
returns c =
    let reply : let r = c.args.r in c.exact_quotes-answer.result ≡ exact_quotes r.mid_price r.inventory (config_of r) r.volatility r.current_time = let r = c.args.r in
    let g = c.struct_told-3-1.given in
    rw (c.config_of.ensures, passed r.mid_price g.0.1, passed r.inventory g.1.0.1, passed r.volatility g.1.1.0.1) at c.exact_quotes-answer.ensures in
    rw (← reply) (record { value = c.write_answer.ensures.value; line_after = c.write_answer.ensures.line_after })
