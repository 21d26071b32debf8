-- `lines::line::write_count` meets its contract: it writes as many digits as the count has. Assumes nothing.
use mathlib.Core.Path.{sym, ◌∙◌}
use native.Mathlib.Omega.{arith}
use lib.Dec.{lit<, lit≤}
use Rattle.lines.specs.Lines.{count}
use Rattle.lines.proofs.Digits.{length_count}
use Rattle.lines.proofs.line.write_count.Goals as goal

pub write_digits-requires : goal.write_digits-requires
write_digits-requires c = record { base_fits = (lit< tt, lit≤ tt); room = omega (arith, c.count_places-k.ensures, length_count c.args.n) }

pub returns : goal.returns
unfolding count
returns c =
    record { out_after = rw (← c.count_places-k.ensures) c.write_digits.ensures; value = c.count_places-k.ensures ∙ sym (length_count c.args.n) }
