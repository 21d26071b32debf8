-- `harness::word::signed_of` meets its contract: the library's reading in two's complement is that of the definition. Assumes nothing.
use Rattle.std.proofs.Common.{◌≡◌, ℕ, ◌-◌, ◌^◌, Bool, true, false, ltb, refl, ap, ◌∙◌, arith, rules}
use Rattle.std.specs.Prelude.{suc, pos, negsuc}
use mir.Val.{sel}
use Rattle.std.specs.Int.{w64, cast_signed}
use mir.Facts.{to_z-of_z}
use Rattle.harness.specs.Words.{signed_by, signed}
use Rattle.harness.proofs.word.signed_of.Goals as goal

reads : (n : ℕ) → cast_signed w64 n ≡ signed n
unfolding signed signed_by
reads n = go (ltb n 0x8000000000000000)
  where
    go : (b : Bool) → sel b (pos n) (negsuc (2 ^ 64 - suc n)) ≡ signed_by b n
    go true = refl
    go false = ap negsuc (omega arith)

pub returns : goal.returns
returns c = to_z-of_z {w = w64} (search rules) ∙ c.cast_signed.ensures ∙ reads _
