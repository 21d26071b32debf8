-- Each field is the word that the definition names. Assumes nothing.
use mathlib.Core.Path.{◌≡◌}
use mir.Facts.{to_z-of_z}
use mir.Val.{to_z, of_z}
use mir.Syntax.{w64}
use Rattle.harness.specs.Entries.{entry_at}
use Rattle.harness.proofs.entry.entry_at.Goals as goal

pub returns : goal.returns
unfolding entry_at
returns c =
    let z = c.signed_of.result in
    let held : to_z w64 (of_z w64 z) ≡ z = to_z-of_z {w = w64} (record { sfits = c.signed_of.type_inv }) in
    rw (c.float_at.ensures, c.float_at-2.ensures, c.float_at-3.ensures, c.float_at-4.ensures, c.bound_of.ensures, c.word_at.ensures, c.float_at-5.ensures, held, c.signed_of.ensures, c.word_at-2.ensures, c.float_at-6.ensures)
