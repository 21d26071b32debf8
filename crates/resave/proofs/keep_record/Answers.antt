-- `resave::keep_record` meets its contract: a record that the reader takes can be saved. Assumes nothing.
use Rattle.std.specs.Prelude.{Ok}
use mathlib.Core.Path.{◌≡◌, refl, sym, ◌∙◌}
use Prim.Native.Nat.{ℕ}
use native.Mathlib.Omega.{arith}
use lib.ListN.{length}
use Rattle.record.specs.Record.{read_record}
use Rattle.buffers.specs.Over.{over}
use Rattle.record.specs.Save.{record_bytes, saved, saved_in}
use Rattle.record.specs.declared.record.Record.{Record}
use Rattle.record.specs.declared.record.RecordAnswer.TheVariants as RecordAnswer
use Rattle.record.proofs.Saving.{saved_whole}
use Rattle.record.proofs.Saved.{taken_saves}
use Rattle.resave.specs.Resave.{piece, onward}
use Rattle.resave.proofs.keep_record.Goals as goal

pub returns-in-Ok : goal.returns-in-Ok
unfolding piece onward
returns-in-Ok c =
    let record_of : Record = c.in-Record.r in
    let took : let a = c.args in read_record a.s.now a.at ≡ RecordAnswer.Record record_of c.in-Record.next = sym c.read_record.ensures ∙ c.in-Record.is in
    let whole : let a = c.args in (saved record_of a.out.now ≡ Ok (length (record_bytes record_of))) × (saved_in record_of a.out.now ≡ over (record_bytes record_of) a.out.now) = saved_whole record_of c.args.out.now c.requires (taken_saves c.args.s.now c.args.at record_of _ took) in
    let k = whole in
    let a = c.save_record.ensures in
    let n : c.in-Ok.count ≡ length (record_bytes record_of) = cc (a.value, c.in-Ok.is, k.0) in
    rw took (record { count_value = n; next_value = refl; out_after = a.out_after ∙ k.1 })

pub returns-in-Err : goal.returns-in-Err
returns-in-Err c =
    let record_of : Record = c.in-Record.r in
    let took : let a = c.args in read_record a.s.now a.at ≡ RecordAnswer.Record record_of c.in-Record.next = sym c.read_record.ensures ∙ c.in-Record.is in
    let whole : let a = c.args in (saved record_of a.out.now ≡ Ok (length (record_bytes record_of))) × (saved_in record_of a.out.now ≡ over (record_bytes record_of) a.out.now) = saved_whole record_of c.args.out.now c.requires (taken_saves c.args.s.now c.args.at record_of _ took) in
    let z : ◌≡◌ {A = ℕ} 0 1 = cc (c.save_record.ensures.value, c.in-Err.is, whole.0) in
    absurd (omega arith)

pub returns-in-Skipped : goal.returns-in-Skipped
unfolding piece onward over
returns-in-Skipped c =
    let e = sym c.read_record.ensures ∙ c.in-Skipped.is in
    rw e (record { count_value = refl; next_value = refl; out_after = refl })

pub returns-in-Refused : goal.returns-in-Refused
unfolding piece onward over
returns-in-Refused c =
    let e = sym c.read_record.ensures ∙ c.in-Refused.is in
    rw e (record { count_value = refl; next_value = refl; out_after = refl })
