-- `record::save::save_record` meets its contract: the tests in their order, and the numbers of a record that can be saved fit the buffer. Assumes nothing.
use Rattle.std.specs.Prelude.{Ok}
use mathlib.Core.Path.{sym, ap, ◌∙◌, subst}
use native.Mathlib.Omega.{arith}
use lib.Dec.{T}
use Rattle.record.specs.Save.{record_bytes, save_ok}
use Rattle.record.proofs.Saving.{numbers_eleven, bytes_fit, saved_short, saved_none, saved_whole}
use Rattle.record.proofs.save.save_record.Goals as goal

pub returns-then-out-lt-RECORD_ROOM : goal.returns-then-out-lt-RECORD_ROOM
returns-then-out-lt-RECORD_ROOM c =
    let a = c.args in
    let k = saved_short a.r a.out.now c.if-out-lt-RECORD_ROOM.true in
    record { value = sym k.0; out_after = sym k.1 }

pub numbers_of-v-requires : goal.numbers_of-v-requires
numbers_of-v-requires c =
    let can : T (save_ok c.args.r) = subst T (sym c.if-can_save.true ∙ c.can_save.ensures) tt in
    can

pub write_numbers-requires : goal.write_numbers-requires
unfolding record_bytes
write_numbers-requires c =
    let can : T (save_ok c.args.r) = subst T (sym c.if-can_save.true ∙ c.can_save.ensures) tt in
    rw c.numbers_of-v.ensures (record { eleven = numbers_eleven _; room = omega (arith, bytes_fit _ can) })

pub returns-then-can_save : goal.returns-then-can_save
unfolding record_bytes
returns-then-can_save c =
    let a = c.args in
    let k = saved_whole a.r a.out.now c.if-out-lt-RECORD_ROOM.false (sym c.can_save.ensures ∙ c.if-can_save.true) in
    let i = c.numbers_of-v.ensures in
    record { value = ap Ok (rw i at c.write_numbers.ensures.value) ∙ sym k.0; out_after = rw i at c.write_numbers.ensures.out_after ∙ sym k.1 }

pub returns : goal.returns
returns c =
    let a = c.args in
    let k = saved_none a.r a.out.now c.if-out-lt-RECORD_ROOM.false (sym c.can_save.ensures ∙ c.if-can_save.false) in
    record { value = sym k.0; out_after = sym k.1 }
