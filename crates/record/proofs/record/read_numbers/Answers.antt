-- `record::record::read_numbers` meets its contract: numbers are stored where all of them are there. Assumes nothing.
use Rattle.std.specs.Prelude.{Ok, Err}
use mathlib.Core.Path.{◌≡◌, sym, ◌∙◌}
use Prim.Native.Nat.{ℕ}
use mathlib.Core.List.{List}
use Rattle.record.specs.Record.{Read, numbers_answer, numbers_left}
use Rattle.record.specs.Inner.{Stored}
use Rattle.record.proofs.Reading.{taken_parts, refused_parts}
use Rattle.record.proofs.record.read_numbers.Goals as goal
use Rattle.elementary.specs.declared.Refusal.{Refusal}
use Rattle.elementary.proofs.Results.{handed_on}

-- what is left where the numbers go
left-taken : (n : ℕ) (x : Read (List ℕ)) (m : ℕ) (out₀ out : List ℕ) → Ok m ≡ numbers_answer n x → Stored x out → out ≡ numbers_left x out₀
unfolding numbers_left
left-taken n x m out₀ out e h = rw (taken_parts n x m out e h).1

left_refused : (n : ℕ) (x : Read (List ℕ)) (r : Refusal) (out₀ : List ℕ) → Err r ≡ numbers_answer n x → out₀ ≡ numbers_left x out₀
unfolding numbers_left
left_refused n x r out₀ e = rw (refused_parts n x r e)

pub returns : goal.returns
returns c =
    let e = c.take_numbers.ensures in
    record { value = e.value; out_after = left-taken _ _ _ _ _ (sym c.in_ok-place_after.was ∙ c.place_after.ensures) e.stored }

pub returns-in_err-place_after : goal.returns-in_err-place_after
returns-in_err-place_after c =
    let e = sym c.in_err-place_after.was ∙ c.place_after.ensures in
    record {
      value = handed_on c.from_residual.result c.in_err-place_after.field-0.0 c.from_residual.ensures.1 ∙ e;
      out_after = left_refused _ _ _ _ e;
    }
